-- One word of an order id, read and written. Assumes nothing.
use Rattle.std.specs.Prelude.{Option, Some, None}
use Rattle.orderid.specs.OrderIds.{order_id}
use Rattle.std.specs.Prelude.{ℕ, zero, suc, ◌/◌, ◌%◌, List, [], ◌∷◌, cond, eqb}
use Rattle.orderid.specs.OrderIds.{id_bytes, word_from}
use Rattle.orderid.specs.declared.OrderId.{OrderId}

-- what the bytes that are left give after those that gave v
abbrev pub word_rest : ℕ → List ℕ → Option ℕ
word_rest v bs = cond (id_bytes bs) (Some (word_from v bs)) None

-- a word of bytes of 33 to 126
unfoldable pub word_of : List ℕ → Option ℕ
word_of bs = word_rest 0 bs

-- an id of two words
abbrev pub joined : Option ℕ → Option ℕ → Option OrderId
joined (Some a) (Some b) = Some (order_id a b)
joined (Some a) None = None
joined None w = None

-- the bytes of a number, low byte first, at most k and up to the last that isn't 0
unfoldable pub bytes_in : ℕ → ℕ → List ℕ
bytes_in zero w = []
bytes_in (suc k) w = cond (eqb w 0) [] (w % 256 ∷ bytes_in k (w / 256))
