-- Order ids (document 01, "Fields": 37), held as two numbers. Assumes nothing.
use Rattle.std.specs.Prelude.{Option, Some, None}
use Rattle.std.specs.Prelude.{ℕ, zero, suc, ◌+◌, ◌-◌, ◌*◌, ◌/◌, ◌%◌, List, [], ◌∷◌, ◌++◌, Bool, true, cond, ◌&&◌, length, take, drop, leb, eqb}
use Rattle.orderid.specs.declared.OrderId.{OrderId}
pub use Rattle.holding.specs.OrderIds.{top, full, id_sound}

-- a byte of 33 to 126
abbrev pub id_byte : ℕ → Bool
id_byte b = leb 33 b && leb b 126

-- all of them
abbrev pub id_bytes : List ℕ → Bool
id_bytes [] = true
id_bytes (b ∷ bs) = id_byte b && id_bytes bs

-- 37: 1 to 16 bytes, each 33 to 126
unfoldable pub is_id : List ℕ → Bool
is_id t = leb 1 (length t) && (leb (length t) 16 && id_bytes t)

-- a word's number has a digit of 1 to 94 for each byte, the byte less 32; here after the bytes that gave v
abbrev pub word_from : ℕ → List ℕ → ℕ
word_from v [] = v
word_from v (b ∷ bs) = word_from (v * 94 + (b - 32)) bs

-- an id of two words
abbrev pub order_id : ℕ → ℕ → OrderId
order_id a b = record { by = a; more = b }

-- the first 8 bytes are one word, the rest another, 0 where there is none
unfoldable pub id_of : List ℕ → Option OrderId
id_of t = cond (is_id t) (Some (order_id (word_from 0 (take 8 t)) (word_from 0 (drop 8 t)))) None

-- the bytes of a word, at most k of them
unfoldable pub word_text : ℕ → ℕ → List ℕ
word_text zero n = []
word_text (suc k) n = cond (eqb n 0) [] (word_text k ((n - 1) / 94) ++ ((33 + (n - 1) % 94) ∷ []))

-- the bytes of an id
unfoldable pub id_text : ℕ → ℕ → List ℕ
id_text a b = word_text 8 a ++ word_text 8 b

-- bytes in one number, the first lowest, zeros above the last
abbrev pub packs : List ℕ → ℕ
packs [] = 0
packs (b ∷ bs) = b + 256 * packs bs

-- a word as a quote has it
unfoldable pub packed_of : ℕ → ℕ
packed_of n = packs (word_text 8 n)
