-- Bytes are a sender or a target where they are read as an order id. Assumes nothing.
use Rattle.std.specs.Option.{is_some}
use Rattle.std.specs.Prelude.{Some, None}
use mathlib.Core.Path.{◌≡◌, refl}
use mathlib.Core.Bool.{Bool, true, false, cond}
use mathlib.Core.List.{List}
use Prim.Native.Nat.{ℕ}
use Rattle.orderid.specs.OrderIds.{is_id, id_of}
use Rattle.orderid.specs.declared.OrderId.{OrderId}

chosen : (s : Bool) (x : OrderId) → is_some (cond s (Some x) None) ≡ s
chosen true x = refl
chosen false x = refl

pub is_read : (t : List ℕ) → is_some (id_of t) ≡ is_id t
unfolding id_of
is_read t = chosen (is_id t) _
