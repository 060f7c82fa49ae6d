-- An action as it is read, and whether it has values. Assumes nothing.
use Rattle.std.specs.Prelude.{Option}
use mathlib.Core.Path.{◌≡◌, sym, ◌∙◌}
use mathlib.Core.List.{List}
use mathlib.Core.Bool.{true, false}
use Prim.Native.Nat.{ℕ, ◌≤◌, ◌<◌}
use borrow.Author.Tests.{le-leb, lt-leb}
use lib.Dec.{leb}
use Rattle.digits.specs.Digits.{ranged_of}

-- 279 is read from 0 to 4
pub action_is : (text : List ℕ) {r n : Option ℕ} → r ≡ ranged_of 1 0 4 text → r ≡ n → ranged_of 1 0 4 text ≡ n
action_is text p q = sym p ∙ q

-- new and change have values, and the deletes have none
pub has_values : (action : ℕ) → action ≤ 1 → leb action 1 ≡ true
has_values action l = le-leb action 1 l

pub deletes : {action : ℕ} → 1 < action → leb action 1 ≡ false
deletes l = lt-leb _ 1 l
