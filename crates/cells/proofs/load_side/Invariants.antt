-- `load_side` meets its contract: the loop has filled the first i places.
use Rattle.cells.specs.Cells.{tab, entry_at}
use lib.ListN.{length, take}
use Prim.Native.Nat.{ℕ, ◌+◌, ◌*◌}
use mathlib.Core.Path.{◌≡◌}
use Rattle.cells.proofs.load_side.Given as goal

abbrev pub invariant-loop-i : goal.invariant-loop-i
invariant-loop-i l = (take l.i l.place-items ≡ tab (λ (k : ℕ). entry_at l.store (l.at + 1 + k * 5)) l.i) × (length l.place-items ≡ 20)
