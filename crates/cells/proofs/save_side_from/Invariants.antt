-- `save_side_from` meets its contract: the first i entries stand in the store, those before `from` from the start.
use Rattle.cells.specs.Cells.{flat}
use lib.Seq.{sets}
use lib.ListN.{take}
use Prim.Native.Nat.{◌+◌}
use mathlib.Core.Path.{◌≡◌}
use Rattle.cells.proofs.save_side_from.Given as goal

abbrev pub invariant-loop-i : goal.invariant-loop-i
invariant-loop-i l = l.store ≡ sets l.initial.store (l.at + 1) (flat (take l.i l.s.places))
