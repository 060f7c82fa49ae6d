-- `salvage::fill` meets its contract: what is left of the pieces fills what is left of the room. Assumes nothing.
use Prim.Native.Nat.{◌-◌}
use mathlib.Core.Path.{◌≡◌}
use lib.ListN.{length}
use Rattle.stretch.specs.Stretches.{some_length, stretch_at}
use Rattle.salvage.proofs.Filling.{Going}
use Rattle.salvage.proofs.fill.Given as goal

abbrev pub invariant-loop-i : goal.invariant-loop-i
invariant-loop-i l = Going l.rec l.from l.initial.out l.out l.i l.at l.k × (l.m ≡ some_length (stretch_at l.rec l.i))

abbrev pub decreases-loop-i : goal.decreases-loop-i
decreases-loop-i l = length l.rec - l.i
