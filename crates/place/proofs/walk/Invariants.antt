-- `place::walk` meets its contract: the whole place is what was passed and what is left. Assumes nothing.
use Prim.Native.Nat.{◌-◌}
use Rattle.place.proofs.Walking.{Walks}
use Rattle.place.proofs.walk.Given as goal

abbrev pub invariant-loop-at : goal.invariant-loop-at
invariant-loop-at l = Walks l.s l.start l.stop l.named l.low l.high l.fn.marks l.marks l.at

abbrev pub decreases-loop-at : goal.decreases-loop-at
decreases-loop-at l = l.end - l.at
