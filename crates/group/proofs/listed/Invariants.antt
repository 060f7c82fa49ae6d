-- `group::listed` meets its contract: the whole group is what was said and what is left, at each entry. Assumes nothing.
use Prim.Native.Nat.{◌-◌}
use Rattle.group.specs.Reads.{Spared}
use Rattle.group.proofs.Listing.{Listing}
use Rattle.group.proofs.listed.Given as goal

abbrev pub invariant-loop-at : goal.invariant-loop-at
invariant-loop-at l = Listing l.s l.start l.count l.depth l.t l.run l.n l.next l.more l.at × Spared l.initial.run l.run

abbrev pub decreases-loop-at : goal.decreases-loop-at
decreases-loop-at l = l.end - l.at
