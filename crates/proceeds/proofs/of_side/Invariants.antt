-- The whole lot is what the places that are left make of the present sum. Assumes nothing.
use Rattle.std.proofs.Common.{◌≡◌, ◌≤◌, drop}
use Rattle.book.specs.Canonical.{held_in}
use Rattle.sums.specs.Sums.{sum_of}
use Rattle.sums.proofs.Levels.{most}
use Rattle.proceeds.specs.Lots.{lot_of}
use Rattle.proceeds.proofs.Runs.{run}
use Rattle.proceeds.proofs.of_side.Given as goal

abbrev pub invariant-loop-e : goal.invariant-loop-e
invariant-loop-e l = (l.level ≤ most) × (l.left ≤ l.quantity) × (lot_of l.quantity (held_in l.fn.s) ≡ run (sum_of l.level) l.left (drop l.e-index l.e-items))
