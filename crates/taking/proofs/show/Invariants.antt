-- `show` meets its contract: the places made so far and the entries to come make the whole side.
use Rattle.taking.proofs.Showing.{Shows}
use Rattle.board.specs.Snapshot.{entries_of}
use Rattle.cells.specs.Updates.{updates_of}
use lib.ListN.{drop}
use Prim.Native.Nat.{◌≤◌}
use Rattle.taking.proofs.show.Given as goal

abbrev pub invariant-loop-i : goal.invariant-loop-i
invariant-loop-i l = (l.n ≤ l.i) × Shows l.places l.n (entries_of l.side (drop l.i (updates_of l.us))) (entries_of l.side (updates_of l.us))
