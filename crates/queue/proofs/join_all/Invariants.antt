-- `join_all` meets its contract: what is left to join, from here on, gives the same.
use Rattle.queue.specs.Joins.{join_all_s, how_many}
use Rattle.store.specs.Meaning.{st}
use Rattle.cells.specs.Updates.{updates_of}
use lib.ListN.{drop}
use Prim.Native.Nat.{◌+◌, ◌≤◌}
use mathlib.Core.Path.{◌≡◌}
use Rattle.queue.proofs.join_all.Given as goal

abbrev pub invariant-loop-i : goal.invariant-loop-i
invariant-loop-i l = (join_all_s l.n (drop l.i (updates_of l.us)) (st l.g l.store) ≡ join_all_s l.n (updates_of l.us) (st l.initial.g l.initial.store))
    × (l.g.queued + how_many l.g.followed (drop l.i (updates_of l.us)) ≤ 256)
