-- `how_many` meets its contract: those counted and those left make the whole.
use Rattle.queue.specs.Joins.{how_many}
use Rattle.cells.specs.Updates.{updates_of}
use lib.ListN.{drop}
use Prim.Native.Nat.{◌+◌, ◌≤◌}
use mathlib.Core.Path.{◌≡◌}
use Rattle.queue.proofs.how_many.Given as goal

abbrev pub invariant-loop-i : goal.invariant-loop-i
invariant-loop-i l = (l.r + how_many l.k (drop l.i (updates_of l.us)) ≡ how_many l.k (updates_of l.us)) × (l.r ≤ l.i)
