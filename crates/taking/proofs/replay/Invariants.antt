-- `replay` meets its contract: what is left of the queue, on the book so far, gives the same.
use Rattle.taking.specs.Replays.{replay_b}
use Rattle.store.specs.Meaning.{queued_at}
use Rattle.cells.specs.Cells.{tab}
use lib.ListN.{drop}
use mathlib.Core.Path.{◌≡◌}
use Rattle.taking.proofs.replay.Given as goal

abbrev pub invariant-loop-k : goal.invariant-loop-k
invariant-loop-k l = replay_b l.i l.last (drop l.k (tab (queued_at l.store) l.q)) l.b ≡ replay_b l.i l.last (tab (queued_at l.store) l.q) l.initial.b
