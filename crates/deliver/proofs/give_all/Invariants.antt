-- `give_all` meets its contract: what is left to give, from here on, leaves the same.
use Rattle.deliver.specs.Gives.{give_all_s}
use Rattle.store.specs.Canon.{Formed}
use Rattle.store.specs.Meaning.{st}
use Rattle.cells.specs.Updates.{updates_of}
use lib.ListN.{drop}
use mathlib.Core.Path.{◌≡◌}
use Rattle.deliver.proofs.give_all.Given as goal

abbrev pub invariant-loop-i : goal.invariant-loop-i
invariant-loop-i l = (give_all_s (drop l.i (updates_of l.us)) (st l.g l.store) ≡ give_all_s (updates_of l.us) (st l.initial.g l.initial.store)) × Formed (st l.g l.store)
