-- `give_each` meets its contract: the first i instruments have got the entry.
use mathlib.Core.Path.{◌≡◌}
use Rattle.store.specs.Meaning.{st}
use Rattle.deliver.specs.Gives.{give_each_s}
use Rattle.deliver.proofs.give_each.Given as goal

abbrev pub invariant-loop-i : goal.invariant-loop-i
invariant-loop-i l = st l.g l.store ≡ give_each_s l.i l.u (st l.initial.g l.initial.store)
