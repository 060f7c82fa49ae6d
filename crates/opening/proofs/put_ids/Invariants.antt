-- `put_ids` meets its contract: those before i stand in their records, and the others are left.
use mathlib.Core.Path.{◌≡◌}
use lib.ListN.{drop}
use Rattle.opening.specs.Steps.{ids_in}
use Rattle.opening.proofs.put_ids.Given as goal

abbrev pub invariant-loop-i : goal.invariant-loop-i
invariant-loop-i l = ids_in l.initial.store 0 l.ids ≡ ids_in l.store l.i (drop l.i l.ids)
