-- `end` meets its contract: the instruments that are left, from the board as it is, give what is wanted.
use mathlib.Core.Path.{◌≡◌}
use Rattle.store.specs.Meaning.{st}
use Rattle.rounds.proofs.Ends.{So}
use Rattle.rounds.proofs.end.Given as goal

abbrev pub invariant-loop-i : goal.invariant-loop-i
invariant-loop-i l = So l.l (st l.initial.g l.initial.store) l.i (st l.g l.store) × (l.run ≡ l.initial.run)
