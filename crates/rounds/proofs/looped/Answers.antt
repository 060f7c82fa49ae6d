-- `looped` meets its contract: the record goes on, or the loop is whole and ends.
use mathlib.Core.Path.{sym}
use Rattle.rounds.proofs.Gives.{goes_on_lem, comes_round}
use Rattle.rounds.proofs.looped.Goals as goal

pub returns-then-not-is_whole-clause-rounds : goal.returns-then-not-is_whole-clause-rounds
returns-then-not-is_whole-clause-rounds c =
    goes_on_lem c.args.r _ _ _ _ c.find.ensures.0 (rw c.head.ensures at c.join-m.ensures) (sym c.if-not-is_whole.ensures) c.requires.0

pub returns-clause-rounds : goal.returns-clause-rounds
returns-clause-rounds c =
    comes_round c.args.r _ _ _ _ c.find.ensures.0 (rw c.head.ensures at c.join-m.ensures) _ c.none.ensures _ (sym c.if-not-is_whole.ensures) c.end.ensures.ends
