-- `salvage::first` meets its contract: a message, or a run. Assumes nothing.
use Rattle.std.proofs.Common.{sym, ◌∙◌, arith}
use Rattle.salvage.proofs.Filling.{first_inside, first_message, first_run}
use Rattle.salvage.proofs.first.Goals as goal

pub overflow_add-at : goal.overflow_add-at
overflow_add-at c = omega (arith, first_inside _ _ c.requires.0 (sym c.in-Some.is ∙ c.requires.1))

pub returns-in-Some : goal.returns-in-Some
returns-in-Some c = first_message _ _ c.requires.0 (sym c.in-Some.is ∙ c.requires.1) _ c.message_at-next.ensures

pub returns : goal.returns
returns c = first_run _ _ c.requires.0 _ _ (sym c.in_default.is ∙ c.requires.1) c.run-end.ensures
