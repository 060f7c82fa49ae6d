-- The marks say who waits, and a summary is settled. Assumes nothing.
use mathlib.Core.Path.{sym, ◌∙◌}
use Rattle.sound.proofs.Marks.{marked_waits, marks_lt}
use Rattle.summary.specs.Laws.{MarksSayWhoWaits, SummarySettled}

pub marks_say_who_waits : MarksSayWhoWaits
marks_say_who_waits b = record { waits = marked_waits b.insts; above = marks_lt b.insts }

pub summary_settled : SummarySettled
summary_settled room xs r s ys zs a b = (a.answer ∙ sym b.answer, a.out ∙ sym b.out)
