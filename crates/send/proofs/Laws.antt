-- A writing is settled. Assumes nothing.
use mathlib.Core.Path.{sym, ◌∙◌}
use Rattle.send.specs.Laws.{WriteSettled}

pub write_settled : WriteSettled
write_settled id sender target k m time room xs r s ys zs a b = (a.answer ∙ sym b.answer, a.out ∙ sym b.out)
