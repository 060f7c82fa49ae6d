-- `stretch::message_at` meets its contract. Assumes nothing.
use Rattle.std.proofs.Common.{◌∙◌, arith, length-drop}
use Rattle.stretch.proofs.Stretching.{no_length, too_short, other_byte}
use Rattle.stretch.proofs.message_at.Goals as goal

pub returns-in_err-get : goal.returns-in_err-get
returns-in_err-get c = c.from_residual.ensures ∙ no_length _ (too_short _ (rw length-drop (omega (arith, c.in_err-get.ensures.lookup))))

pub returns-then-branch-ne56 : goal.returns-then-branch-ne56
returns-then-branch-ne56 c = no_length _ (other_byte c.args.rec.now c.args.at (λ e. c.if-branch-ne56.true (c.in_ok-get.ensures.lookup.3.1 0 ∙ e)))
