-- `fields::read` meets its contract: the outline, then the body, and where either is refused the frame. Assumes nothing.
use Rattle.std.specs.Prelude.{Err}
use mathlib.Core.Path.{sym, ap, ◌∙◌}
use native.Mathlib.Omega.{arith}
use Rattle.frame.proofs.Messages.{outline}
use Rattle.group.proofs.Reading.{spared_all}
use Rattle.fields.proofs.Whole.{no_outline, body_refused, body_read}
use Rattle.fields.proofs.read.Goals as goal

pub returns-in_default : goal.returns-in_default
returns-in_default c = no_outline _ _ (ap Err c.refusal.ensures) (λ kind from e. c.in_default.not-Ok _ (c.outline.ensures ∙ e)) (spared_all _)

pub overflow_sub-end : goal.overflow_sub-end
overflow_sub-end c = let o = outline _ _ _ (sym c.in-Ok.ensures) in omega (arith, o.long)

pub slice_bounds-body-count : goal.slice_bounds-body-count
slice_bounds-body-count c = let o = outline _ _ _ (sym c.in-Ok.ensures) in omega (arith, o.inside)

pub slice_bounds-body-start : goal.slice_bounds-body-start
slice_bounds-body-start c = let o = outline _ _ _ (sym c.in-Ok.ensures) in omega (arith, o.inside)

pub returns-in-Some : goal.returns-in-Some
returns-in-Some c = body_read _ _ (sym c.in-Ok.ensures) (rw c.in-Some.is at c.body.ensures)

pub returns-in-None : goal.returns-in-None
returns-in-None c =
    body_refused _ _ (ap Err c.refusal-in-None.ensures) (sym c.in-Ok.ensures) (rw c.in-None.is at c.body.ensures)
