-- `lead::other` meets its contract: what stands before 268, then that nothing named follows. Assumes nothing.
use mathlib.Core.Path.{refl, sym, ◌∙◌}
use Rattle.place.proofs.Walking.{walk_ended, walk_breached}
use Rattle.lead.proofs.Ways.{untidy_other, untidy_rest, topless_other, topped_other}
use Rattle.lead.proofs.other.Goals as goal

pub returns-in_err-at : goal.returns-in_err-at
returns-in_err-at c = untidy_other _ c.from_residual.ensures (rw c.no_marks-marks.ensures at c.walk.ensures) (walk_breached _ _ c.ok.ensures.value c.in_err-at.was)

pub returns-in_err-ok : goal.returns-in_err-ok
returns-in_err-ok c =
    untidy_rest _ (rw (c.no_marks-marks.ensures, walk_ended c.ok.ensures.value c.in_ok-at.was) at c.walk.ensures) refl c.from_residual-in_err-ok.ensures (rw c.no_marks-rest.ensures at c.walk-2.ensures) (walk_breached _ _ c.ok-2.ensures.value c.in_err-ok.was)

pub returns-in_err-top : goal.returns-in_err-top
returns-in_err-top c =
    topless_other _ (rw (c.no_marks-marks.ensures, walk_ended c.ok.ensures.value c.in_ok-at.was) at c.walk.ensures) refl (rw (c.no_marks-rest.ensures, walk_ended c.ok-2.ensures.value c.in_ok-ok.was) at c.walk-2.ensures) refl c.from_residual-in_err-top.ensures (sym c.top_x.ensures ∙ c.in_err-top.was)

pub returns : goal.returns
returns c =
    topped_other _ (rw (c.no_marks-marks.ensures, walk_ended c.ok.ensures.value c.in_ok-at.was) at c.walk.ensures) refl (rw (c.no_marks-rest.ensures, walk_ended c.ok-2.ensures.value c.in_ok-ok.was) at c.walk-2.ensures) refl (sym c.top_x.ensures ∙ c.in_ok-top.was) refl
