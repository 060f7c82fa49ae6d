-- `lead::with_group` meets its contract: what stands before 268, then the group. Assumes nothing.
use mathlib.Core.Path.{refl, sym, ◌∙◌}
use Rattle.place.proofs.Walking.{walk_ended, walk_breached}
use Rattle.lead.proofs.Bodies.{top_fair}
use Rattle.lead.proofs.Ways.{untidy_leads, topless_leads, topped_leads}
use Rattle.lead.proofs.with_group.Goals as goal

pub returns-in_err-at : goal.returns-in_err-at
returns-in_err-at c =
    untidy_leads _ _ c.from_residual.ensures (rw (c.head_end.ensures, c.no_marks-marks.ensures) at c.walk.ensures) (walk_breached _ _ c.ok.ensures.value c.in_err-at.was)

pub returns-in_err-top : goal.returns-in_err-top
returns-in_err-top c =
    topless_leads _ _ (rw (c.head_end.ensures, c.no_marks-marks.ensures, walk_ended c.ok.ensures.value c.in_ok-at.was) at c.walk.ensures) refl c.from_residual-in_err-top.ensures (sym c.top.ensures ∙ c.in_err-top.was)

pub counted-requires : goal.counted-requires
counted-requires c = top_fair _ _ (sym c.top.ensures ∙ c.in_ok-top.was)

pub returns : goal.returns
returns c =
    topped_leads _ _ (rw (c.head_end.ensures, c.no_marks-marks.ensures, walk_ended c.ok.ensures.value c.in_ok-at.was) at c.walk.ensures) refl (sym c.top.ensures ∙ c.in_ok-top.was) c.counted.ensures
