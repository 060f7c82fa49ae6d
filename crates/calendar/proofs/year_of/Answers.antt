-- The years before the day's are over by then, and its own isn't. Assumes nothing.
use Rattle.std.proofs.Common.{◌+◌, ◌≤◌, ◌<◌, refl, arith, rules, tests, ◌∙◌}
use Rattle.std.proofs.lemmas.Iterator.{first_from_Range}
use Rattle.calendar.specs.Calendar.{days_before, year_of}
use Rattle.calendar.proofs.Search.{last_found}
use Rattle.calendar.proofs.Years.{years_rise, years_over}
use Rattle.calendar.proofs.year_of.Goals as goal

pub returns : goal.returns
unfolding year_of
returns c =
    let d = c.args.day in
    c.unwrap_or.ensures ∙ last_found days_before years_rise 9999 _ _ _ (omega arith) (years_over _ _ refl)
    (first_from_Range _ _ _ _ (λ y. d < days_before (y + 1)) (λ y. days_before (y + 1) ≤ d) c.find.ensures.ran
    (λ x q k. grind (arith, tests))
    (λ x q k. (search rules, grind (arith, tests))))
