-- The months before the day's are over by then, and its own isn't or is the last. Assumes nothing.
use Rattle.std.proofs.Common.{◌+◌, ◌/◌, ◌≤◌, ◌<◌, arith, rules, tests, add-one, ◌∙◌}
use Rattle.std.proofs.lemmas.Iterator.{first_from_Range}
use Rattle.calendar.specs.Calendar.{days_to, month_of}
use Rattle.calendar.proofs.Months.{months_rise, month_most}
use Rattle.calendar.proofs.Search.{last_found}
use Rattle.calendar.proofs.month_of.Goals as goal

pub returns : goal.returns
unfolding month_of
returns c =
    let d = c.args.day in
    let l = c.args.l in
    c.unwrap_or.ensures ∙ last_found (days_to l) (months_rise l) 12 _ _ _ (omega arith) (rw add-one (omega (arith, month_most l (d / 32))))
    (first_from_Range _ _ _ _ (λ m. d < days_to l (m + 1)) (λ m. days_to l (m + 1) ≤ d) c.find.ensures.ran
    (λ x q k. grind (arith, tests))
    (λ x q k. (search rules, grind (arith, tests))))
