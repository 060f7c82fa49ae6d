-- The table, and a day more after February of a leap year. Assumes nothing.
use Rattle.std.proofs.Common.{◌≡◌, ◌&&◌, nat_le, arith}
use Rattle.std.proofs.lemmas.Grind.{common_steps}
use Rattle.calendar.proofs.Months.{table, by_table}
use Rattle.calendar.proofs.days_to.Goals.{then-l, else-l}
use Rattle.calendar.proofs.days_to.Goals as goal

pub returns : goal.returns
unfolding table
returns c =
    let m = c.args.m in
    let later : c.if-l.from ≡ (c.args.l && nat_le 3 m) = elim c.if-l.branch [ then-l w ↦ grind (arith, common_steps) | else-l w ↦ grind (arith, common_steps) ] in
    rw (c.from.ensures, later) (by_table _ _ c.requires)
