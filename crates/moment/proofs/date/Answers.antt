-- A date is asked for its day only where it is one. Assumes nothing.
use Rattle.std.proofs.Common.{sym, ◌∙◌}
use Rattle.digits.proofs.Width.{below}
use Rattle.moment.proofs.date.Goals as goal

pub day_of-requires : goal.day_of-requires
day_of-requires c = (below 8 _ (sym c.in_ok-n.ensures), sym c.is_date.ensures ∙ c.if-is_date.true)
