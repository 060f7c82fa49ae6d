-- A number above 0 has a digit more than its logarithm says, and 0 has as many as 1. Assumes nothing.
use Rattle.text.proofs.Written.{width_from_one}
use Rattle.text.proofs.width.Goals as goal

pub returns : goal.returns
returns c =
    let e = c.ilog10.ensures in
    width_from_one _ _ _ c.max.ensures c.requires e.power_le e.next_power_gt
