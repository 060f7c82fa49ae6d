-- Minutes and seconds are small enough to be joined. Assumes nothing.
use Rattle.std.proofs.Common.{arith}
use Rattle.moment.proofs.Bounds.{as_held, two_held, minutes_held}
use Rattle.moment.proofs.clock.Goals as goal

pub joined-requires : goal.joined-requires
joined-requires c =
    let p = as_held c.minutes.ensures (minutes_held _) in
    let q = as_held c.two.ensures (two_held 60 _) in
    omega arith
