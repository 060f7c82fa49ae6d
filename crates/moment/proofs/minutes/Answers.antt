-- Hours and minutes are small enough to be joined. Assumes nothing.
use Rattle.std.proofs.Common.{arith}
use Rattle.moment.proofs.Bounds.{as_held, two_held}
use Rattle.moment.proofs.minutes.Goals as goal

pub joined-requires : goal.joined-requires
joined-requires c =
    let p = as_held c.two.ensures (two_held 23 _) in
    let q = as_held c.two-2.ensures (two_held 59 _) in
    omega arith
