-- Seconds and milliseconds are small enough to be joined. Assumes nothing.
use Rattle.std.proofs.Common.{arith}
use Rattle.moment.proofs.Bounds.{as_held, clock_held, decimals_held}
use Rattle.moment.proofs.time.Goals as goal

pub joined-requires : goal.joined-requires
joined-requires c = let p = as_held c.clock.ensures (clock_held _) in omega arith

pub joined-requires-in-12 : goal.joined-requires-in-12
joined-requires-in-12 c =
    let p = as_held c.clock-in-12.ensures (clock_held _) in
    let q = as_held c.digits.ensures (decimals_held _) in
    omega arith
