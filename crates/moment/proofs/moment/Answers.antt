-- A day and a time of day are small enough to be joined. Assumes nothing.
use Rattle.std.proofs.Common.{arith}
use Rattle.moment.proofs.Bounds.{as_held, date_held, time_held}
use Rattle.moment.proofs.moment.Goals as goal

pub joined-requires : goal.joined-requires
joined-requires c =
    let p = as_held c.date.ensures (date_held _) in
    let q = as_held c.time.ensures (time_held _) in
    omega arith
