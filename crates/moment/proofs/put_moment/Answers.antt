-- A date, a minus and a time of day. Assumes nothing.
use Rattle.moment.specs.Moments.{moment_text}
use Rattle.text.proofs.Stores.{and_then}
use native.Mathlib.Omega.{arith}
use Rattle.moment.proofs.put_moment.Goals as goal

pub returns : goal.returns
unfolding moment_text
returns c =
    let v = c.put_date-a.ensures in
    let w = c.put-b.ensures in
    let x = c.put_time.ensures in
    (and_then v.0 (and_then w x.0), omega (arith, v.1, w.next, x.1))
