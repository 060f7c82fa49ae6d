-- HH:MM:SS, a point and three digits. Assumes nothing.
use Rattle.moment.specs.Moments.{time_text}
use Rattle.text.proofs.Stores.{and_then}
use native.Mathlib.Omega.{arith}
use Rattle.moment.proofs.put_time.Goals as goal

pub returns : goal.returns
unfolding time_text
returns c =
    let v = c.put_clock-a.ensures in
    let w = c.put-b.ensures in
    let x = c.put_fixed.ensures in
    (and_then v.0 (and_then w x.0), omega (arith, v.1, w.next, x.1))
