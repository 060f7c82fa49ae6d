-- Two digits, a colon, two digits, a colon, two digits. Assumes nothing.
use Rattle.moment.specs.Moments.{clock_text}
use Rattle.text.proofs.Stores.{and_then}
use native.Mathlib.Omega.{arith}
use Rattle.moment.proofs.put_clock.Goals as goal

pub returns : goal.returns
unfolding clock_text
returns c =
    let s = c.split-hour.ensures in
    let v = c.put_fixed-a.ensures in
    let w = c.put-b.ensures in
    let x = c.put_fixed-d.ensures in
    let y = c.put-e.ensures in
    let z = c.put_fixed.ensures in
    (rw (← s.0, ← s.1, ← s.2) (and_then v.0 (and_then w (and_then x.0 (and_then y z.0)))), omega (arith, v.1, w.next, x.1, y.next, z.1))
