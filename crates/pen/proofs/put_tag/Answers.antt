-- A tag in its shortest form, then its sign. Assumes nothing.
use Rattle.text.proofs.Stores.{and_then}
use native.Mathlib.Omega.{arith}
use Rattle.pen.proofs.put_tag.Goals as goal

pub returns : goal.returns
returns c =
    let v = c.put_decimal-b.ensures in
    let w = c.put.ensures in
    (and_then v.0 w, omega (arith, v.1, w.next))
