use native.Mathlib.Omega.{arith}
use Rattle.text.specs.Text.{decimal}
use Rattle.text.proofs.Written.{length_fixed}
use Rattle.text.proofs.put_decimal.Goals as goal

pub returns : goal.returns
unfolding decimal
returns c =
    let w = c.width-w.ensures in
    let e = c.put_fixed.ensures.0 in
    let x = c.args in
    (record { same = rw w.0 at e.same; next = rw w.0 at e.next }, omega (arith, e.next, length_fixed c.width-w.result x.n))
