-- The last digit that is left goes to the last place that is left. Assumes nothing.
use Rattle.std.proofs.Common.{◌≡◌, ◌+◌, ◌-◌, refl, ◌∙◌, arith}
use Rattle.text.specs.Text.{fixed}
use Rattle.text.proofs.Written.{back_turn, length_fixed}
use Rattle.text.proofs.put_fixed.Goals as goal

pub loop-i-preserved : goal.loop-i-preserved
loop-i-preserved c =
    let l = c.loop-i in
    let q : l.i - 1 + 1 ≡ l.i = omega arith in
    (rw c.put.ensures.same (rw q at (back_turn l.out c.args.at (l.i - 1) l.rest _ refl)) ∙ l.invariant.0, omega arith)

pub returns : goal.returns
unfolding fixed
returns c =
    let l = c.loop-i in
    let z : l.i ≡ 0 = omega arith in
    (record { same = rw z at l.invariant.0; next = rw length_fixed refl }, refl)
