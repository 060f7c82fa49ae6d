-- `price::put_decimals` meets its contract: the zeros at the end are dropped one a turn. Assumes nothing.
use mathlib.Core.Path.{◌≡◌, refl, ◌∙◌}
use Prim.Native.Nat.{◌<◌}
use native.Mathlib.Omega.{arith}
use Rattle.text.specs.Text.{fixed}
use Rattle.price.specs.Price.{most_decimals}
use Rattle.price.specs.PriceText.{decimals}
use Rattle.text.proofs.Written.{length_fixed}
use Rattle.price.proofs.Back.{decimals_any, decimals_stop, decimals_more, pow_less}
use Rattle.price.proofs.put_decimals.Goals as goal

pub loop-m-init : goal.loop-m-init
loop-m-init c = (omega arith, omega arith, omega arith, refl)

pub overflow_sub-k : goal.overflow_sub-k
overflow_sub-k c = let l = c.loop-m in omega (arith, decimals_any l.k l.m l.invariant.0 l.invariant.1)

pub loop-m-smaller : goal.loop-m-smaller
loop-m-smaller c = let l = c.loop-m in omega (arith, decimals_any l.k l.m l.invariant.0 l.invariant.1)

pub loop-m-preserved : goal.loop-m-preserved
loop-m-preserved c =
    let l = c.loop-m in
    let z : 0 < l.k = decimals_any l.k l.m l.invariant.0 l.invariant.1 in
    (omega arith, pow_less l.k l.m z l.invariant.1, omega arith, l.invariant.3 ∙ decimals_more l.k l.m z c.loop-m-test.true)

pub returns : goal.returns
returns c =
    let l = c.loop-m in
    let e = c.put_fixed.ensures.0 in
    let z : 0 < l.k = decimals_any l.k l.m l.invariant.0 l.invariant.1 in
    let q : decimals most_decimals c.args.f ≡ fixed l.k l.m = l.invariant.3 ∙ decimals_stop l.k l.m z c.loop-m-test.false in
    (rw q e, omega (arith, e.next, length_fixed l.k l.m))
