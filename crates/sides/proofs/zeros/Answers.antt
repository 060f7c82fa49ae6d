-- `zeros` meets its contract: four runs of zeros, a quarter of the whole apart, and what is left behind them.
use mathlib.Core.Path.{◌≡◌}
use Prim.Native.Nat.{◌/◌}
use native.Mathlib.Omega.{arith}
use Rattle.sides.proofs.Each.{quarters}
use Rattle.sides.proofs.zeros.Goals as goal

pub returns : goal.returns
returns c =
    let l = c.loop-i in
    let a = c.args in
    let q : l.i ≡ a.n / 4 = omega arith in
    quarters a.store.now a.at a.n (rw q at l.invariant.0) (rw q at l.invariant.1) (rw q at l.invariant.2) (rw q at l.invariant.3) c.zero-last.ensures
