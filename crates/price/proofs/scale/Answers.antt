-- `price::scale` meets its contract, by its nine cases. Assumes nothing.
use Prim.Native.Nat.{ℕ, ◌-◌, ◌^◌}
use mathlib.Core.Path.{◌≡◌, sym, ap}
use native.Mathlib.Omega.{arith}
use Rattle.price.specs.Price.{most_decimals}
use Rattle.price.proofs.scale.Goals as goal

case : {k j : ℕ} → k ≡ j → 10 ^ j ≡ 10 ^ k
case e = sym (ap (λ (k : ℕ). 10 ^ k) e)

pub returns-in-0 : goal.returns-in-0
returns-in-0 c = case c.in-0.is

pub returns-in-1 : goal.returns-in-1
returns-in-1 c = case c.in-1.is

pub returns-in-2 : goal.returns-in-2
returns-in-2 c = case c.in-2.is

pub returns-in-3 : goal.returns-in-3
returns-in-3 c = case c.in-3.is

pub returns-in-4 : goal.returns-in-4
returns-in-4 c = case c.in-4.is

pub returns-in-5 : goal.returns-in-5
returns-in-5 c = case c.in-5.is

pub returns-in-6 : goal.returns-in-6
returns-in-6 c = case c.in-6.is

pub returns-in-7 : goal.returns-in-7
returns-in-7 c = case c.in-7.is

pub returns-in_default : goal.returns-in_default
returns-in_default c =
    let k = most_decimals - c.args.n in
    let q : k ≡ 8 = omega arith in
    case q
