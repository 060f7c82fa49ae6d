-- `joined` meets its contract: the numbers so far, joined by `|`, are zero where each of them is.
use mathlib.Core.Path.{◌≡◌}
use lib.Dec.{eqb}
use Rattle.sides.specs.Side.{all_zero}
use Rattle.sides.proofs.joined.Given as goal

abbrev pub invariant-loop-x : goal.invariant-loop-x
invariant-loop-x l = eqb l.acc 0 ≡ all_zero l.store l.at l.x-index
