-- `zeros` meets its contract: four runs of zeros so far, a quarter of the whole apart.
use mathlib.Core.Path.{◌≡◌}
use lib.Dec.{eqb}
use Rattle.sides.specs.Side.{all_zero}
use Rattle.sides.proofs.zeros.Given as goal

abbrev pub invariant-loop-i : goal.invariant-loop-i
invariant-loop-i l = (eqb l.a 0 ≡ all_zero l.store l.at l.i) × (eqb l.b 0 ≡ all_zero l.store l.second l.i) × (eqb l.c 0 ≡ all_zero l.store l.third l.i) × (eqb l.d 0 ≡ all_zero l.store l.fourth l.i)
