-- `price::put_decimals` meets its contract: the zeros at the end are dropped one a turn. Assumes nothing.
use mathlib.Core.Path.{◌≡◌}
use Prim.Native.Nat.{◌≤◌, ◌<◌, ◌^◌}
use Rattle.price.specs.Price.{most_decimals}
use Rattle.price.specs.PriceText.{decimals}
use Rattle.price.proofs.put_decimals.Given as goal

abbrev pub invariant-loop-m : goal.invariant-loop-m
invariant-loop-m l = (0 < l.m) × (l.m < 10 ^ l.k) × (l.k ≤ most_decimals) × (decimals most_decimals l.f ≡ decimals l.k l.m)

abbrev pub decreases-loop-m : goal.decreases-loop-m
decreases-loop-m l = l.k
