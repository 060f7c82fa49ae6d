-- `rises` meets its contract: where what is left rises from the last one on, all of them rise.
use mathlib.Core.Path.{◌≡◌}
use mathlib.Core.Bool.{true}
use lib.ListN.{drop}
use Rattle.scan.proofs.Ascents.{ascends}
use Rattle.scan.proofs.Spread.rises.Given as goal

abbrev pub invariant-loop-i : goal.invariant-loop-i
invariant-loop-i l = ascends l.last (drop l.i l.self) ≡ true → ascends 0 l.self ≡ true
