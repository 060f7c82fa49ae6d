-- `apart` meets its contract: they rise, or none of those before i stands twice, so the others decide.
use mathlib.Core.Path.{◌≡◌}
use lib.ListN.{drop}
use Rattle.board.specs.Sound.{distinct}
use Rattle.scan.specs.Scan.{spread}
use Rattle.scan.proofs.apart.Given as goal

abbrev pub invariant-loop-i : goal.invariant-loop-i
invariant-loop-i l = distinct (spread l.run l.at l.step l.n) ≡ distinct (drop l.i (spread l.run l.at l.step l.n))
