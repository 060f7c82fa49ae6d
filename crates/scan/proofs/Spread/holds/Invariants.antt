-- `holds` meets its contract: d stands among those that are left where it stands among all.
use mathlib.Core.Path.{◌≡◌}
use lib.ListN.{drop}
use Rattle.board.specs.Sound.{among}
use Rattle.scan.proofs.Spread.holds.Given as goal

abbrev pub invariant-loop-j : goal.invariant-loop-j
invariant-loop-j l = among l.d (drop l.from l.self) ≡ among l.d (drop l.j l.self)
