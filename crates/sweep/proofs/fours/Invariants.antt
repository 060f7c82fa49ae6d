-- `fours` meets its contract: the places so far are joined.
use Rattle.std.proofs.Common.{◌*◌, eqb, not}
use Rattle.sweep.specs.Quick.{Joins}
use Rattle.sweep.proofs.fours.Given as goal

abbrev pub invariant-loop-i : goal.invariant-loop-i
invariant-loop-i g l = Joins l.store l.at (l.i * 4) l.low l.full (not (eqb g.row.MIXED 0)) l.initial.acc l.acc
