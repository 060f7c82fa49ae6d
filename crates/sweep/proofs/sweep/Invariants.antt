-- `sweep` meets its contract: what was swept of the sides so far settles that each of them is sound.
use Rattle.sweep.specs.Quick.{Settles}
use Rattle.sweep.proofs.sweep.Given as goal

abbrev pub invariant-loop-j : goal.invariant-loop-j
invariant-loop-j l = Settles l.way l.limits.most l.limits.full l.marks l.store l.from (record { columns = l.c; rest = l.rest; upto = l.j })
