-- `aim` meets its contract: the first i entries are aimed.
use Rattle.store.specs.Meaning.{st}
use Rattle.channel.specs.Feeds.{Aims}
use Rattle.channel.proofs.aim.Given as goal

abbrev pub invariant-loop-i : goal.invariant-loop-i
invariant-loop-i l = Aims (st l.h l.store) l.i l.initial.run l.run
