-- `aim` meets its contract: the first i entries are aimed.
use native.Mathlib.Omega.{arith}
use Rattle.channel.proofs.Aiming.{aims_none, aims_more}
use Rattle.channel.proofs.aim.Goals as goal

pub loop-i-init : goal.loop-i-init
loop-i-init c = aims_none _ _

pub loop-i-preserved : goal.loop-i-preserved
loop-i-preserved c = aims_more _ _ _ _ _ c.loop-i.invariant (omega arith) c.index-k.ensures
