-- `way_like` meets its contract: where the first word of each has 8 bytes, its way lies within the limits of the depth kind.
use Rattle.std.proofs.Common.{arith}
use Rattle.sweep.proofs.Columned.{limits_long}
use Rattle.sweep.proofs.way_like.Goals as goal

pub returns : goal.returns
returns c = limits_long _ _ (omega arith) (omega arith) (omega arith)
