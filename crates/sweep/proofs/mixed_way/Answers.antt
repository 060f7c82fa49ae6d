-- `mixed_way` meets its contract.
use Rattle.std.proofs.Common.{arith}
use Rattle.sweep.proofs.Columned.{limits_mixed}
use Rattle.sweep.proofs.mixed_way.Goals as goal

pub returns : goal.returns
returns c = limits_mixed _ _ c.requires (omega arith)
