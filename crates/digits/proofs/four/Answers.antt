-- `digits::four` meets its contract. Assumes nothing.
use Rattle.std.proofs.Common.{◌*◌, ◌/◌, arith}
use lib.Bits.{and_le_r}
use Rattle.digits.proofs.four.Goals as goal

pub overflow_mul-result : goal.overflow_mul-result
overflow_mul-result c =
    record { fits = omega (arith, and_le_r (c.args.w * 2561 / 256) 0x00ff_00ff) }
