-- `is_sound` meets its contract where 369 is out of range, or a test before it failed.
use native.Mathlib.Omega.{arith}
use Rattle.std.proofs.lemmas.Grind.{common_steps}
use Rattle.loops.proofs.Ranges.{runs}
use Rattle.loops.proofs.is_sound.Goals as goal

pub returns-else-low-le-MOST_NUMBER : goal.returns-else-low-le-MOST_NUMBER
returns-else-low-le-MOST_NUMBER c = grind (arith, common_steps, runs)
