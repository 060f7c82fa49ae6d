-- A moment has fewer than 2^62 milliseconds. Assumes nothing.
use Rattle.moment.proofs.Aged.{since_lt}
use mir.Facts.{to_z_pos}
use mir.Syntax.{w64}
use native.Mathlib.Omega.{arith}
use Rattle.moment.proofs.since_zero.Goals as goal

pub returns : goal.returns
returns c = rw c.millis_of.ensures.0 (to_z_pos w64 (omega (arith, since_lt _ c.requires)))
