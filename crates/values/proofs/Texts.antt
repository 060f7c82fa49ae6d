-- A date and a time of day as one number fit it. Assumes nothing.
use Rattle.std.specs.Prelude.{Some}
use mathlib.Core.Path.{◌≡◌}
use mathlib.Core.List.{List}
use Prim.Native.Nat.{ℕ, ◌+◌, ◌*◌, ◌<◌}
use native.Mathlib.Omega.{arith}
use Rattle.moment.specs.Moments.{date_of, time_of, span, moments}
use Rattle.moment.proofs.Bounds.{date_lt, time_lt}

pub moment_fits : (d t : List ℕ) {day time : ℕ} → date_of d ≡ Some day → time_of t ≡ Some time → day * span + time < moments
moment_fits d t p q = omega (arith, date_lt d p, time_lt t q)
