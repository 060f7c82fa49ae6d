-- What is read, once its shape is known. Assumes nothing.
use Rattle.std.proofs.Common.{◌≡◌, ℕ, List, length, get_or, take, drop, eq-eqb}
use Rattle.digits.specs.Digits.{digits_of}
use Rattle.moment.specs.Moments.{dated, date_of, join, clock_of, time_of, span, moment_of}

module _ (t : List ℕ) where
  pub date_by : length t ≡ 8 → date_of t ≡ dated (digits_of 8 t)
  unfolding date_of
  date_by h = rw (eq-eqb _ _ h)

  pub time_parts : length t ≡ 12 → get_or t 8 0 ≡ 46 → time_of t ≡ join 1000 (clock_of (take 8 t)) (digits_of 3 (drop 9 t))
  unfolding time_of
  time_parts h k = rw (h, k)

  pub moment_by : get_or t 8 0 ≡ 45 → moment_of t ≡ join span (date_of (take 8 t)) (time_of (drop 9 t))
  unfolding moment_of
  moment_by h = rw (eq-eqb _ _ h)
