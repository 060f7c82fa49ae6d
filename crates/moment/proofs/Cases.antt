-- Worked cases (document 01: M5 and M13's ages; a second of 60). Assumes nothing.
use Rattle.std.specs.Prelude.{Some, None}
use mathlib.Core.Path.{◌≡◌, refl, ◌∙◌}
use mathlib.Core.List.{[], ◌∷◌}
use Prim.Native.Nat.{ℕ, ◌+◌, ◌*◌, ◌<◌}
use native.Mathlib.Omega.{arith}
use lib.IntN.{pos, negsuc, ◌-ℤ◌}
use Rattle.digits.specs.Digits.{digits_of}
use Rattle.text.specs.Text.{fixed}
use Rattle.calendar.specs.Calendar.{leap, months, days_in, days_to, year_days, days_before, is_date, day_of}
use Rattle.moment.specs.Moments.{date_of, two_of, minutes_of, clock_of, time_of, span, day_part, time_part, clock_text, time_text}
use Rattle.moment.specs.Ages.{millis, age_of}
use Rattle.moment.proofs.Aged.{age_is, minus_shift}

-- ---- M5: 20240229 is good, 20250229 and 19000229 are not
pub m5_2024 : date_of (50 ∷ 48 ∷ 50 ∷ 52 ∷ 48 ∷ 50 ∷ 50 ∷ 57 ∷ []) ≡ Some 739310
unfolding date_of digits_of is_date day_of leap months days_in days_to year_days days_before
m5_2024 = refl

pub m5_2025 : date_of (50 ∷ 48 ∷ 50 ∷ 53 ∷ 48 ∷ 50 ∷ 50 ∷ 57 ∷ []) ≡ None
unfolding date_of digits_of is_date day_of leap months days_in days_to year_days days_before
m5_2025 = refl

pub m5_1900 : date_of (49 ∷ 57 ∷ 48 ∷ 48 ∷ 48 ∷ 50 ∷ 50 ∷ 57 ∷ []) ≡ None
unfolding date_of digits_of is_date day_of leap months days_in days_to year_days days_before
m5_1900 = refl

-- 0000 is a leap year
pub year_zero : date_of (48 ∷ 48 ∷ 48 ∷ 48 ∷ 48 ∷ 50 ∷ 50 ∷ 57 ∷ []) ≡ Some 59
unfolding date_of digits_of is_date day_of leap months days_in days_to year_days days_before
year_zero = refl

-- the last day
pub last_day : date_of (57 ∷ 57 ∷ 57 ∷ 57 ∷ 49 ∷ 50 ∷ 51 ∷ 49 ∷ []) ≡ Some 3652424
unfolding date_of digits_of is_date day_of leap months days_in days_to year_days days_before
last_day = refl

pub no_month_13 : date_of (50 ∷ 48 ∷ 50 ∷ 52 ∷ 49 ∷ 51 ∷ 48 ∷ 49 ∷ []) ≡ None
unfolding date_of digits_of is_date day_of leap months days_in days_to year_days days_before
no_month_13 = refl

pub no_day_0 : date_of (50 ∷ 48 ∷ 50 ∷ 52 ∷ 48 ∷ 49 ∷ 48 ∷ 48 ∷ []) ≡ None
unfolding date_of digits_of is_date day_of leap months days_in days_to year_days days_before
no_day_0 = refl

-- ---- times of day
-- 13:00:00.000, and without its decimals
pub one_oclock : (time_of (49 ∷ 51 ∷ 58 ∷ 48 ∷ 48 ∷ 58 ∷ 48 ∷ 48 ∷ 46 ∷ 48 ∷ 48 ∷ 48 ∷ []) ≡ Some 47580000) × (time_of (49 ∷ 51 ∷ 58 ∷ 48 ∷ 48 ∷ 58 ∷ 48 ∷ 48 ∷ []) ≡ Some 47580000)
unfolding time_of clock_of minutes_of two_of digits_of
one_oclock = (refl, refl)

-- 12:00:60 is held and written again as 60
pub second_60 : (time_of (49 ∷ 50 ∷ 58 ∷ 48 ∷ 48 ∷ 58 ∷ 54 ∷ 48 ∷ []) ≡ Some 43980000) × (time_text 43980000 ≡ 49 ∷ 50 ∷ 58 ∷ 48 ∷ 48 ∷ 58 ∷ 54 ∷ 48 ∷ 46 ∷ 48 ∷ 48 ∷ 48 ∷ [])
unfolding time_of clock_of minutes_of two_of digits_of time_text clock_text fixed
second_60 = (refl, refl)

pub no_second_61 : time_of (49 ∷ 50 ∷ 58 ∷ 48 ∷ 48 ∷ 58 ∷ 54 ∷ 49 ∷ []) ≡ None
unfolding time_of clock_of minutes_of two_of digits_of
no_second_61 = refl

pub no_hour_24 : time_of (50 ∷ 52 ∷ 58 ∷ 48 ∷ 48 ∷ 58 ∷ 48 ∷ 48 ∷ []) ≡ None
unfolding time_of clock_of minutes_of two_of digits_of
no_hour_24 = refl

pub no_minute_60 : time_of (49 ∷ 50 ∷ 58 ∷ 54 ∷ 48 ∷ 58 ∷ 48 ∷ 48 ∷ []) ≡ None
unfolding time_of clock_of minutes_of two_of digits_of
no_minute_60 = refl

pub no_two_decimals : time_of (49 ∷ 50 ∷ 58 ∷ 48 ∷ 48 ∷ 58 ∷ 48 ∷ 48 ∷ 46 ∷ 53 ∷ 48 ∷ []) ≡ None
unfolding time_of clock_of minutes_of two_of digits_of
no_two_decimals = refl

pub no_four_decimals : time_of (49 ∷ 50 ∷ 58 ∷ 48 ∷ 48 ∷ 58 ∷ 48 ∷ 48 ∷ 46 ∷ 48 ∷ 48 ∷ 48 ∷ 48 ∷ []) ≡ None
unfolding time_of clock_of minutes_of two_of digits_of
no_four_decimals = refl

-- ---- M13: heard at 13:00:00.000 of any day
day_of_lem : (d t : ℕ) → t < span → day_part (d * span + t) ≡ d
day_of_lem d t h = omega arith

time_of_lem : (d t : ℕ) → t < span → time_part (d * span + t) ≡ t
time_of_lem d t h = omega arith

-- on one day, an age is that of the times
same_day : (d a b : ℕ) → a < span → b < span → age_of (d * span + a) (d * span + b) ≡ pos (millis a) -ℤ pos (millis b)
same_day d a b h k =
    age_is (d * span + a) (d * span + b)
    ∙ rw (day_of_lem d a h, time_of_lem d a h, day_of_lem d b k, time_of_lem d b k) (minus_shift (d * 86400000) (millis a) (millis b))

-- 13:00:30.000, 13:00:30.001 and 12:59:59.999 of that day
pub m13_quoted : (d : ℕ) → age_of (d * span + 47610000) (d * span + 47580000) ≡ pos 30000
unfolding millis
m13_quoted d = same_day d 47610000 47580000 (omega arith) (omega arith)

pub m13_old : (d : ℕ) → age_of (d * span + 47610001) (d * span + 47580000) ≡ pos 30001
unfolding millis
m13_old d = same_day d 47610001 47580000 (omega arith) (omega arith)

pub m13_ahead : (d : ℕ) → age_of (d * span + 47578999) (d * span + 47580000) ≡ negsuc 0
unfolding millis
m13_ahead d = same_day d 47578999 47580000 (omega arith) (omega arith)

-- these are those times
pub m13_times : (time_of (49 ∷ 51 ∷ 58 ∷ 48 ∷ 48 ∷ 58 ∷ 51 ∷ 48 ∷ 46 ∷ 48 ∷ 48 ∷ 48 ∷ []) ≡ Some 47610000) × (time_of (49 ∷ 51 ∷ 58 ∷ 48 ∷ 48 ∷ 58 ∷ 51 ∷ 48 ∷ 46 ∷ 48 ∷ 48 ∷ 49 ∷ []) ≡ Some 47610001) × (time_of (49 ∷ 50 ∷ 58 ∷ 53 ∷ 57 ∷ 58 ∷ 53 ∷ 57 ∷ 46 ∷ 57 ∷ 57 ∷ 57 ∷ []) ≡ Some 47578999)
unfolding time_of clock_of minutes_of two_of digits_of
m13_times = (refl, refl, refl)

-- 12:00:60.000 and 12:01:00.000 are two values of one age
pub second_60_age : (d : ℕ) → age_of (d * span + 43981000) (d * span + 43980000) ≡ pos 0
unfolding millis
second_60_age d = same_day d 43981000 43980000 (omega arith) (omega arith)
