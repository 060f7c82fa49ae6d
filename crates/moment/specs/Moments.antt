-- Dates, times of day and moments, read and written (document 01, "Fields": 52, 272 and 273). Assumes nothing.
use Rattle.std.specs.Prelude.{Option, Some, None}
use Rattle.std.specs.Prelude.{ℕ, ◌+◌, ◌*◌, ◌/◌, ◌%◌, List, ◌∷◌, ◌++◌, cond, ◌&&◌, length, get_or, take, drop, leb, eqb}
use Rattle.digits.specs.Digits.{digits_of}
use Rattle.text.specs.Text.{fixed}
use Rattle.calendar.specs.Calendar.{is_date, day_of, date_number}
pub use Rattle.holding.specs.Moments.{span, moments}

-- ---- reading
-- YYYYMMDD as a number is held as its day, where it is a date
abbrev pub dated : Option ℕ → Option ℕ
dated None = None
dated (Some n) = cond (is_date n) (Some (day_of n)) None

-- a date: 8 digits, YYYYMMDD
unfoldable pub date_of : List ℕ → Option ℕ
date_of t = cond (eqb (length t) 8) (dated (digits_of 8 t)) None

-- a number up to another
abbrev pub at_most : ℕ → Option ℕ → Option ℕ
at_most hi None = None
at_most hi (Some v) = cond (leb v hi) (Some v) None

-- two digits, up to a number
unfoldable pub two_of : ℕ → List ℕ → Option ℕ
two_of hi t = at_most hi (digits_of 2 t)

-- two parts, where both were read, as one number: the second has k places
abbrev pub join : ℕ → Option ℕ → Option ℕ → Option ℕ
join k None b = None
join k (Some a) None = None
join k (Some a) (Some b) = Some (a * k + b)

-- HH:MM: hours to 23, minutes to 59, a colon (58) between them
unfoldable pub minutes_of : List ℕ → Option ℕ
minutes_of t = cond (eqb (length t) 5 && eqb (get_or t 2 0) 58) (join 60 (two_of 23 (take 2 t)) (two_of 59 (drop 3 t))) None

-- HH:MM:SS: seconds to 60, each minute with 61 places
unfoldable pub clock_of : List ℕ → Option ℕ
clock_of t = cond (eqb (length t) 8 && eqb (get_or t 5 0) 58) (join 61 (minutes_of (take 5 t)) (two_of 60 (drop 6 t))) None

-- a time of day: HH:MM:SS, or HH:MM:SS.sss with a point (46); a missing .sss is .000
unfoldable pub time_of : List ℕ → Option ℕ
time_of t =
    cond (eqb (length t) 8) (join 1000 (clock_of t) (Some 0))
    (cond (eqb (length t) 12 && eqb (get_or t 8 0) 46) (join 1000 (clock_of (take 8 t)) (digits_of 3 (drop 9 t))) None)

-- 52: a date, a minus (45), a time of day
unfoldable pub moment_of : List ℕ → Option ℕ
moment_of t = cond (eqb (get_or t 8 0) 45) (join span (date_of (take 8 t)) (time_of (drop 9 t))) None

-- ---- the parts of what is held
-- of a moment: its day and its time of day
abbrev pub day_part : ℕ → ℕ
day_part m = m / span

abbrev pub time_part : ℕ → ℕ
time_part m = m % span

-- of a time of day: hours, minutes, seconds and milliseconds
abbrev pub hour_in : ℕ → ℕ
hour_in t = t / 1000 / 3660

abbrev pub minute_in : ℕ → ℕ
minute_in t = t / 1000 / 61 % 60

abbrev pub second_in : ℕ → ℕ
second_in t = t / 1000 % 61

abbrev pub milli_in : ℕ → ℕ
milli_in t = t % 1000

-- HHMMSSsss of a time of day
unfoldable pub time_number : ℕ → ℕ
time_number t = hour_in t * 10000000 + minute_in t * 100000 + second_in t * 1000 + milli_in t

-- ---- writing
-- YYYYMMDD
unfoldable pub date_text : ℕ → List ℕ
date_text d = fixed 8 (date_number d)

-- HH:MM:SS
unfoldable pub clock_text : ℕ → List ℕ
clock_text t = fixed 2 (hour_in t) ++ (58 ∷ (fixed 2 (minute_in t) ++ (58 ∷ fixed 2 (second_in t))))

-- HH:MM:SS.sss
unfoldable pub time_text : ℕ → List ℕ
time_text t = clock_text t ++ (46 ∷ fixed 3 (milli_in t))

-- YYYYMMDD-HH:MM:SS.sss
unfoldable pub moment_text : ℕ → List ℕ
moment_text m = date_text (day_part m) ++ (45 ∷ time_text (time_part m))

-- ---- for bounds
-- the number that was read, or 0
abbrev pub held : Option ℕ → ℕ
held None = 0
held (Some n) = n
