-- Gregorian dates, years 0000 to 9999, as day numbers (document 01, "Fields": 52 and 272). Assumes nothing.
use Rattle.std.specs.Prelude.{ℕ, zero, suc, ◌+◌, ◌-◌, ◌*◌, ◌/◌, ◌%◌, List, [], ◌∷◌, Bool, cond, not, ◌&&◌, ◌||◌, get_or, leb, eqb}
pub use Rattle.holding.specs.Moments.{days}

-- 4 divides a leap year, and 100 doesn't unless 400 does
unfoldable pub leap : ℕ → Bool
leap y = eqb (y % 4) 0 && (not (eqb (y % 100) 0) || eqb (y % 400) 0)

-- the days of each month of a year that isn't leap; January stands at 1, and what isn't from 1 to 12 is no month
unfoldable pub months : List ℕ
months = 0 ∷ 31 ∷ 28 ∷ 31 ∷ 30 ∷ 31 ∷ 30 ∷ 31 ∷ 31 ∷ 30 ∷ 31 ∷ 30 ∷ 31 ∷ []

-- the days of a month, in a leap year or not
unfoldable pub days_in : Bool → ℕ → ℕ
days_in l m = cond (eqb m 2 && l) 29 (get_or months m 0)

-- the days of a year before its month m
unfoldable pub days_to : Bool → ℕ → ℕ
days_to l zero = 0
days_to l (suc m) = days_to l m + days_in l m

-- the days of a year, leap or not
unfoldable pub year_days : Bool → ℕ
year_days l = cond l 366 365

-- the days before a year, from 0000-01-01 on
unfoldable pub days_before : ℕ → ℕ
days_before zero = 0
days_before (suc y) = days_before y + year_days (leap y)

-- the year, the month and the day of the month of YYYYMMDD, as a number
abbrev pub year_in : ℕ → ℕ
year_in n = n / 10000

abbrev pub month_in : ℕ → ℕ
month_in n = n / 100 % 100

abbrev pub day_in : ℕ → ℕ
day_in n = n % 100

-- YYYYMMDD is a date: the month has the day
unfoldable pub is_date : ℕ → Bool
is_date n = leb 1 (day_in n) && leb (day_in n) (days_in (leap (year_in n)) (month_in n))

-- the number of a date's day, counted from 0 for 0000-01-01
unfoldable pub day_of : ℕ → ℕ
day_of n = days_before (year_in n) + days_to (leap (year_in n)) (month_in n) + (day_in n - 1)

-- the greatest k up to n with f k at most d
unfoldable pub last_to : (ℕ → ℕ) → ℕ → ℕ → ℕ
last_to f zero d = 0
last_to f (suc k) d = cond (leb (f (suc k)) d) (suc k) (last_to f k d)

-- the year of a day: the last that begins no later
unfoldable pub year_of : ℕ → ℕ
year_of d = last_to days_before 9999 d

-- the month of a day of a year: the last that begins no later
unfoldable pub month_of : Bool → ℕ → ℕ
month_of l d = last_to (days_to l) 12 d

-- YYYYMMDD of a year and a day of it
abbrev pub date_in : ℕ → Bool → ℕ → ℕ
date_in y l d = y * 10000 + month_of l d * 100 + (d - days_to l (month_of l d) + 1)

-- YYYYMMDD of a day
unfoldable pub date_number : ℕ → ℕ
date_number d = date_in (year_of d) (leap (year_of d)) (d - days_before (year_of d))
