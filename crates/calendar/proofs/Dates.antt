-- Dates and day numbers determine each other. Assumes nothing.
use mathlib.Core.Path.{◌≡◌, refl, ◌∙◌}
use mathlib.Core.Bool.{Bool, true, false, ◌&&◌, false≢true}
use Prim.Native.Nat.{ℕ, zero, suc, ◌+◌, ◌-◌, ◌*◌, ◌/◌, ◌%◌, ◌≤◌, ◌<◌, suc-le-suc}
use native.Mathlib.Omega.{arith}
use borrow.Author.Tests.{leb-true, le-leb}
use lib.Dec.{leb}
use Rattle.calendar.specs.Calendar.{leap, days_in, days_to, year_days, days_before, days, year_in, month_in, day_in, is_date, day_of, last_to, year_of, month_of, date_in, date_number}
use Rattle.calendar.proofs.Search.{rising, last_most, last_le, last_next, last_is}
use Rattle.calendar.proofs.Years.{years_rise, all_years}
use Rattle.calendar.proofs.Months.{some_days, most_days, months_rise, year_end, first_month}

both : (a b : Bool) → a && b ≡ true → (a ≡ true) × (b ≡ true)
both true b h = (refl, h)
both false b h = absurd (false≢true h)

-- ---- from a date to its day
-- what a date of YYYYMMDD has
pub record Date (n : ℕ) : Type 0 where
  pub first : 1 ≤ day_in n
  pub last : day_in n ≤ days_in (leap (year_in n)) (month_in n)
  pub month : month_in n ≤ 12

pub a_date : (n : ℕ) → is_date n ≡ true → Date n
unfolding is_date
a_date n h =
    let l = leap (year_in n) in
    let b = both (leb 1 (day_in n)) (leb (day_in n) (days_in l (month_in n))) h in
    let f : 1 ≤ day_in n = leb-true _ _ b.0 in
    let g : day_in n ≤ days_in l (month_in n) = leb-true _ _ b.1 in
    record { first = f; last = g; month = some_days l (month_in n) (omega arith) }

-- a day of a month is a day of the year
pub in_year : (l : Bool) (m d : ℕ) → m ≤ 12 → d < days_in l m → days_to l m + d < year_days l
unfolding days_to
in_year l m d h k = omega (arith, rising (days_to l) (months_rise l) (suc m) 13 (omega arith), year_end l)

-- the days of a year end where the next begins
pub year_next : (y d : ℕ) → d < year_days (leap y) → days_before y + d < days_before (suc y)
unfolding days_before
year_next y d h = omega arith

month_next : (l : Bool) (m d : ℕ) → d < days_in l m → days_to l m + d < days_to l (suc m)
unfolding days_to
month_next l m d h = omega arith

pub before_days : (y : ℕ) → y < 10000 → days_before (suc y) ≤ days
before_days y h = omega (arith, rising days_before years_rise (suc y) 10000 (omega arith), all_years)

pub day_lt : (n : ℕ) → n < 100000000 → is_date n ≡ true → day_of n < days
unfolding day_of
day_lt n h k =
    let q = a_date n k in
    let l = leap (year_in n) in
    let a : days_to l (month_in n) + (day_in n - 1) < year_days l = in_year l (month_in n) (day_in n - 1) q.month (omega (arith, q.first, q.last)) in
    omega (arith, year_next (year_in n) (days_to l (month_in n) + (day_in n - 1)) a, before_days (year_in n) (omega arith))

-- ---- from a day to its date
-- where a day lies in its year and month
pub record Placed (day : ℕ) : Type 0 where
  pub year : year_of day < 10000
  pub begun : days_before (year_of day) ≤ day
  pub ends : day - days_before (year_of day) < year_days (leap (year_of day))

from_zero : (d : ℕ) → days_before 0 ≤ d
unfolding days_before
from_zero d = omega arith

year_left : (y d : ℕ) → days_before y ≤ d → d < days_before (suc y) → d - days_before y < year_days (leap y)
unfolding days_before
year_left y d h k = omega arith

pub placed : (day : ℕ) → day < days → Placed day
unfolding year_of
placed day h =
    let a : days_before (year_of day) ≤ day = last_le days_before 9999 day (from_zero day) in
    let b : day < days_before (suc (year_of day)) = last_next days_before 9999 day (rw all_years h) in
    record {
      year = suc-le-suc (last_most days_before 9999 day);
      begun = a;
      ends = year_left (year_of day) day a b;
    }

pub record Monthed (l : Bool) (d : ℕ) : Type 0 where
  pub some : 1 ≤ month_of l d
  pub most : month_of l d ≤ 12
  pub begun : days_to l (month_of l d) ≤ d
  pub ends : d - days_to l (month_of l d) < days_in l (month_of l d)

pub monthed : (l : Bool) (d : ℕ) → d < year_days l → Monthed l d
unfolding month_of days_to
monthed l d h =
    let m = month_of l d in
    let a : days_to l m ≤ d = last_le (days_to l) 12 d (omega arith) in
    let b : d < days_to l (suc m) = last_next (days_to l) 12 d (omega (arith, year_end l)) in
    record { some = go m b; most = last_most (days_to l) 12 d; begun = a; ends = omega arith }
  where
    go : (m : ℕ) → d < days_to l (suc m) → 1 ≤ m
    go zero b = absurd (omega (arith, first_month l))
    go (suc m) b = omega arith

-- the parts of YYYYMMDD
parts : (y m d : ℕ) → m < 100 → d < 100 → ((y * 10000 + m * 100 + d) / 10000 ≡ y) × ((y * 10000 + m * 100 + d) / 100 % 100 ≡ m) × ((y * 10000 + m * 100 + d) % 100 ≡ d)
parts y m d h k = omega arith

pub date_day : (y d : ℕ) → y < 10000 → d < year_days (leap y) → (is_date (date_in y (leap y) d) ≡ true) × (day_of (date_in y (leap y) d) ≡ days_before y + d)
unfolding is_date day_of
date_day y d h k =
    let l = leap y in
    let q = monthed l d k in
    let m = month_of l d in
    let x = d - days_to l m + 1 in
    let p = parts y m x (omega (arith, q.most)) (omega (arith, q.ends, most_days l m)) in (
      rw (p.0, p.1, p.2, le-leb 1 x (omega arith), le-leb x (days_in l m) (omega (arith, q.ends))),
      rw (p.0, p.1, p.2) (omega (arith, q.begun)),
    )

-- every day is that of its date
pub day_back : (day : ℕ) → day < days → (is_date (date_number day) ≡ true) × (day_of (date_number day) ≡ day)
unfolding date_number
day_back day h =
    let q = placed day h in
    let r = date_day (year_of day) (day - days_before (year_of day)) q.year q.ends in
    (r.0, r.1 ∙ omega (arith, q.begun))

-- a date's number runs from 00000101 to 99991231
pub date_range : (day : ℕ) → day < days → (101 ≤ date_number day) × (date_number day ≤ 99991231)
unfolding date_number
date_range day h =
    let q = placed day h in
    let l = leap (year_of day) in
    let d = day - days_before (year_of day) in
    let r = monthed l d q.ends in
    omega (arith, q.year, r.some, r.most, r.ends, most_days l (month_of l d))

-- ---- a date is that of its day
pub date_back : (n : ℕ) → n < 100000000 → is_date n ≡ true → date_number (day_of n) ≡ n
unfolding day_of date_number year_of month_of
date_back n h k =
    let q = a_date n k in
    let y = year_in n in
    let l = leap y in
    let m = month_in n in
    let d = days_to l m + (day_in n - 1) in
    let g : day_in n - 1 < days_in l m = omega (arith, q.first, q.last) in
    let w : days_before y + days_to l m + (day_in n - 1) ≡ days_before y + d = omega arith in
    let a : last_to days_before 9999 (days_before y + d) ≡ y = last_is days_before years_rise 9999 y (days_before y + d) (omega arith) (omega arith) (year_next y d (in_year l m (day_in n - 1) q.month g)) in
    let z : days_before y + d - days_before y ≡ d = omega arith in
    let b : last_to (days_to l) 12 d ≡ m = last_is (days_to l) (months_rise l) 12 m d q.month (omega arith) (month_next l m (day_in n - 1) g) in
    rw (w, a, z, b) (omega (arith, q.first))
