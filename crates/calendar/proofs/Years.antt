-- The days before a year: they rise, and have a closed form. Assumes nothing.
use mathlib.Core.Path.{◌≡◌, refl, sym}
use mathlib.Core.Bool.{Bool, true, false, cond, not, ◌&&◌, ◌||◌, false≢true}
use Prim.Native.Nat.{ℕ, zero, suc, ◌+◌, ◌-◌, ◌*◌, ◌/◌, ◌%◌, ◌≤◌}
use native.Mathlib.Omega.{arith}
use borrow.Author.Tests.{eqb-true, eqb-false, eq-eqb}
use lib.Dec.{eqb}
use Rattle.calendar.specs.Calendar.{leap, year_days, days_before}

-- 365 days a year, and one for each leap year among them
unfoldable pub closed : ℕ → ℕ
closed y = y * 365 + (y + 3) / 4 + (y + 399) / 400 - (y + 99) / 100

-- the multiples of 4, of 100 and of 400 before a year
count_4 : (y : ℕ) → (suc y + 3) / 4 ≡ (y + 3) / 4 + cond (eqb (y % 4) 0) 1 0
count_4 y = go (eqb (y % 4) 0) refl
  where
    go : (t : Bool) → eqb (y % 4) 0 ≡ t → (suc y + 3) / 4 ≡ (y + 3) / 4 + cond t 1 0
    go true e = omega (arith, eqb-true (y % 4) 0 e)
    go false e = omega (arith, eqb-false (y % 4) 0 e)

count_100 : (y : ℕ) → (suc y + 99) / 100 ≡ (y + 99) / 100 + cond (eqb (y % 100) 0) 1 0
count_100 y = go (eqb (y % 100) 0) refl
  where
    go : (t : Bool) → eqb (y % 100) 0 ≡ t → (suc y + 99) / 100 ≡ (y + 99) / 100 + cond t 1 0
    go true e = omega (arith, eqb-true (y % 100) 0 e)
    go false e = omega (arith, eqb-false (y % 100) 0 e)

count_400 : (y : ℕ) → (suc y + 399) / 400 ≡ (y + 399) / 400 + cond (eqb (y % 400) 0) 1 0
count_400 y = go (eqb (y % 400) 0) refl
  where
    go : (t : Bool) → eqb (y % 400) 0 ≡ t → (suc y + 399) / 400 ≡ (y + 399) / 400 + cond t 1 0
    go true e = omega (arith, eqb-true (y % 400) 0 e)
    go false e = omega (arith, eqb-false (y % 400) 0 e)

-- one more year: a multiple of 400 is one of 100, and that one of 4
one_more : (x p q r : ℕ) (a b d : Bool) → q ≤ x + p → (b ≡ true → a ≡ true) → (d ≡ true → b ≡ true) → x + 365 + (p + cond a 1 0) + (r + cond d 1 0) - (q + cond b 1 0) ≡ x + p + r - q + cond (a && (not b || d)) 366 365
one_more x p q r true true true h f g = omega arith
one_more x p q r true true false h f g = omega arith
one_more x p q r true false true h f g = absurd (false≢true (g refl))
one_more x p q r true false false h f g = omega arith
one_more x p q r false true d h f g = absurd (false≢true (f refl))
one_more x p q r false false true h f g = absurd (false≢true (g refl))
one_more x p q r false false false h f g = omega arith

of_100 : (y : ℕ) → eqb (y % 100) 0 ≡ true → eqb (y % 4) 0 ≡ true
of_100 y h = eq-eqb (y % 4) 0 (omega (arith, eqb-true (y % 100) 0 h))

of_400 : (y : ℕ) → eqb (y % 400) 0 ≡ true → eqb (y % 100) 0 ≡ true
of_400 y h = eq-eqb (y % 100) 0 (omega (arith, eqb-true (y % 400) 0 h))

closed_step : (y : ℕ) → closed (suc y) ≡ closed y + year_days (leap y)
unfolding leap closed year_days
closed_step y =
    let e : suc y * 365 ≡ y * 365 + 365 = omega arith in
    rw (e, count_4 y, count_100 y, count_400 y)
    (one_more (y * 365) ((y + 3) / 4) ((y + 99) / 100) ((y + 399) / 400) _ _ _ (omega arith) (of_100 y) (of_400 y))

pub before_closed : (y : ℕ) → days_before y ≡ closed y
unfolding days_before closed
before_closed zero = refl
before_closed (suc y) = rw (before_closed y) (sym (closed_step y))

-- a year has 365 or 366 days
pub year_step : (y : ℕ) → (days_before y + 365 ≤ days_before (suc y)) × (days_before (suc y) ≤ days_before y + 366)
unfolding days_before year_days
year_step y = go (leap y)
  where
    go : (t : Bool) → (days_before y + 365 ≤ days_before y + cond t 366 365) × (days_before y + cond t 366 365 ≤ days_before y + 366)
    go true = omega arith
    go false = omega arith

pub years_rise : (y : ℕ) → days_before y ≤ days_before (suc y)
years_rise y = omega (arith, year_step y)

-- so many years before a day are over by then
pub years_over : (y d : ℕ) → y ≡ d / 366 → days_before y ≤ d
unfolding closed
years_over y d h = rw (before_closed y) (omega arith)

-- the years 0000 to 9999 hold the days below 3652425
pub all_years : days_before 10000 ≡ 3652425
unfolding closed
all_years = rw (before_closed 10000)
