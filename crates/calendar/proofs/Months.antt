-- The days of a year before a month, by a table, and their sums. Assumes nothing.
use mathlib.Core.Path.{◌≡◌, refl}
use mathlib.Core.Bool.{Bool, true, false, ◌&&◌, false≢true}
use mathlib.Core.List.{List, [], ◌∷◌}
use Prim.Native.Nat.{ℕ, zero, suc, ◌+◌, ◌*◌, ◌≤◌, ◌<◌}
use native.Mathlib.Omega.{arith}
use borrow.Author.Tests.{eqb-true, leb-true, leb-false, ne_eqb}
use mir.Val.{bool_byte}
use lib.Dec.{eqb, leb}
use lib.ListN.{get_or, get_or-eq_default}
use Rattle.calendar.specs.Calendar.{months, days_in, days_to, year_days}

-- ---- a test that passes at every number below n
abbrev all : (ℕ → Bool) → ℕ → Bool
all f zero = true
all f (suc n) = all f n && f n

all_at : (f : ℕ → Bool) (n : ℕ) → all f n ≡ true → (k : ℕ) → k < n → f k ≡ true
all_at f zero h k l = absurd (omega arith)
all_at f (suc n) h k l = go (all f n) (f n) (leb (suc k) n) refl refl refl h (λ e p. all_at f n e k p)
  where
    go : (s t u : Bool) → all f n ≡ s → f n ≡ t → leb (suc k) n ≡ u → s && t ≡ true → (all f n ≡ true → k < n → f k ≡ true) → f k ≡ true
    go true true true a e p q r = r a (leb-true (suc k) n p)
    go true true false a e p q r = let z : k ≡ n = omega (arith, leb-false (suc k) n p) in rw z e
    go true false u a e p q r = absurd (false≢true q)
    go false t u a e p q r = absurd (false≢true q)

-- ---- the days of a month
pub no_month : (l : Bool) (m : ℕ) → 12 < m → days_in l m ≡ 0
unfolding days_in months
no_month l m h = rw (ne_eqb m 2 (λ e. omega arith)) (get_or-eq_default months 0 h)

pub some_days : (l : Bool) (m : ℕ) → 1 ≤ days_in l m → m ≤ 12
some_days l m h = go (leb m 12) refl
  where
    go : (t : Bool) → leb m 12 ≡ t → m ≤ 12
    go true e = leb-true m 12 e
    go false e = absurd (omega (arith, no_month l m (leb-false m 12 e)))

small : Bool → ℕ → Bool
small l m = leb (days_in l m) 31

pub most_days : (l : Bool) (m : ℕ) → days_in l m ≤ 31
unfolding days_in months small
most_days l m = go l (leb m 12) refl
  where
    go : (l t : Bool) → leb m 12 ≡ t → days_in l m ≤ 31
    go true true e = leb-true (days_in true m) 31 (all_at (small true) 13 refl m (omega (arith, leb-true m 12 e)))
    go false true e = leb-true (days_in false m) 31 (all_at (small false) 13 refl m (omega (arith, leb-true m 12 e)))
    go l false e = omega (arith, no_month l m (leb-false m 12 e))

-- ---- the days before a month
pub months_rise : (l : Bool) (m : ℕ) → days_to l m ≤ days_to l (suc m)
unfolding days_to
months_rise l m = omega arith

pub year_end : (l : Bool) → days_to l 13 ≡ year_days l
unfolding days_to days_in months year_days
year_end true = refl
year_end false = refl

pub first_month : (l : Bool) → days_to l 1 ≡ 0
unfolding days_to days_in months
first_month true = refl
first_month false = refl

pub month_most : (l : Bool) (m : ℕ) → days_to l (suc m) ≤ m * 31
unfolding days_to
month_most l zero = omega (arith, first_month l)
month_most l (suc m) = omega (arith, month_most l m, most_days l (suc m))

-- the table of a year that isn't leap, and a day more after February of one that is
unfoldable pub table : List ℕ
table = 0 ∷ 0 ∷ 31 ∷ 59 ∷ 90 ∷ 120 ∷ 151 ∷ 181 ∷ 212 ∷ 243 ∷ 273 ∷ 304 ∷ 334 ∷ []

right : Bool → ℕ → Bool
right l m = eqb (get_or table m 0 + bool_byte (l && leb 3 m)) (days_to l m)

pub by_table : (l : Bool) (m : ℕ) → m ≤ 12 → get_or table m 0 + bool_byte (l && leb 3 m) ≡ days_to l m
unfolding days_to days_in months table right
by_table true m h = eqb-true _ _ (all_at (right true) 13 refl m (omega arith))
by_table false m h = eqb-true _ _ (all_at (right false) 13 refl m (omega arith))

pub year_most : (l : Bool) → year_days l ≤ 366
unfolding year_days
year_most true = omega arith
year_most false = omega arith
