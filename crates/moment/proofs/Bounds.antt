-- What is read lies in its range: a day below days, a time of day below span, a moment below moments. Assumes nothing.
use Rattle.std.specs.Prelude.{Option, Some, None}
use mathlib.Core.Path.{◌≡◌, refl}
use mathlib.Core.Bool.{Bool, true, false, cond, ◌&&◌}
use mathlib.Core.List.{List}
use Prim.Native.Nat.{ℕ, suc, ◌+◌, ◌*◌, ◌^◌, ◌≤◌, ◌<◌, suc-le-suc}
use native.Mathlib.Nat.{mul-pos, mul-le-mul_right, suc-mul, one-le-pow}
use native.Mathlib.Omega.{arith}
use borrow.Author.Tests.{leb-true}
use lib.Dec.{leb, eqb}
use lib.ListN.{length, get_or, take, drop}
use Rattle.digits.specs.Digits.{digits_of}
use Rattle.digits.proofs.Width.{below}
use Rattle.calendar.specs.Calendar.{days, is_date, day_of}
use Rattle.calendar.proofs.Dates.{day_lt}
use Rattle.moment.specs.Moments.{dated, date_of, at_most, two_of, join, minutes_of, clock_of, time_of, span, moments, moment_of, held}

-- a number under a test
held_cond : (t : Bool) (x : Option ℕ) {m : ℕ} → held x < m → held (cond t x None) < m
held_cond true x h = h
held_cond false x h = omega arith

-- two parts: so many places each
held_join : (k : ℕ) (a b : Option ℕ) (m : ℕ) → held a < m → held b < k → held (join k a b) < m * k
held_join k None b m h l = mul-pos h (le_lt b l)
  where
    le_lt : (b : Option ℕ) → held b < k → 0 < k
    le_lt b l = omega arith
held_join k (Some a) None m h l = mul-pos (omega arith) l
held_join k (Some a) (Some b) m h l =
    let p : suc a * k ≤ m * k = mul-le-mul_right k h in
    let q : suc a * k ≡ a * k + k = suc-mul a k in
    omega arith

pub as_held : {x y : Option ℕ} {m : ℕ} → x ≡ y → held y < m → held x < m
as_held e h = rw e h

-- what is read is what is held
pub is_held : (x : Option ℕ) {n m : ℕ} → held x < m → x ≡ Some n → n < m
is_held x {n} {m} h e = rw e at h

-- ---- dates
dated_lt : (x : Option ℕ) → held x < 100000000 → held (dated x) < days
dated_lt None h = omega arith
dated_lt (Some n) h = go (is_date n) refl
  where
    go : (t : Bool) → is_date n ≡ t → held (cond t (Some (day_of n)) None) < days
    go true e = day_lt n h e
    go false e = omega arith

digits_lt : (w : ℕ) (t : List ℕ) → held (digits_of w t) < 10 ^ w
digits_lt w t = go (digits_of w t) refl
  where
    go : (x : Option ℕ) → digits_of w t ≡ x → held x < 10 ^ w
    go None e = one-le-pow w 10 (omega arith)
    go (Some n) e = below w t e

pub date_held : (t : List ℕ) → held (date_of t) < days
unfolding date_of
date_held t = held_cond (eqb (length t) 8) (dated (digits_of 8 t)) (dated_lt (digits_of 8 t) (digits_lt 8 t))

-- ---- times of day
at_most_lem : (hi : ℕ) (x : Option ℕ) → held (at_most hi x) ≤ hi
at_most_lem hi None = omega arith
at_most_lem hi (Some n) = go (leb n hi) refl
  where
    go : (t : Bool) → leb n hi ≡ t → held (cond t (Some n) None) ≤ hi
    go true e = leb-true n hi e
    go false e = omega arith

pub two_held : (hi : ℕ) (t : List ℕ) → held (two_of hi t) < suc hi
unfolding two_of
two_held hi t = suc-le-suc (at_most_lem hi (digits_of 2 t))

pub minutes_held : (t : List ℕ) → held (minutes_of t) < 1440
unfolding minutes_of
minutes_held t =
    held_cond (eqb (length t) 5 && eqb (get_or t 2 0) 58) (join 60 (two_of 23 (take 2 t)) (two_of 59 (drop 3 t)))
    (held_join 60 (two_of 23 (take 2 t)) (two_of 59 (drop 3 t)) 24 (two_held 23 (take 2 t)) (two_held 59 (drop 3 t)))

pub clock_held : (t : List ℕ) → held (clock_of t) < 87840
unfolding clock_of
clock_held t =
    held_cond (eqb (length t) 8 && eqb (get_or t 5 0) 58) (join 61 (minutes_of (take 5 t)) (two_of 60 (drop 6 t)))
    (held_join 61 (minutes_of (take 5 t)) (two_of 60 (drop 6 t)) 1440 (minutes_held (take 5 t)) (two_held 60 (drop 6 t)))

pub decimals_held : (t : List ℕ) → held (digits_of 3 t) < 1000
decimals_held t = digits_lt 3 t

pub time_held : (t : List ℕ) → held (time_of t) < span
unfolding time_of
time_held t = go (eqb (length t) 8)
  where
    go : (x : Bool) → held (cond x (join 1000 (clock_of t) (Some 0)) (cond (eqb (length t) 12 && eqb (get_or t 8 0) 46) (join 1000 (clock_of (take 8 t)) (digits_of 3 (drop 9 t))) None)) < span
    go true = held_join 1000 (clock_of t) (Some 0) 87840 (clock_held t) (omega arith)
    go false =
        held_cond (eqb (length t) 12 && eqb (get_or t 8 0) 46) (join 1000 (clock_of (take 8 t)) (digits_of 3 (drop 9 t)))
        (held_join 1000 (clock_of (take 8 t)) (digits_of 3 (drop 9 t)) 87840 (clock_held (take 8 t)) (decimals_held (drop 9 t)))

pub moment_held : (t : List ℕ) → held (moment_of t) < moments
unfolding moment_of
moment_held t =
    held_cond (eqb (get_or t 8 0) 45) (join span (date_of (take 8 t)) (time_of (drop 9 t)))
    (held_join span (date_of (take 8 t)) (time_of (drop 9 t)) days (date_held (take 8 t)) (time_held (drop 9 t)))

-- ---- what is read
pub date_lt : (t : List ℕ) {d : ℕ} → date_of t ≡ Some d → d < days
date_lt t e = is_held (date_of t) (date_held t) e

pub time_lt : (t : List ℕ) {v : ℕ} → time_of t ≡ Some v → v < span
time_lt t e = is_held (time_of t) (time_held t) e

pub moment_lt : (t : List ℕ) {m : ℕ} → moment_of t ≡ Some m → m < moments
moment_lt t e = is_held (moment_of t) (moment_held t) e
