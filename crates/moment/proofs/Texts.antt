-- Dates, times and moments as they are written: their lengths and their bytes. Assumes nothing.
use mathlib.Core.Path.{◌≡◌, refl}
use mathlib.Core.Bool.{true, not}
use mathlib.Core.List.{List, [], ◌∷◌, ◌++◌}
use Prim.Native.Nat.{ℕ, ◌≤◌, ◌<◌}
use native.Mathlib.Omega.{arith}
use borrow.Author.Tests.{ne_eqb, leb-true}
use lib.Dec.{leb, eqb}
use lib.ListN.{length, length-append}
use Rattle.digits.specs.Digits.{is_digit, all_digits}
use Rattle.digits.proofs.Width.{both}
use Rattle.text.specs.Text.{fixed, free}
use Rattle.text.proofs.Written.{length_fixed, digits_fixed}
use Rattle.calendar.specs.Calendar.{date_number}
use Rattle.moment.specs.Moments.{span, day_part, time_part, hour_in, minute_in, second_in, milli_in, time_number, date_text, clock_text, time_text, moment_text}

-- ---- lengths
pub length_date : (d : ℕ) → length (date_text d) ≡ 8
unfolding date_text
length_date d = length_fixed 8 (date_number d)

pub length_clock : (t : ℕ) → length (clock_text t) ≡ 8
unfolding clock_text fixed
length_clock t = refl

pub length_time : (t : ℕ) → length (time_text t) ≡ 12
unfolding time_text fixed
length_time t = rw (length-append, length_clock)

pub length_moment : (m : ℕ) → length (moment_text m) ≡ 21
unfolding moment_text
length_moment m = rw (length-append, length_date, length_time)

-- ---- no byte is below 33, so none is SOH
digits_free : (x : ℕ) (bs : List ℕ) → x < 33 → all_digits bs ≡ true → free x bs ≡ true
digits_free x [] h k = refl
digits_free x (b ∷ bs) h k =
    let d = both (is_digit b) (all_digits bs) k in
    let e = both (leb 48 b) (leb b 57) d.0 in
    rw (ne_eqb b x (λ q. omega (arith, leb-true 48 b e.0)), digits_free x bs h d.1)

-- a text, a byte and a text
free_join : (x : ℕ) (a : List ℕ) (y : ℕ) (b : List ℕ) → x < y → free x a ≡ true → free x b ≡ true → free x (a ++ (y ∷ b)) ≡ true
free_join x [] y b l h k = rw (ne_eqb y x (λ e. omega arith), k)
free_join x (z ∷ a) y b l h k =
    let d = both (not (eqb z x)) (free x a) h in
    rw (d.0, free_join x a y b l d.1 k)

module _ (x : ℕ) (low : x < 33) where
  fixed_free : (w n : ℕ) → free x (fixed w n) ≡ true
  fixed_free w n = digits_free x (fixed w n) low (digits_fixed w n)

  pub date_free : (d : ℕ) → free x (date_text d) ≡ true
  unfolding date_text
  date_free d = fixed_free 8 (date_number d)

  clock_free : (t : ℕ) → free x (clock_text t) ≡ true
  unfolding clock_text
  clock_free t =
      let h = fixed 2 (hour_in t) in
      let m = fixed 2 (minute_in t) in
      let s = fixed 2 (second_in t) in
      free_join x h 58 (m ++ (58 ∷ s)) (omega arith) (fixed_free 2 (hour_in t))
      (free_join x m 58 s (omega arith) (fixed_free 2 (minute_in t)) (fixed_free 2 (second_in t)))

  pub time_free : (t : ℕ) → free x (time_text t) ≡ true
  unfolding time_text
  time_free t = free_join x (clock_text t) 46 (fixed 3 (milli_in t)) (omega arith) (clock_free t) (fixed_free 3 (milli_in t))

  pub moment_free : (m : ℕ) → free x (moment_text m) ≡ true
  unfolding moment_text
  moment_free m = free_join x (date_text (day_part m)) 45 (time_text (time_part m)) (omega arith) (date_free (day_part m)) (time_free (time_part m))

-- ---- HHMMSSsss
pub time_range : (t : ℕ) → t < span → time_number t ≤ 235960999
unfolding time_number
time_range t h = omega arith
