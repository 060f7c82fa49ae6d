-- How many bytes a value is written as, at most. Assumes nothing.
use mathlib.Core.Bool.{Bool, true, false, cond}
use mathlib.Core.List.{List, [], ◌∷◌, ◌++◌}
use Prim.Native.Nat.{ℕ, zero, suc, ◌+◌, ◌-◌, ◌/◌, ◌%◌, ◌^◌, ◌≤◌}
use native.Mathlib.Omega.{arith}
use lib.Dec.{leb, eqb}
use lib.IntN.{ℤ, pos, negsuc}
use lib.ListN.{length, length-append}
use Rattle.text.specs.Text.{fixed, width_to, width_of, decimal}
use Rattle.text.proofs.Written.{length_fixed, length_decimal}
use Rattle.price.specs.Price.{most_decimals, unit}
use Rattle.price.specs.PriceText.{decimals, fraction_text, amount_text, price_text}
use Rattle.moment.specs.Moments.{date_text, time_text, moment_text}
use Rattle.moment.proofs.Texts.{length_date, length_time, length_moment}
use Rattle.orderid.specs.OrderIds.{word_text, id_text}

width_most : (k n : ℕ) → width_to k n ≤ suc k
unfolding width_to
width_most zero n = omega arith
width_most (suc k) n = go (leb (10 ^ suc k) n) (width_most k n)
  where
    go : (t : Bool) → width_to k n ≤ suc k → cond t (suc (suc k)) (width_to k n) ≤ suc (suc k)
    go true h = omega arith
    go false h = omega arith

pub width_of_lem : (n : ℕ) → width_of n ≤ 18
unfolding width_of
width_of_lem n = width_most 17 n

pub decimal_most : (n : ℕ) → length (decimal n) ≤ 18
decimal_most n = omega (arith, length_decimal n, width_of_lem n)

decimals_most : (k f : ℕ) → length (decimals k f) ≤ k
unfolding decimals
decimals_most zero f = omega arith
decimals_most (suc k) f = go (eqb (f % 10) 0) (decimals_most k (f / 10))
  where
    go : (t : Bool) → length (decimals k (f / 10)) ≤ k → length (cond t (decimals k (f / 10)) (fixed (suc k) f)) ≤ suc k
    go true h = omega arith
    go false h = omega (arith, length_fixed (suc k) f)

fraction_most : (f : ℕ) → length (fraction_text f) ≤ 1 + most_decimals
unfolding fraction_text
fraction_most f = go (eqb f 0)
  where
    go : (t : Bool) → length (cond t [] (46 ∷ decimals most_decimals f)) ≤ 1 + most_decimals
    go true = omega arith
    go false = omega (arith, decimals_most most_decimals f)

amount_most : (m : ℕ) → length (amount_text m) ≤ 19 + most_decimals
unfolding amount_text
amount_most m = omega (arith, length-append (decimal (m / unit)) (fraction_text (m % unit)), decimal_most (m / unit), fraction_most (m % unit))

pub price_most : (p : ℤ) → length (price_text p) ≤ 20 + most_decimals
unfolding price_text
price_most (pos n) = omega (arith, amount_most n)
price_most (negsuc n) = omega (arith, amount_most (suc n))

word_most : (k n : ℕ) → length (word_text k n) ≤ k
unfolding word_text
word_most zero n = omega arith
word_most (suc k) n = go (eqb n 0) (word_most k ((n - 1) / 94))
  where
    go : (t : Bool) → length (word_text k ((n - 1) / 94)) ≤ k → length (cond t [] (word_text k ((n - 1) / 94) ++ ((33 + (n - 1) % 94) ∷ []))) ≤ suc k
    go true h = omega arith
    go false h = omega (arith, length-append (word_text k ((n - 1) / 94)) ((33 + (n - 1) % 94) ∷ []))

pub id_most : (a b : ℕ) → length (id_text a b) ≤ 16
unfolding id_text
id_most a b = omega (arith, length-append (word_text 8 a) (word_text 8 b), word_most 8 a, word_most 8 b)

-- ---- none is of more than 30
pub number_short : (n : ℕ) → length (decimal n) ≤ 30
number_short n = omega (arith, decimal_most n)

pub fixed_short : (w n : ℕ) → w ≤ 8 → length (fixed w n) ≤ 30
fixed_short w n h = omega (arith, length_fixed w n)

pub byte_short : (b : ℕ) → length (b ∷ []) ≤ 30
byte_short b = omega arith

pub bytes_short : (s : List ℕ) → length s ≤ 16 → length s ≤ 30
bytes_short s h = omega arith

pub moment_short : (m : ℕ) → length (moment_text m) ≤ 30
moment_short m = omega (arith, length_moment m)

pub day_short : (d : ℕ) → length (date_text d) ≤ 30
day_short d = omega (arith, length_date d)

pub time_short : (t : ℕ) → length (time_text t) ≤ 30
time_short t = omega (arith, length_time t)

pub price_short : (p : ℤ) → length (price_text p) ≤ 30
price_short p = omega (arith, price_most p)

pub id_short : (a b : ℕ) → length (id_text a b) ≤ 30
id_short a b = omega (arith, id_most a b)
