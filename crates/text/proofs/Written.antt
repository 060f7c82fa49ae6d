-- What is written in digits reads back. Assumes nothing.
use Rattle.std.specs.Prelude.{Some, None}
use mathlib.Core.Path.{◌≡◌, refl}
use mathlib.Core.Bool.{Bool, true, false, cond, ◌&&◌}
use mathlib.Core.List.{List, [], ◌∷◌, ◌++◌}
use Prim.Native.Nat.{ℕ, zero, suc, ◌+◌, ◌-◌, ◌*◌, ◌/◌, ◌%◌, ◌^◌, ◌≤◌, ◌<◌, max}
use native.Mathlib.Nat.{pow-suc, pow-le-pow_right}
use native.Mathlib.Omega.{arith}
use native.Mathlib.Numerals.{add-one}
use borrow.Author.Tests.{ltb-true, ltb-false, leb-true, leb-false, le-leb, ne_eqb}
use lib.Dec.{leb, ltb, eqb}
use lib.ListN.{length, get_or, set, length-append, get_or-append}
use lib.Seq.{sets}
use Rattle.digits.specs.Digits.{is_digit, all_digits, value, digits_of, whole_of}
use Rattle.text.specs.Text.{fixed, width_to, width_of, decimal}
use Rattle.text.proofs.Stores.{sets_append, set_sets_above}

pub length_fixed : (w n : ℕ) → length (fixed w n) ≡ w
unfolding fixed
length_fixed zero n = refl
length_fixed (suc w) n = rw length-append (omega (arith, length_fixed w (n / 10)))

and_more : (s t u : Bool) → s && t ≡ true → (t ≡ true → u ≡ true) → s && u ≡ true
and_more true t u q h = h q
and_more false t u q h = q

pub digits_append : (a b : List ℕ) → all_digits a ≡ true → all_digits b ≡ true → all_digits (a ++ b) ≡ true
digits_append [] b h k = k
digits_append (x ∷ a) b h k = and_more (is_digit x) (all_digits a) (all_digits (a ++ b)) h (λ e. digits_append a b e k)

a_digit : (d : ℕ) → d < 10 → is_digit (48 + d) ≡ true
a_digit d h = simp (le-leb 48 (48 + d) (omega arith), le-leb (48 + d) 57 (omega arith))

pub digits_fixed : (w n : ℕ) → all_digits (fixed w n) ≡ true
unfolding fixed
digits_fixed zero n = refl
digits_fixed (suc w) n =
    digits_append (fixed w (n / 10)) ((48 + n % 10) ∷ []) (digits_fixed w (n / 10)) (rw (a_digit (n % 10) (omega arith)))

value_append : (v : ℕ) (a : List ℕ) (b : ℕ) → value v (a ++ (b ∷ [])) ≡ value v a * 10 + (b - 48)
value_append v [] b = refl
value_append v (x ∷ a) b = value_append (v * 10 + (x - 48)) a b

pub value_fixed : (w n : ℕ) → n < 10 ^ w → value 0 (fixed w n) ≡ n
unfolding fixed
value_fixed zero n h = omega arith
value_fixed (suc w) n h =
    let l : n < 10 ^ w * 10 = rw pow-suc at h in
    rw (value_append 0 (fixed w (n / 10)) (48 + n % 10), value_fixed w (n / 10) (omega arith)) (omega arith)

-- ---- the width
pub width_pos : (k n : ℕ) → 1 ≤ width_to k n
unfolding width_to
width_pos zero n = omega arith
width_pos (suc k) n = go (leb (10 ^ suc k) n) (width_pos k n)
  where
    go : (t : Bool) → 1 ≤ width_to k n → 1 ≤ cond t (suc (suc k)) (width_to k n)
    go true h = omega arith
    go false h = h

pub width_lt : (k n : ℕ) → n < 10 ^ suc k → n < 10 ^ width_to k n
unfolding width_to
width_lt zero n h = h
width_lt (suc k) n h = go (leb (10 ^ suc k) n) refl (λ l. width_lt k n l)
  where
    go : (t : Bool) → leb (10 ^ suc k) n ≡ t → (n < 10 ^ suc k → n < 10 ^ width_to k n) → n < 10 ^ cond t (suc (suc k)) (width_to k n)
    go true e r = h
    go false e r = r (leb-false (10 ^ suc k) n e)

-- what fits j digits has a width of at most j
pub width_le : (k n j : ℕ) → 1 ≤ j → n < 10 ^ j → width_to k n ≤ j
unfolding width_to
width_le zero n j p h = p
width_le (suc k) n j p h = go (leb (10 ^ suc k) n) (leb (suc (suc k)) j) refl (width_le k n j p h) refl
  where
    go : (t u : Bool) → leb (10 ^ suc k) n ≡ t → width_to k n ≤ j → leb (suc (suc k)) j ≡ u → cond t (suc (suc k)) (width_to k n) ≤ j
    go true true e r f = leb-true (suc (suc k)) j f
    go true false e r f =
        let a : 10 ^ suc k ≤ n = leb-true (10 ^ suc k) n e in
        let b : j ≤ suc k = omega (arith, leb-false (suc (suc k)) j f) in
        let d : 10 ^ j ≤ 10 ^ suc k = pow-le-pow_right (omega arith) b in
        absurd (omega arith)
    go false u e r f = r

-- a width above 1 is that of no smaller number
pub width_lead : (k n m : ℕ) → width_to k n ≡ suc (suc m) → 10 ^ suc m ≤ n
unfolding width_to
width_lead zero n m q = absurd (omega arith)
width_lead (suc k) n m q = go (leb (10 ^ suc k) n) refl (λ r. width_lead k n m r) q
  where
    go : (t : Bool) → leb (10 ^ suc k) n ≡ t → (width_to k n ≡ suc (suc m) → 10 ^ suc m ≤ n) → cond t (suc (suc k)) (width_to k n) ≡ suc (suc m) → 10 ^ suc m ≤ n
    go true e g r = let z : k ≡ m = omega arith in rw (← z) (leb-true (10 ^ suc k) n e)
    go false e g r = g r

-- a number of more than w digits
pub width_more : (k n w : ℕ) → n < 10 ^ suc k → 10 ^ w ≤ n → w < width_to k n
width_more k n w h l = go (ltb w (width_to k n)) refl
  where
    go : (t : Bool) → ltb w (width_to k n) ≡ t → w < width_to k n
    go true e = ltb-true w (width_to k n) e
    go false e =
        let b : 10 ^ width_to k n ≤ 10 ^ w = pow-le-pow_right (omega arith) (ltb-false w (width_to k n) e) in
        absurd (omega (arith, width_lt k n h))

-- the width is one more than the place of the leading digit
width_at : (n k : ℕ) → n < 10 ^ 18 → 10 ^ k ≤ n → n < 10 * 10 ^ k → k + 1 ≡ width_of n
unfolding width_of
width_at n k h a b =
    let low : width_to 17 n ≤ suc k = width_le 17 n (suc k) (omega arith) (rw pow-suc (omega arith)) in
    omega (arith, width_more 17 n k h a)

-- 0 is as wide as 1
pub width_from_one : (n m k : ℕ) → m ≡ max n 1 → n < 10 ^ 18 → 10 ^ k ≤ m → m < 10 * 10 ^ k → (k + 1 ≡ width_of n) × (k + 1 ≤ 18)
unfolding width_of width_to
width_from_one zero m k e h a b =
    let z : m ≡ 1 = omega arith in
    let w : k + 1 ≡ width_of 1 = width_at 1 k (omega arith) (rw z at a) (rw z at b) in
    (w, omega arith)
width_from_one (suc n) m k e h a b =
    let z : m ≡ suc n = omega arith in
    let w : k + 1 ≡ width_of (suc n) = width_at (suc n) k h (rw z at a) (rw z at b) in
    (w, omega (arith, width_le 17 (suc n) 18 (omega arith) h))

-- ---- no leading zero
pub lead : (w n : ℕ) → 10 ^ w ≤ n → n < 10 ^ suc w → 48 < get_or (fixed (suc w) n) 0 0
unfolding fixed
lead zero n h l = omega arith
lead (suc w) n h l =
    let a : 10 ^ w * 10 ≤ n = rw pow-suc at h in
    let b : n < 10 ^ suc w * 10 = rw pow-suc at l in
    rw (get_or-append (fixed w (n / 10 / 10) ++ ((48 + n / 10 % 10) ∷ [])) ((48 + n % 10) ∷ []) 0 0 (rw length-append (omega arith)))
    (lead w (n / 10) (omega arith) (omega arith))

pub length_decimal : (n : ℕ) → length (decimal n) ≡ width_of n
unfolding decimal
length_decimal n = length_fixed (width_of n) n

pub digits_decimal : (n : ℕ) → all_digits (decimal n) ≡ true
unfolding decimal
digits_decimal n = digits_fixed (width_of n) n

pub read_fixed : (w n : ℕ) → 1 ≤ w → w ≤ 18 → n < 10 ^ w → digits_of w (fixed w n) ≡ Some n
unfolding digits_of
read_fixed w n p q h = simp (length_fixed, le-leb 1 w p, le-leb w w (omega arith), le-leb w 18 q, digits_fixed, value_fixed w n h)

module _ (w n : ℕ) (p : 1 ≤ w) (high : w ≤ 18) (fits : n < 10 ^ w) where
  small : n < 10 ^ 18
  small = let a : 10 ^ w ≤ 10 ^ 18 = pow-le-pow_right (omega arith) high in omega arith

  pub width_in : width_of n ≤ w
  unfolding width_of
  width_in = width_le 17 n w p fits

  -- a number written is read back
  pub digits_back : digits_of w (decimal n) ≡ Some n
  unfolding digits_of decimal width_of
  digits_back =
      simp (length_fixed, le-leb 1 (width_to 17 n) (width_pos 17 n), le-leb (width_to 17 n) w (width_le 17 n w p fits), le-leb w 18 high, digits_fixed, value_fixed (width_to 17 n) n (width_lt 17 n small))

  pub whole_back : whole_of w (decimal n) ≡ Some n
  unfolding whole_of width_of decimal
  whole_back = go (width_to 17 n) refl
    where
      go : (x : ℕ) → width_to 17 n ≡ x → cond (leb 2 (length (decimal n)) && eqb (get_or (decimal n) 0 0) 48) None (digits_of w (decimal n)) ≡ Some n
      go zero q = absurd (omega (arith, width_pos 17 n))
      go (suc zero) q = simp (length_fixed, q, digits_one)
        where
          digits_one : digits_of w (fixed 1 n) ≡ Some n
          digits_one = rw q at digits_back
      go (suc (suc m)) q =
          let a : 10 ^ suc m ≤ n = width_lead 17 n m q in
          let b : n < 10 ^ suc (suc m) = rw q at (width_lt 17 n small) in
          let e : eqb (get_or (fixed (width_to 17 n) n) 0 0) 48 ≡ false = rw q (ne_eqb (get_or (fixed (suc (suc m)) n) 0 0) 48 (λ z. omega (arith, lead (suc m) n a b))) in
          let f : leb 2 (length (fixed (width_to 17 n) n)) ≡ true = rw (length_fixed, q) (le-leb 2 (suc (suc m)) (omega arith)) in
          rw (f, e) digits_back

-- ---- a turn of the loop that writes digits from the back
pub back_turn : (l : List ℕ) (at i m d : ℕ) → d ≡ 48 + m % 10 → sets (set l (at + i) d) at (fixed i (m / 10)) ≡ sets l at (fixed (i + 1) m)
unfolding fixed
back_turn l at i m d e =
    rw (add-one i, set_sets_above l (at + i) d at (fixed i (m / 10)) (omega (arith, length_fixed i (m / 10))), sets_append l at (fixed i (m / 10)) ((48 + m % 10) ∷ []), length_fixed i (m / 10), e)
