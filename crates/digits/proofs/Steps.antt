-- What is left of the digits, a byte at a time. Assumes nothing.
use Rattle.std.specs.Prelude.{Option, Some, None}
use Rattle.std.proofs.Common.{◌≡◌, ℕ, ◌+◌, ◌-◌, ◌*◌, ◌<◌, ◌≤◌, Bool, true, false, cond, ◌&&◌, eqb, leb, List, length, get_or, drop, sym, refl, ap, ◌∙◌, add-one, arith, drop_of_length-le, drop-cons, eq-eqb, ne_eqb, le-leb, leb-false, leb-true}
use mathlib.Core.Bool.{and-false}
use lib.Bits.{bit_xor}
use borrow.Author.Tests.{lt-leb}
use Rattle.digits.specs.Digits.{digits_of, whole_of, all_digits, value}
use Rattle.digits.proofs.Words.{is_digit_lem, is_worth}

-- what the bytes that are left give, after those that wrote v
abbrev pub rest : ℕ → List ℕ → Option ℕ
rest v bs = cond (all_digits bs) (Some (value v bs)) None

module _ (s : List ℕ) (w : ℕ) where
  pub none : length s ≡ 0 → digits_of w s ≡ None
  unfolding digits_of
  none h = simp (h)

  pub long : 1 ≤ length s → w < length s → digits_of w s ≡ None
  unfolding digits_of
  long l h = simp (le-leb 1 (length s) l, lt-leb (length s) w h)

  pub too_wide_lem : 18 < w → digits_of w s ≡ None
  unfolding digits_of
  too_wide_lem k = simp (lt-leb w 18 k, and-false)

  pub fit : 1 ≤ length s → length s ≤ w → w ≤ 18 → digits_of w s ≡ rest 0 s
  unfolding digits_of
  fit l h k = simp (le-leb 1 (length s) l, le-leb (length s) w h, le-leb w 18 k)

  pub begun : 1 ≤ length s → length s ≤ 18 → digits_of 18 s ≡ rest 0 s
  unfolding digits_of
  begun l h = simp (le-leb 1 (length s) l, le-leb (length s) 18 h)

  -- the width settles no more than how many there may be
  pub widest : 1 ≤ length s → length s ≤ w → w ≤ 18 → digits_of 18 s ≡ digits_of w s
  unfolding digits_of
  widest l h k = simp (le-leb 1 (length s) l, le-leb (length s) w h, le-leb w 18 k, le-leb (length s) 18 (omega arith))

  -- whether a zero leads
  pub led : leb 2 (length s) && eqb (get_or s 0 0) 48 ≡ true → whole_of w s ≡ None
  unfolding whole_of
  led e = ap (λ (t : Bool). cond t None (digits_of w s)) e

  pub unled : leb 2 (length s) && eqb (get_or s 0 0) 48 ≡ false → whole_of w s ≡ digits_of w s
  unfolding whole_of
  unled e = ap (λ (t : Bool). cond t None (digits_of w s)) e

  pub short : length s ≤ 1 → whole_of w s ≡ digits_of w s
  unfolding whole_of
  short h = simp (lt-leb 2 (length s) (omega arith))

  pub zeroed : 2 ≤ length s → get_or s 0 0 ≡ 48 → whole_of w s ≡ None
  unfolding whole_of
  zeroed h k = simp (le-leb 2 (length s) h, eq-eqb (get_or s 0 0) 48 k)

  pub unzeroed : 2 ≤ length s → (get_or s 0 0 ≡ 48 → ⊥) → whole_of w s ≡ digits_of w s
  unfolding whole_of
  unzeroed h k = simp (le-leb 2 (length s) h, ne_eqb (get_or s 0 0) 48 k)

module _ (s : List ℕ) (i v : ℕ) where
  abbrev byte : ℕ
  byte = get_or s i 0

  pub low : i < length s → byte < 48 → rest v (drop i s) ≡ None
  low l h = simp (drop-cons s i 0 l, lt-leb 48 byte h)

  pub high : i < length s → 57 < byte → rest v (drop i s) ≡ None
  high l h = simp (drop-cons s i 0 l, le-leb 48 byte (omega arith), lt-leb byte 57 h)

  pub more : i < length s → 48 ≤ byte → byte ≤ 57 → rest v (drop i s) ≡ rest (v * 10 + (byte - 48)) (drop (i + 1) s)
  more l h k = simp (drop-cons s i 0 l, add-one, le-leb 48 byte h, le-leb byte 57 k)

  -- x is what a byte is worth: a byte that is worth at most 9 is a digit
  module _ (x : ℕ) (e : x ≡ bit_xor byte 48) (l : i < length s) where
    pub one : x ≤ 9 → rest v (drop i s) ≡ rest (v * 10 + x) (drop (i + 1) s)
    one h =
        let d = is_digit_lem byte (omega arith) in
        more l d.0 d.1 ∙ ap (λ (w : ℕ). rest (v * 10 + w) (drop (i + 1) s)) (sym (e ∙ is_worth byte d.0 d.1))

    -- and no other is
    pub other : 9 < x → rest v (drop i s) ≡ None
    other h = go (leb 48 byte) (leb byte 57) refl refl
      where
        go : (a b : Bool) → leb 48 byte ≡ a → leb byte 57 ≡ b → rest v (drop i s) ≡ None
        go false b p q = low l (leb-false 48 byte p)
        go true false p q = high l (leb-false byte 57 q)
        go true true p q =
            let w = is_worth byte (leb-true 48 byte p) (leb-true byte 57 q) in
            let m = leb-true byte 57 q in
            absurd (omega arith)

  pub done : length s ≤ i → rest v (drop i s) ≡ Some v
  done h = rw (drop_of_length-le s h)
