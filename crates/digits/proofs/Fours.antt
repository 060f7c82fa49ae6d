-- What a word writes, and which bytes stand in it. Assumes nothing.
use Rattle.std.specs.Prelude.{Some, None}
use Rattle.std.proofs.Common.{◌≡◌, ℕ, zero, suc, ◌+◌, ◌-◌, ◌*◌, ◌/◌, ◌%◌, ◌^◌, ◌<◌, ◌≤◌, Bool, true, false, cond, ◌&&◌, leb, List, [], ◌∷◌, ◌++◌, map, length, get_or, take, drop, replicate, sym, refl, ap, ◌∙◌, add-zero, arith, length-drop, get_or-drop, le-leb, leb-false, leb-true}
use mathlib.Core.Bool.{and-false}
use borrow.Author.Tests.{lt-leb}
use lib.Bits.{bit_xor}
use Rattle.digits.specs.Digits.{digits_of, is_digit, all_digits, value}
use Rattle.digits.proofs.Steps.{rest, fit, one, other}
use Rattle.digits.proofs.Words.{Digits, join, above, none_above, all_digits_lem, number, number_is, is_digit_lem, is_worth}

-- ---- bytes that are no digits
pub stop : (v : ℕ) (bs : List ℕ) → all_digits bs ≡ false → rest v bs ≡ None
stop v bs e = ap (λ (t : Bool). cond t (Some (value v bs)) None) e

here : (x : ℕ) (bs : List ℕ) → 9 < x → all_digits ((x + 48) ∷ bs) ≡ false
here x bs h = simp (le-leb 48 (x + 48) (omega arith), lt-leb (x + 48) 57 (omega arith))

pub later : (b : ℕ) (bs : List ℕ) → all_digits bs ≡ false → all_digits (b ∷ bs) ≡ false
later b bs e = ap (λ (t : Bool). is_digit b && t) e ∙ and-false (is_digit b)

-- ---- what a word writes
module _ (a b c d : ℕ) where
  abbrev four : List ℕ
  four = (a + 48) ∷ (b + 48) ∷ (c + 48) ∷ (d + 48) ∷ []

  four_is : Digits a b c d → rest 0 four ≡ Some (((a * 10 + b) * 10 + c) * 10 + d)
  four_is z =
      let e : rest 0 four ≡ Some (value 0 four) = simp (le-leb 48 (a + 48) (omega arith), le-leb (a + 48) 57 (omega (arith, z.first)), le-leb 48 (b + 48) (omega arith), le-leb (b + 48) 57 (omega (arith, z.second)), le-leb 48 (c + 48) (omega arith), le-leb (c + 48) 57 (omega (arith, z.third)), le-leb 48 (d + 48) (omega arith), le-leb (d + 48) 57 (omega (arith, z.last))) in
      e ∙ ap Some (omega arith)

  four_no : (Digits a b c d → ⊥) → rest 0 four ≡ None
  four_no n = stop 0 four (go (leb a 9) (leb b 9) (leb c 9) (leb d 9) refl refl refl refl)
    where
      go : (p q r s : Bool) → leb a 9 ≡ p → leb b 9 ≡ q → leb c 9 ≡ r → leb d 9 ≡ s → all_digits four ≡ false
      go false q r s e f g h = here a ((b + 48) ∷ (c + 48) ∷ (d + 48) ∷ []) (leb-false a 9 e)
      go true false r s e f g h = later (a + 48) ((b + 48) ∷ (c + 48) ∷ (d + 48) ∷ []) (here b ((c + 48) ∷ (d + 48) ∷ []) (leb-false b 9 f))
      go true true false s e f g h = later (a + 48) ((b + 48) ∷ (c + 48) ∷ (d + 48) ∷ []) (later (b + 48) ((c + 48) ∷ (d + 48) ∷ []) (here c ((d + 48) ∷ []) (leb-false c 9 g)))
      go true true true false e f g h = later (a + 48) ((b + 48) ∷ (c + 48) ∷ (d + 48) ∷ []) (later (b + 48) ((c + 48) ∷ (d + 48) ∷ []) (later (c + 48) ((d + 48) ∷ []) (here d [] (leb-false d 9 h))))
      go true true true true e f g h = absurd (n (record { first = leb-true a 9 e; second = leb-true b 9 f; third = leb-true c 9 g; last = leb-true d 9 h }))

abbrev pub bytes : ℕ → List ℕ
bytes w = (w % 256 + 48) ∷ (w / 256 % 256 + 48) ∷ (w / 65536 % 256 + 48) ∷ (w / 16777216 + 48) ∷ []

module _ (w : ℕ) (h : w < 2 ^ 32) where
  joined : w ≡ join (w % 256) (w / 256 % 256) (w / 65536 % 256) (w / 16777216)
  joined = omega arith

  pub writes : above w ≡ 0 → digits_of 4 (bytes w) ≡ Some (number w)
  writes e =
      let z = all_digits_lem (w % 256) (w / 256 % 256) (w / 65536 % 256) (w / 16777216) (omega arith) (omega arith) (omega arith) (omega arith) (ap above (sym joined) ∙ e) in
      fit (bytes w) 4 (omega arith) (omega arith) (omega arith) ∙ four_is (w % 256) (w / 256 % 256) (w / 65536 % 256) (w / 16777216) z ∙ ap Some (sym (ap number joined ∙ number_is _ _ _ _ z))

  pub writes_none : (above w ≡ 0 → ⊥) → digits_of 4 (bytes w) ≡ None
  writes_none n = fit (bytes w) 4 (omega arith) (omega arith) (omega arith) ∙ four_no (w % 256) (w / 256 % 256) (w / 65536 % 256) (w / 16777216) (λ z. n (ap above joined ∙ none_above _ _ _ _ z))

-- ---- bytes that are known by what they are worth
abbrev pub again : ℕ → ℕ
again b = bit_xor b 48 + 48

-- those that are digits are themselves, and the others are none
pub same : (v : ℕ) (bs : List ℕ) → rest v (map again bs) ≡ rest v bs
same v [] = refl
same v (b ∷ bs) = go (same (v * 10 + bit_xor b 48) bs) (leb (bit_xor b 48) 9) refl
  where
    go : rest (v * 10 + bit_xor b 48) (map again bs) ≡ rest (v * 10 + bit_xor b 48) bs → (t : Bool) → leb (bit_xor b 48) 9 ≡ t → rest v (map again (b ∷ bs)) ≡ rest v (b ∷ bs)
    go left true e =
        let h = leb-true (bit_xor b 48) 9 e in
        let d = is_digit_lem b h in
        let k : again b ≡ b = omega (arith, is_worth b d.0 d.1, d.0) in
        ap (λ (x : ℕ). rest v (x ∷ map again bs)) k ∙ one (b ∷ map again bs) 0 v (bit_xor b 48) refl (omega arith) h ∙ left ∙ sym (one (b ∷ bs) 0 v (bit_xor b 48) refl (omega arith) h)
    go left false e =
        let h = leb-false (bit_xor b 48) 9 e in
        stop v (map again (b ∷ bs)) (here (bit_xor b 48) (map again bs) h) ∙ sym (other (b ∷ bs) 0 v (bit_xor b 48) refl (omega arith) h)

-- four bytes that are known by a word of what they are worth
known : (w a b c d : ℕ) → w % 256 ≡ bit_xor a 48 → w / 256 % 256 ≡ bit_xor b 48 → w / 65536 % 256 ≡ bit_xor c 48 → w / 16777216 ≡ bit_xor d 48 → bytes w ≡ map again (a ∷ b ∷ c ∷ d ∷ [])
known w a b c d e f g h = rw (e, f, g, h)

-- four bytes are read by what they are worth
pub same_digits : (w : ℕ) (bs : List ℕ) → bytes w ≡ map again bs → length bs ≡ 4 → digits_of 4 (bytes w) ≡ digits_of 4 bs
same_digits w bs e l = fit (bytes w) 4 (omega arith) (omega arith) (omega arith) ∙ ap (rest 0) e ∙ same 0 bs ∙ sym (fit bs 4 (omega arith) (omega arith) (omega arith))

-- the four bytes from a place on
front : (t : List ℕ) → 4 ≤ length t → take 4 t ≡ get_or t 0 0 ∷ get_or t 1 0 ∷ get_or t 2 0 ∷ get_or t 3 0 ∷ []
front [] h = absurd (omega arith)
front (a ∷ []) h = absurd (omega arith)
front (a ∷ b ∷ []) h = absurd (omega arith)
front (a ∷ b ∷ c ∷ []) h = absurd (omega arith)
front (a ∷ b ∷ c ∷ d ∷ t) h = refl

pub four_at : (s : List ℕ) (i : ℕ) → i + 4 ≤ length s → take 4 (drop i s) ≡ get_or s i 0 ∷ get_or s (i + 1) 0 ∷ get_or s (i + 2) 0 ∷ get_or s (i + 3) 0 ∷ []
four_at s i l = front (drop i s) (omega (arith, length-drop i s)) ∙ rw (get_or-drop i s 0 0, get_or-drop i s 1 0, get_or-drop i s 2 0, get_or-drop i s 3 0, add-zero)

pub four_known : (w : ℕ) (s : List ℕ) (i : ℕ) → i + 4 ≤ length s → w % 256 ≡ bit_xor (get_or s i 0) 48 → w / 256 % 256 ≡ bit_xor (get_or s (i + 1) 0) 48 → w / 65536 % 256 ≡ bit_xor (get_or s (i + 2) 0) 48 → w / 16777216 ≡ bit_xor (get_or s (i + 3) 0) 48 → bytes w ≡ map again (take 4 (drop i s))
four_known w s i l e f g h = known w (get_or s i 0) (get_or s (i + 1) 0) (get_or s (i + 2) 0) (get_or s (i + 3) 0) e f g h ∙ ap (map again) (sym (four_at s i l))

-- the first of four bytes, with zeros before them: the others go
module _ (w : ℕ) (u : w < 2 ^ 32) where
  pub first_known : (s : List ℕ) → 4 ≤ length s → w % 256 ≡ bit_xor (get_or s 0 0) 48 → w / 256 % 256 ≡ bit_xor (get_or s 1 0) 48 → w / 65536 % 256 ≡ bit_xor (get_or s 2 0) 48 → w / 16777216 ≡ bit_xor (get_or s 3 0) 48 → (k : ℕ) → k ≤ 4 → bytes (w * 2 ^ (32 - 8 * k) % 2 ^ 64 % 2 ^ 32) ≡ map again (replicate (4 - k) 48 ++ take k s)
  first_known [] l e f g h k j = absurd (omega arith)
  first_known (a ∷ []) l e f g h k j = absurd (omega arith)
  first_known (a ∷ b ∷ []) l e f g h k j = absurd (omega arith)
  first_known (a ∷ b ∷ c ∷ []) l e f g h k j = absurd (omega arith)
  first_known (a ∷ b ∷ c ∷ d ∷ t) l e f g h zero j = known (w * 2 ^ 32 % 2 ^ 64 % 2 ^ 32) 48 48 48 48 (omega arith) (omega arith) (omega arith) (omega arith)
  first_known (a ∷ b ∷ c ∷ d ∷ t) l e f g h (suc zero) j = known (w * 16777216 % 2 ^ 64 % 2 ^ 32) 48 48 48 a (omega arith) (omega arith) (omega arith) (omega arith)
  first_known (a ∷ b ∷ c ∷ d ∷ t) l e f g h (suc (suc zero)) j = known (w * 65536 % 2 ^ 64 % 2 ^ 32) 48 48 a b (omega arith) (omega arith) (omega arith) (omega arith)
  first_known (a ∷ b ∷ c ∷ d ∷ t) l e f g h (suc (suc (suc zero))) j = known (w * 256 % 2 ^ 64 % 2 ^ 32) 48 a b c (omega arith) (omega arith) (omega arith) (omega arith)
  first_known (a ∷ b ∷ c ∷ d ∷ t) l e f g h (suc (suc (suc (suc zero)))) j = known (w * 1 % 2 ^ 64 % 2 ^ 32) a b c d (omega arith) (omega arith) (omega arith) (omega arith)
  first_known (a ∷ b ∷ c ∷ d ∷ t) l e f g h (suc (suc (suc (suc (suc k))))) j = absurd (omega arith)
