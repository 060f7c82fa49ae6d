-- What is written as a price reads back. Assumes nothing.
use Rattle.std.specs.Prelude.{Some}
use mathlib.Core.Path.{◌≡◌, refl, sym, ap, ◌∙◌}
use mathlib.Core.Bool.{Bool, true, false, cond, not, ◌&&◌}
use mathlib.Core.List.{List, [], ◌∷◌, ◌++◌, append-nil}
use Prim.Native.Nat.{ℕ, zero, suc, ◌+◌, ◌-◌, ◌*◌, ◌/◌, ◌%◌, ◌^◌, ◌≤◌, ◌<◌}
use native.Mathlib.Nat.{pow-suc, mul-one, sub_self}
use native.Mathlib.Omega.{arith}
use native.Mathlib.Numerals.{add-one}
use borrow.Author.Tests.{leb-true, eqb-true, eqb-false, le-leb, eq-eqb, ne_eqb}
use lib.Dec.{leb, eqb}
use lib.IntN.{ℤ, pos, negsuc, nat_abs}
use lib.Signed.{lt_z}
use lib.ListN.{length, take, drop}
use lib.Seq.{take-append_seam, drop-append_seam, take-length, drop-length}
use Rattle.digits.specs.Digits.{is_digit, all_digits, value, digits_of}
use Rattle.price.specs.Price.{most_wholes, most_decimals, unit, top, ahead, fraction_of, joined, amount_of, price_of, plus, minus}
use Rattle.digits.proofs.Width.{both}
use Rattle.text.specs.Text.{fixed, width_of, decimal, free}
use Rattle.price.specs.PriceText.{decimals, fraction_text, amount_text, price_text}
use Rattle.text.proofs.Written.{length_fixed, digits_fixed, value_fixed, digits_back, digits_decimal, length_decimal, width_pos}

-- ---- bytes that do not stand in a text
pub digits_free : (x : ℕ) (bs : List ℕ) → is_digit x ≡ false → all_digits bs ≡ true → free x bs ≡ true
digits_free x [] h k = refl
digits_free x (b ∷ bs) h k =
    let d = both (is_digit b) (all_digits bs) k in
    rw (ne_eqb b x (λ e. let z : false ≡ true = sym h ∙ (rw (← e) d.0) in absurd (mathlib.Core.Bool.false≢true z)), digits_free x bs h d.1)

pub ahead_at : (x : ℕ) (a r : List ℕ) → free x a ≡ true → ahead x (a ++ (x ∷ r)) ≡ length a
ahead_at x [] r h = rw (eq-eqb x x refl)
ahead_at x (b ∷ a) r h = go (eqb b x) h (λ e. ahead_at x a r e)
  where
    go : (t : Bool) → not t && free x a ≡ true → (free x a ≡ true → ahead x (a ++ (x ∷ r)) ≡ length a) → cond t 0 (ahead x (a ++ (x ∷ r)) + 1) ≡ suc (length a)
    go true q i = absurd (mathlib.Core.Bool.false≢true q)
    go false q i = rw (i q) (add-one (length a))

pub ahead_none : (x : ℕ) (a : List ℕ) → free x a ≡ true → ahead x a ≡ length a
ahead_none x [] h = refl
ahead_none x (b ∷ a) h = go (eqb b x) h (λ e. ahead_none x a e)
  where
    go : (t : Bool) → not t && free x a ≡ true → (free x a ≡ true → ahead x a ≡ length a) → cond t 0 (ahead x a + 1) ≡ suc (length a)
    go true q i = absurd (mathlib.Core.Bool.false≢true q)
    go false q i = rw (i q) (add-one (length a))

-- ---- fraction_of
pub record Kept (k f : ℕ) (bs : List ℕ) : Type 0 where
  pub any : 0 < length bs
  pub most : length bs ≤ k
  pub digits : all_digits bs ≡ true
  pub same : value 0 bs * 10 ^ (k - length bs) ≡ f

pub kept : (k f : ℕ) → 0 < f → f < 10 ^ k → Kept k f (decimals k f)
unfolding decimals
kept zero f p h = absurd (omega arith)
kept (suc k) f p h =
    let l : f < 10 ^ k * 10 = rw pow-suc at h in
    go (eqb (f % 10) 0) refl (λ z. kept k (f / 10) (omega arith) (omega arith))
  where
    go : (t : Bool) → eqb (f % 10) 0 ≡ t → (f % 10 ≡ 0 → Kept k (f / 10) (decimals k (f / 10))) → Kept (suc k) f (cond t (decimals k (f / 10)) (fixed (suc k) f))
    go true e r =
        let z : f % 10 ≡ 0 = eqb-true (f % 10) 0 e in
        let a = r z in
        let n = length (decimals k (f / 10)) in
        let q : suc k - n ≡ suc (k - n) = omega (arith, a.most) in
        let v : value 0 (decimals k (f / 10)) * (10 ^ (k - n) * 10) ≡ f = rw (← native.Mathlib.Nat.mul_assoc, a.same) (omega arith) in
        record { any = a.any; most = omega (arith, a.most); digits = a.digits; same = rw (q, pow-suc) v }
    go false e r =
        record { any = rw length_fixed (omega arith); most = omega (arith, length_fixed (suc k) f); digits = digits_fixed (suc k) f; same = rw (length_fixed, sub_self, value_fixed (suc k) f h) (mul-one f) }

fraction_back : (f : ℕ) → 0 < f → f < unit → fraction_of (46 ∷ decimals most_decimals f) ≡ Some f
unfolding fraction_of digits_of
fraction_back f p h =
    let a = kept most_decimals f p h in
    rw (le-leb 1 (length (decimals most_decimals f)) a.any, le-leb (length (decimals most_decimals f)) most_decimals a.most, a.digits, a.same)

pub parts_back : (w f : ℕ) → w < 10 ^ most_wholes → f < unit → amount_of (decimal w ++ fraction_text f) ≡ Some (w * unit + f)
unfolding amount_of fraction_text fraction_of
parts_back w f h k = go (eqb f 0) refl
  where
    clear : free 46 (decimal w) ≡ true
    clear = digits_free 46 (decimal w) refl (digits_decimal w)

    read : digits_of most_wholes (decimal w) ≡ Some w
    read = digits_back most_wholes w (omega arith) (omega arith) h

    go : (t : Bool) → eqb f 0 ≡ t
        → joined (digits_of most_wholes (take (ahead 46 (decimal w ++ cond t [] (46 ∷ decimals most_decimals f))) (decimal w ++ cond t [] (46 ∷ decimals most_decimals f)))) (fraction_of (drop (ahead 46 (decimal w ++ cond t [] (46 ∷ decimals most_decimals f))) (decimal w ++ cond t [] (46 ∷ decimals most_decimals f)))) ≡ Some (w * unit + f)
    go true e = rw (append-nil (decimal w), ahead_none 46 (decimal w) clear, take-length (decimal w), drop-length (decimal w), read) (ap (λ (n : ℕ). Some (w * unit + n)) (sym (eqb-true f 0 e)))
    go false e =
        let d : fraction_of (46 ∷ decimals most_decimals f) ≡ Some f = fraction_back f (omega (arith, eqb-false f 0 e)) k in
        rw (ahead_at 46 (decimal w) (decimals most_decimals f) clear, take-append_seam (decimal w) (46 ∷ decimals most_decimals f), drop-append_seam (decimal w) (46 ∷ decimals most_decimals f), read) (ap (joined (Some w)) d)

pub amount_back : (m : ℕ) → m < top → amount_of (amount_text m) ≡ Some m
unfolding amount_text
amount_back m h = parts_back (m / unit) (m % unit) (omega arith) (omega arith) ∙ ap Some (let q : m / unit * unit + m % unit ≡ m = omega arith in q)

no_minus : (a r : List ℕ) → 0 < length a → all_digits a ≡ true → price_of (a ++ r) ≡ plus (amount_of (a ++ r))
unfolding price_of
no_minus [] r p h = absurd (omega arith)
no_minus (b ∷ a) r p h =
    let d = both (is_digit b) (all_digits a) h in
    let e = both (leb 48 b) (leb b 57) d.0 in
    rw (ne_eqb b 45 (λ z. omega (arith, leb-true 48 b e.0)))

decimal_some : (n : ℕ) → 0 < length (decimal n)
unfolding width_of
decimal_some n = rw length_decimal (width_pos 17 n)

plus_amount : (m : ℕ) → price_of (amount_text m) ≡ plus (amount_of (amount_text m))
unfolding amount_text
plus_amount m = no_minus (decimal (m / unit)) (fraction_text (m % unit)) (decimal_some (m / unit)) (digits_decimal (m / unit))

minus_amount : (m : ℕ) → price_of (45 ∷ amount_text m) ≡ minus (amount_of (amount_text m))
unfolding price_of
minus_amount m = refl

-- a price written is read back
pub price_back : (p : ℤ) → nat_abs p < top → price_of (price_text p) ≡ Some p
unfolding price_text
price_back (pos n) h = plus_amount n ∙ ap plus (amount_back n h)
price_back (negsuc n) h = minus_amount (suc n) ∙ ap minus (amount_back (suc n) h)

-- the sign, as the code has it
pub text_minus : (p : ℤ) → lt_z p (pos 0) ≡ true → price_text p ≡ 45 ∷ amount_text (nat_abs p)
unfolding price_text
text_minus (pos n) h = absurd (omega (arith, borrow.Author.Tests.ltb-true n 0 h))
text_minus (negsuc n) h = refl

pub text_plus : (p : ℤ) → lt_z p (pos 0) ≡ false → price_text p ≡ amount_text (nat_abs p)
unfolding price_text
text_plus (pos n) h = refl
text_plus (negsuc n) h = absurd (mathlib.Core.Bool.false≢true (sym h))

-- ---- turns of the loop that drops zeros
pub decimals_any : (k m : ℕ) → 0 < m → m < 10 ^ k → 0 < k
decimals_any zero m p h = absurd (omega arith)
decimals_any (suc k) m p h = omega arith

pub decimals_stop : (k m : ℕ) → 0 < k → (m % 10 ≡ 0 → ⊥) → decimals k m ≡ fixed k m
unfolding decimals
decimals_stop zero m p h = absurd (omega arith)
decimals_stop (suc k) m p h = rw (ne_eqb (m % 10) 0 h)

pub decimals_more : (k m : ℕ) → 0 < k → m % 10 ≡ 0 → decimals k m ≡ decimals (k - 1) (m / 10)
unfolding decimals
decimals_more zero m p h = absurd (omega arith)
decimals_more (suc k) m p h = let q : suc k - 1 ≡ k = omega arith in rw (eq-eqb (m % 10) 0 h, q)

pub pow_less : (k m : ℕ) → 0 < k → m < 10 ^ k → m / 10 < 10 ^ (k - 1)
pow_less zero m p h = absurd (omega arith)
pow_less (suc k) m p h = let q : suc k - 1 ≡ k = omega arith in let l : m < 10 ^ k * 10 = rw pow-suc at h in rw q (omega arith)
