-- Digits that read as a whole number are that number's shortest form. Assumes nothing.
use Rattle.std.specs.Prelude.{Option, Some, None}
use mathlib.Core.Path.{◌≡◌, refl, ap, ◌∙◌}
use mathlib.Core.List.{List, [], ◌∷◌, ◌++◌, append-nil, append_assoc}
use mathlib.Core.Bool.{Bool, true, false, cond, ◌&&◌}
use Prim.Native.Nat.{ℕ, suc, ◌+◌, ◌-◌, ◌*◌, ◌/◌, ◌%◌, ◌^◌, ◌≤◌, ◌<◌}
use native.Mathlib.Omega.{arith}
use native.Mathlib.Nat.{add-zero, add-suc, suc-add, zero-add, pow-suc, pow-le-pow_right}
use borrow.Author.Tests.{leb-true, le-leb, eq-eqb}
use lib.Dec.{leb}
use lib.ListN.{length}
use Rattle.digits.specs.Digits.{is_digit, all_digits, value, digits_of, whole_of, ranged_of, within}
use Rattle.digits.proofs.Width.{both, below, whole_is_digits}
use Rattle.text.specs.Text.{fixed, width_to, width_of, decimal}
use Rattle.text.proofs.Written.{width_pos, width_le, width_more}

-- ---- what reading says of the bytes
pub record Digits (w : ℕ) (bs : List ℕ) (n : ℕ) : Type 0 where
  pub some : 1 ≤ length bs
  pub most : length bs ≤ w
  pub wide : w ≤ 18
  pub all : all_digits bs ≡ true
  pub is : value 0 bs ≡ n

pub read_digits : (w : ℕ) (bs : List ℕ) {n : ℕ} → digits_of w bs ≡ Some n → Digits w bs n
unfolding digits_of
read_digits w bs {n} = go (leb 1 (length bs)) (leb (length bs) w) (leb w 18) (all_digits bs) refl refl refl refl
  where
    go : (a b c d : Bool) → leb 1 (length bs) ≡ a → leb (length bs) w ≡ b → leb w 18 ≡ c → all_digits bs ≡ d
        → cond (a && (b && (c && d))) (Some (value 0 bs)) None ≡ Some n → Digits w bs n
    go true true true true p q r t e = record { some = leb-true 1 (length bs) p; most = leb-true (length bs) w q; wide = leb-true w 18 r; all = t; is = cc }
    go true true true false p q r t e = let z : ◌≡◌ {A = ℕ} 0 1 = cc in absurd (omega arith)
    go true true false d p q r t e = let z : ◌≡◌ {A = ℕ} 0 1 = cc in absurd (omega arith)
    go true false c d p q r t e = let z : ◌≡◌ {A = ℕ} 0 1 = cc in absurd (omega arith)
    go false b c d p q r t e = let z : ◌≡◌ {A = ℕ} 0 1 = cc in absurd (omega arith)

pub ranged_whole : (w lo hi : ℕ) (bs : List ℕ) {n : ℕ} → ranged_of w lo hi bs ≡ Some n → whole_of w bs ≡ Some n
unfolding ranged_of
ranged_whole w lo hi bs {n} = go (whole_of w bs)
  where
    go : (x : Option ℕ) → within lo hi x ≡ Some n → x ≡ Some n
    go None e = e
    go (Some v) e = pick (leb lo v && leb v hi) e
      where
        pick : (t : Bool) → cond t (Some v) None ≡ Some n → Some v ≡ Some n
        pick true f = f
        pick false f = let z : ◌≡◌ {A = ℕ} 0 1 = cc in absurd (omega arith)

pub tag_digits : (bs : List ℕ) {t : ℕ} → ranged_of 5 1 99999 bs ≡ Some t → all_digits bs ≡ true
tag_digits bs e = (read_digits 5 bs (whole_is_digits 5 bs (ranged_whole 5 1 99999 bs e))).all

-- ---- written again
fixed_value : (k v : ℕ) (bs : List ℕ) → all_digits bs ≡ true → fixed (k + length bs) (value v bs) ≡ fixed k v ++ bs
unfolding fixed
fixed_value k v [] h = rw (add-zero, append-nil)
fixed_value k v (b ∷ bs) h =
    let d = both (is_digit b) (all_digits bs) h in
    let e = both (leb 48 b) (leb b 57) d.0 in
    let l : 48 ≤ b = leb-true 48 b e.0 in
    let g : b ≤ 57 = leb-true b 57 e.1 in
    let q : (v * 10 + (b - 48)) / 10 ≡ v = omega arith in
    let r : 48 + (v * 10 + (b - 48)) % 10 ≡ b = omega arith in
    let n : k + suc (length bs) ≡ suc k + length bs = omega arith in
    ap (λ (j : ℕ). fixed j (value v (b ∷ bs))) n ∙ fixed_value (suc k) (v * 10 + (b - 48)) bs d.1 ∙ rw (q, r, append_assoc)

-- exactly as many digits as they were
pub fixed_back : (bs : List ℕ) → all_digits bs ≡ true → fixed (length bs) (value 0 bs) ≡ bs
unfolding fixed
fixed_back bs h = rw zero-add at (fixed_value 0 0 bs h)

-- digits after a number of at least k digits
value_ge : (k v : ℕ) (bs : List ℕ) → 10 ^ k ≤ v → 10 ^ (k + length bs) ≤ value v bs
value_ge k v [] h = rw add-zero h
value_ge k v (b ∷ bs) h =
    let p : 10 ^ suc k ≤ v * 10 + (b - 48) = rw pow-suc (omega arith) in
    rw (add-suc, ← suc-add) (value_ge (suc k) (v * 10 + (b - 48)) bs p)

-- a leading digit that is no zero
lead_ge : (b : ℕ) (bs : List ℕ) → 49 ≤ b → 10 ^ length bs ≤ value 0 (b ∷ bs)
lead_ge b bs h = rw zero-add at (value_ge 0 (0 * 10 + (b - 48)) bs (omega arith))

pub own_width : (w : ℕ) (bs : List ℕ) {n : ℕ} → Digits w bs n → digits_of (length bs) bs ≡ Some n
unfolding digits_of
own_width w bs {n} d =
    let l = length bs in
    rw (le-leb 1 l d.some, le-leb l l (omega arith), le-leb l 18 (omega (arith, d.most, d.wide)), d.all, d.is)

no_lead_zero : (w b : ℕ) (bs : List ℕ) {n : ℕ} → 1 ≤ length bs → whole_of w (b ∷ bs) ≡ Some n → b ≡ 48 → ⊥
unfolding whole_of
no_lead_zero w b bs {n} l e h =
    let f : None ≡ Some n = rw (le-leb 2 (suc (length bs)) (omega arith), eq-eqb b 48 h) at e in
    let z : ◌≡◌ {A = ℕ} 0 1 = cc in
    omega arith

width_of_lem : (w : ℕ) (bs : List ℕ) {n : ℕ} → Digits w bs n → whole_of w bs ≡ Some n → width_of n ≡ length bs
unfolding width_of
width_of_lem w bs {n} d e = omega (arith, width_le 17 n (length bs) d.some small, go bs d e)
  where
    small : n < 10 ^ length bs
    small = below (length bs) bs (own_width w bs d)

    go : (cs : List ℕ) → Digits w cs n → whole_of w cs ≡ Some n → length cs ≤ width_to 17 n
    go [] c f = omega arith
    go (b ∷ []) c f = width_pos 17 n
    go (b ∷ x ∷ cs) c f =
        let a = both (is_digit b) (all_digits (x ∷ cs)) c.all in
        let l : 49 ≤ b = omega (arith, leb-true 48 b (both (leb 48 b) (leb b 57) a.0).0, no_lead_zero w b (x ∷ cs) (omega arith) f) in
        let k : length bs ≤ 18 = omega (arith, d.most, d.wide) in
        let m : 10 ^ length bs ≤ 10 ^ 18 = pow-le-pow_right (omega arith) k in
        let g : 10 ^ suc (length cs) ≤ n = rw c.is at (lead_ge b (x ∷ cs) l) in
        width_more 17 n (suc (length cs)) (omega (arith, small)) g

-- the shortest form
pub decimal_back : (w : ℕ) (bs : List ℕ) {n : ℕ} → whole_of w bs ≡ Some n → decimal n ≡ bs
unfolding decimal
decimal_back w bs {n} e =
    let d = read_digits w bs (whole_is_digits w bs e) in
    rw (width_of_lem w bs d e, ← d.is) (fixed_back bs d.all)
