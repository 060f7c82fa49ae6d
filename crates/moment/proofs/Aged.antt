-- An age is a difference of milliseconds, and fits 64 bits. Assumes nothing.
use mathlib.Core.Path.{◌≡◌, refl, sym, ap, ◌∙◌}
use mathlib.Core.Bool.{Bool, true, false}
use Prim.Native.Nat.{ℕ, zero, suc, ◌+◌, ◌-◌, ◌*◌, ◌^◌, ◌≤◌, ◌<◌}
use native.Mathlib.Omega.{arith}
use borrow.Author.Tests.{lt-ltb, le-ltb, leb-true, leb-false}
use lib.Dec.{leb}
use lib.IntN.{ℤ, pos, negsuc, neg_ℤ, ◌+ℤ◌, ◌-ℤ◌, ◌*ℤ◌, +ℤ_assoc, +ℤ_comm, neg_ℤ-+ℤ}
use mir.Syntax.{w64}
use mir.Val.{SFits, to_z}
use mir.Facts.{to_z_pos}
use Rattle.moment.specs.Moments.{span, moments, day_part, time_part}
use Rattle.moment.specs.Ages.{millis, age_of, since_zero}

-- ---- differences of numbers
pub minus_pos : (x y : ℕ) → y ≤ x → pos x -ℤ pos y ≡ pos (x - y)
minus_pos x zero h = ap pos (omega arith)
minus_pos x (suc y) h = rw (le-ltb x (suc y) h)

pub minus_neg : (x y : ℕ) → x < y → pos x -ℤ pos y ≡ negsuc (y - suc x)
minus_neg x zero h = absurd (omega arith)
minus_neg x (suc y) h = rw (lt-ltb x (suc y) h)

pub minus_shift : (k x y : ℕ) → pos (k + x) -ℤ pos (k + y) ≡ pos x -ℤ pos y
minus_shift k x y = go (leb y x) refl
  where
    go : (t : Bool) → leb y x ≡ t → pos (k + x) -ℤ pos (k + y) ≡ pos x -ℤ pos y
    go true e =
        let h : y ≤ x = leb-true y x e in
        rw (minus_pos (k + x) (k + y) (omega arith), minus_pos x y h) (ap pos (omega arith))
    go false e =
        let h : x < y = leb-false y x e in
        rw (minus_neg (k + x) (k + y) (omega arith), minus_neg x y h) (ap negsuc (omega arith))

neg_at : (n : ℕ) → 0 < n → neg_ℤ (pos n) ≡ negsuc (n - 1)
neg_at zero h = absurd (omega arith)
neg_at (suc n) h = ap negsuc (omega arith)

-- a number of days apart in milliseconds
days_apart : (a b : ℕ) → (pos a -ℤ pos b) *ℤ pos 86400000 ≡ pos (a * 86400000) -ℤ pos (b * 86400000)
days_apart a b = go (leb b a) refl
  where
    go : (t : Bool) → leb b a ≡ t → (pos a -ℤ pos b) *ℤ pos 86400000 ≡ pos (a * 86400000) -ℤ pos (b * 86400000)
    go true e =
        let h : b ≤ a = leb-true b a e in
        rw (minus_pos a b h, minus_pos (a * 86400000) (b * 86400000) (omega arith)) (ap pos (omega arith))
    go false e =
        let h : a < b = leb-false b a e in
        rw (minus_neg a b h, minus_neg (a * 86400000) (b * 86400000) (omega arith))
        (neg_at (suc (b - suc a) * 86400000) (omega arith) ∙ ap negsuc (omega arith))

swapped : (p q r s : ℤ) → (p +ℤ q) +ℤ (r +ℤ s) ≡ (p +ℤ r) +ℤ (q +ℤ s)
swapped p q r s =
    +ℤ_assoc p q (r +ℤ s)
    ∙ ap (λ (z : ℤ). p +ℤ z) (sym (+ℤ_assoc q r s) ∙ ap (λ (z : ℤ). z +ℤ s) (+ℤ_comm q r) ∙ +ℤ_assoc r q s)
    ∙ sym (+ℤ_assoc p r (q +ℤ s))

minus_sum : (a b c d : ℕ) → (pos a -ℤ pos b) +ℤ (pos c -ℤ pos d) ≡ pos (a + c) -ℤ pos (b + d)
minus_sum a b c d = swapped (pos a) (neg_ℤ (pos b)) (pos c) (neg_ℤ (pos d)) ∙ ap (λ (z : ℤ). pos (a + c) +ℤ z) (sym (neg_ℤ-+ℤ (pos b) (pos d)))

-- ---- an age
pub age_is : (now heard : ℕ) → age_of now heard ≡ pos (since_zero now) -ℤ pos (since_zero heard)
unfolding age_of
age_is now heard =
    ap (λ (z : ℤ). z +ℤ (pos (millis (time_part now)) -ℤ pos (millis (time_part heard)))) (days_apart (day_part now) (day_part heard))
    ∙ minus_sum (day_part now * 86400000) (day_part heard * 86400000) (millis (time_part now)) (millis (time_part heard))

pub millis_most : (t : ℕ) → t < span → millis t ≤ 86459999
unfolding millis
millis_most t h = omega arith

pub since_lt : (m : ℕ) → m < moments → since_zero m < 2 ^ 62
since_lt m h = omega (arith, millis_most (time_part m) (omega arith))

-- read back from 64 bits
pub since_z : (m : ℕ) → m < moments → to_z w64 (since_zero m) ≡ pos (since_zero m)
since_z m h = to_z_pos w64 (omega (arith, since_lt m h))

pub difference_fits : (x y : ℕ) → x < 2 ^ 62 → y < 2 ^ 62 → SFits w64 (pos x -ℤ pos y)
difference_fits x y h k = go (leb y x) refl
  where
    go : (t : Bool) → leb y x ≡ t → SFits w64 (pos x -ℤ pos y)
    go true e = rw (minus_pos x y (leb-true y x e)) (record { sfits = omega arith })
    go false e = rw (minus_neg x y (leb-false y x e)) (record { sfits = omega arith })
