-- A price and the number that holds it determine each other. Assumes nothing.
use mathlib.Core.Path.{◌≡◌, refl, sym, ap, ◌∙◌}
use mathlib.Core.Bool.{Bool, true, false, cond, false≢true}
use Prim.Native.Nat.{ℕ, zero, suc, ◌+◌, ◌-◌, ◌*◌, ◌/◌, ◌%◌, ◌≤◌, ◌<◌, ◌^◌}
use native.Mathlib.Omega.{arith}
use native.Mathlib.Nat.{zero-add}
use lib.Dec.{eqb}
use lib.IntN.{ℤ, pos, negsuc, nat_abs, ◌-ℤ◌}
use lib.Signed.{mag, lt_z}
use borrow.Author.Tests.{ltb-true, le-ltb, eq-eqb, ne_eqb, eqb-true, eqb-false}
use mir.Syntax.{w64}
use mir.Val.{SFits, to_z, of_z}
use mir.Facts.{to_z-of_z, to_z_pos}
use Rattle.holding.specs.Prices.{held_of, of_held, top, held_top}

half_even : (n : ℕ) → n * 2 / 2 ≡ n
half_even n = omega arith

half_odd : (n : ℕ) → (n * 2 + 1) / 2 ≡ n
half_odd n = omega arith

pub of_held_of : (p : ℤ) → of_held (held_of p) ≡ p
unfolding held_of of_held
of_held_of (pos n) = rw (eq-eqb (n * 2 % 2) 0 (omega arith), half_even)
of_held_of (negsuc n) = rw (ne_eqb ((n * 2 + 1) % 2) 0 (λ e. omega arith), half_odd)

pub held_of_held : (w : ℕ) → held_of (of_held w) ≡ w
unfolding held_of of_held
held_of_held w = go (eqb (w % 2) 0) refl
  where
    go : (t : Bool) → eqb (w % 2) 0 ≡ t → held_of (cond t (pos (w / 2)) (negsuc (w / 2))) ≡ w
    go true e = let q = eqb-true (w % 2) 0 e in omega arith
    go false e = let q = eqb-false (w % 2) 0 e in omega arith

-- the prices of tag 270 fill one range
pub held_small : (p : ℤ) → nat_abs p < top → held_of p ≤ held_top
unfolding held_of
held_small (pos n) h = omega arith
held_small (negsuc n) h = omega arith

pub small_held : (w : ℕ) → w ≤ held_top → nat_abs (of_held w) < top
unfolding of_held
small_held w h = go (eqb (w % 2) 0) refl
  where
    go : (t : Bool) → eqb (w % 2) 0 ≡ t → nat_abs (cond t (pos (w / 2)) (negsuc (w / 2))) < top
    go true e = omega arith
    go false e = let q = eqb-false (w % 2) 0 e in omega arith

-- below 0, as the code has it
flipped : (n : ℕ) → negsuc 0 -ℤ negsuc n ≡ pos n
flipped n = let q : suc n - 1 ≡ n = omega arith in rw (le-ltb (suc n) 1 (omega arith), q)

module _ (p : ℤ) (fits : SFits w64 p) (minus : lt_z (to_z w64 (of_z w64 p)) (pos 0) ≡ true) where
  flip : (q : ℤ) → lt_z q (pos 0) ≡ true → negsuc 0 -ℤ q ≡ pos (mag q)
  flip (pos n) h = absurd (omega (arith, ltb-true n 0 h))
  flip (negsuc n) h = flipped n

  pub flip_same : negsuc 0 -ℤ to_z w64 (of_z w64 p) ≡ pos (mag p)
  flip_same = rw (to_z-of_z fits) (flip p (rw (to_z-of_z fits) at minus))

  pub flip_fits : SFits w64 (negsuc 0 -ℤ to_z w64 (of_z w64 p))
  flip_fits = rw flip_same (record { sfits = fits.sfits })

  pub flip_back : to_z w64 (of_z w64 (negsuc 0 -ℤ to_z w64 (of_z w64 p))) ≡ pos (mag p)
  flip_back = ap (λ (z : ℤ). to_z w64 (of_z w64 z)) flip_same ∙ to_z_pos w64 fits.sfits

pub held_plus : (p : ℤ) → lt_z p (pos 0) ≡ false → (p ≡ pos (mag p)) × (held_of p ≡ mag p * 2)
unfolding held_of
held_plus (pos n) h = (refl, refl)
held_plus (negsuc n) h = absurd (false≢true (sym h))

-- a negative number from its half
pub down : (n : ℕ) → n < 2 ^ 63 → negsuc 0 -ℤ pos n ≡ negsuc n
down zero h = refl
down (suc n) h = rw zero-add
