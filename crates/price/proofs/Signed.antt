-- Signed numbers from unsigned ones and back, as the machine has them. Assumes nothing.
use mathlib.Core.Path.{◌≡◌, ap, ◌∙◌}
use Prim.Native.Nat.{ℕ, zero, suc, ◌<◌, ◌^◌}
use native.Mathlib.Omega.{arith}
use lib.IntN.{ℤ, pos, neg_ℤ, ◌-ℤ◌, +ℤ_idl}
use mir.Syntax.{w64}
use mir.Val.{SFits, to_z, of_z}
use mir.Facts.{sfits_lit, to_z_pos, to_z-of_z}

pub plus_fits : (m : ℕ) → m < 2 ^ 63 → SFits w64 (pos m)
plus_fits m h = record { sfits = omega arith }

pub minus_fits : (m : ℕ) → m < 2 ^ 63 → SFits w64 (neg_ℤ (pos m))
minus_fits zero h = sfits_lit tt
minus_fits (suc n) h = record { sfits = omega arith }

minus_of : (m : ℕ) → m < 2 ^ 63 → pos 0 -ℤ to_z w64 m ≡ neg_ℤ (pos m)
minus_of m h = ap (λ (z : ℤ). pos 0 -ℤ z) (to_z_pos w64 h) ∙ +ℤ_idl (neg_ℤ (pos m))

pub minus_is : (m : ℕ) → m < 2 ^ 63 → to_z w64 (of_z w64 (pos 0 -ℤ to_z w64 m)) ≡ neg_ℤ (pos m)
minus_is m h = ap (λ (z : ℤ). to_z w64 (of_z w64 z)) (minus_of m h) ∙ to_z-of_z (minus_fits m h)
