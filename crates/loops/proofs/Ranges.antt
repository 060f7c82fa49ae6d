-- The tests of a loop's record, as the code makes them.
use mathlib.Core.Path.{◌≡◌, refl, sym}
use mathlib.Core.Bool.{Bool, true, false, ◌&&◌}
use Prim.Native.Nat.{ℕ, ◌/◌, ◌^◌}
use native.Mathlib.Nat.{div-eq_of_lt}
use native.Mathlib.Omega.{arith}
use lib.Dec.{leb, ltb, eqb}
use borrow.Author.Tests.{eq-eqb, ne_eqb, ltb-true, ltb-false}
use Rattle.heading.proofs.Bits.{no_bit}
use Rattle.message.specs.Message.{most_number}
use Rattle.loops.specs.declared.Loop.{Loop}
use Rattle.loops.specs.Sound.{rests_loop, sound_loop}

-- no bit at or above k
above : (m k : ℕ) → ltb m (2 ^ k) ≡ eqb (m / 2 ^ k) 0
above m k = go (ltb m (2 ^ k)) refl
  where
    go : (t : Bool) → ltb m (2 ^ k) ≡ t → t ≡ eqb (m / 2 ^ k) 0
    go true e = sym (eq-eqb (m / 2 ^ k) 0 (div-eq_of_lt (ltb-true m (2 ^ k) e)))
    go false e = sym (ne_eqb (m / 2 ^ k) 0 (λ z. omega (arith, no_bit m k z, ltb-false m (2 ^ k) e)))

module _ (k : ℕ) (l : Loop) where
  pub rests : l.loops ≡ 0 → sound_loop k l ≡ rests_loop l
  unfolding sound_loop
  rests e = rw (eq-eqb l.loops 0 e)

  pub runs : (l.loops ≡ 0 → ⊥)
      → sound_loop k l
      ≡ (leb 1 l.come && ltb l.come l.loops && leb l.loops most_number && leb l.low most_number && eqb (l.named / 2 ^ k) 0)
  unfolding sound_loop
  runs e = rw (ne_eqb l.loops 0 e, above l.named k)
