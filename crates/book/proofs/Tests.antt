-- When p is one of the places 1 to n, as the test says it and as numbers say it, and where the test leads.
use mathlib.Core.Path.{◌≡◌, refl}
use mathlib.Core.Bool.{Bool, true, false, cond, ◌&&◌}
use Prim.Native.Nat.{ℕ, ◌≤◌}
use native.Mathlib.Omega.{arith}
use lib.Dec.{leb}
use borrow.Author.Tests.{leb-true, le-leb}
use Rattle.book.specs.Rules.{is_place}

-- a test, by what holds either way
pub by_test : {A : Type 0} (R : A → Type 0) (t : Bool) {x y : A} → (t ≡ true → R x) → (t ≡ false → R y) → R (cond t x y)
by_test R true h g = h refl
by_test R false h g = g refl

pub place_in : (p n : ℕ) → 1 ≤ p → p ≤ n → is_place p n ≡ true
place_in p n a b = rw (le-leb 1 p a, le-leb p n b)

pub place_is : (p n : ℕ) → is_place p n ≡ true → (1 ≤ p) × (p ≤ n)
place_is p n h = go (leb 1 p) refl h
  where
    go : (t : Bool) → leb 1 p ≡ t → t && leb p n ≡ true → (1 ≤ p) × (p ≤ n)
    go true e g = (leb-true 1 p e, leb-true p n g)
    go false e g = let z : ◌≡◌ {A = ℕ} 0 1 = cc in absurd (omega arith)
