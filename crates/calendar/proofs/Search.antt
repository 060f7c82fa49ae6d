-- The last step of a rising function that is no later than a number. Assumes nothing.
use mathlib.Core.Path.{◌≡◌, refl, sym}
use mathlib.Core.Bool.{Bool, true, false, cond}
use Prim.Native.Nat.{ℕ, zero, suc, ◌≤◌, ◌<◌}
use native.Mathlib.Omega.{arith}
use borrow.Author.Tests.{leb-true, leb-false, le-leb, lt-leb}
use native.Mathlib.Numerals.{add-one}
use lib.Dec.{leb}
use Rattle.std.specs.Prelude.{Option, None, Some, MatchOption, ◌+◌}
use Rattle.std.specs.Option.{unwrap_or}
use Rattle.calendar.specs.Calendar.{last_to}

pub last_most : (f : ℕ → ℕ) (n d : ℕ) → last_to f n d ≤ n
unfolding last_to
last_most f zero d = omega arith
last_most f (suc n) d = go (leb (f (suc n)) d) (last_most f n d)
  where
    go : (t : Bool) → last_to f n d ≤ n → cond t (suc n) (last_to f n d) ≤ suc n
    go true h = omega arith
    go false h = omega arith

pub last_le : (f : ℕ → ℕ) (n d : ℕ) → f 0 ≤ d → f (last_to f n d) ≤ d
unfolding last_to
last_le f zero d h = h
last_le f (suc n) d h = go (leb (f (suc n)) d) refl (last_le f n d h)
  where
    go : (t : Bool) → leb (f (suc n)) d ≡ t → f (last_to f n d) ≤ d → f (cond t (suc n) (last_to f n d)) ≤ d
    go true e r = leb-true (f (suc n)) d e
    go false e r = r

pub last_next : (f : ℕ → ℕ) (n d : ℕ) → d < f (suc n) → d < f (suc (last_to f n d))
unfolding last_to
last_next f zero d h = h
last_next f (suc n) d h = go (leb (f (suc n)) d) refl (λ l. last_next f n d l)
  where
    go : (t : Bool) → leb (f (suc n)) d ≡ t → (d < f (suc n) → d < f (suc (last_to f n d))) → d < f (suc (cond t (suc n) (last_to f n d)))
    go true e r = h
    go false e r = r (leb-false (f (suc n)) d e)

pub last_top : (f : ℕ → ℕ) (n d : ℕ) → f n ≤ d → last_to f n d ≡ n
unfolding last_to
last_top f zero d h = refl
last_top f (suc n) d h = rw (le-leb (f (suc n)) d h)

module _ (f : ℕ → ℕ) (rises : (j : ℕ) → f j ≤ f (suc j)) where
  pub rising : (j k : ℕ) → j ≤ k → f j ≤ f k
  rising j zero h = let z : j ≡ 0 = omega arith in rw z (omega arith)
  rising j (suc k) h = go (leb j k) refl (λ l. rising j k l)
    where
      go : (t : Bool) → leb j k ≡ t → (j ≤ k → f j ≤ f k) → f j ≤ f (suc k)
      go true e r = omega (arith, r (leb-true j k e), rises k)
      go false e r = let z : j ≡ suc k = omega (arith, leb-false j k e) in rw z (omega arith)

  -- there is only one such step
  pub last_is : (n k d : ℕ) → k ≤ n → f k ≤ d → d < f (suc k) → last_to f n d ≡ k
  unfolding last_to
  last_is zero k d h a b = omega arith
  last_is (suc n) k d h a b = go (leb k n) refl (λ l. last_is n k d l a b)
    where
      go : (t : Bool) → leb k n ≡ t → (k ≤ n → last_to f n d ≡ k) → last_to f (suc n) d ≡ k
      go true e r =
          let l : k ≤ n = leb-true k n e in
          rw (lt-leb (f (suc n)) d (omega (arith, rising (suc k) (suc n) (omega arith)))) (r l)
      go false e r =
          let z : k ≡ suc n = omega (arith, leb-false k n e) in
          rw (le-leb (f (suc n)) d (rw z at a)) (sym z)

  -- f has come no further at i where none of its steps from s to i went past d
  none_past : (s i d : ℕ) → s ≤ i → f s ≤ d → ((k : ℕ) → s ≤ k → k < i → f (k + 1) ≤ d) → f i ≤ d
  none_past s zero d a b h = let z : s ≡ 0 = omega arith in rw z at b
  none_past s (suc i) d a b h = go (leb s i) refl (h i)
    where
      go : (t : Bool) → leb s i ≡ t → (s ≤ i → i < suc i → f (i + 1) ≤ d) → f (suc i) ≤ d
      go true e r = rw add-one at (r (leb-true s i e) (omega arith))
      go false e r = let z : s ≡ suc i = omega (arith, leb-false s i e) in rw z at b

  -- the first step from s on whose next is later than d, or n where none below n is
  pub last_found : (n s d : ℕ) (r : Option ℕ) → s ≤ n → f s ≤ d
      → MatchOption r ((k : ℕ) → s ≤ k → k < n → f (k + 1) ≤ d) (λ i. (s ≤ i) × (i < n) × (d < f (i + 1)) × ((k : ℕ) → s ≤ k → k < i → f (k + 1) ≤ d))
      → unwrap_or r n ≡ last_to f n d
  last_found n s d None a b h = sym (last_top f n d (none_past s n d a b h))
  last_found n s d (Some i) a b h = sym (last_is n i d (omega (arith, h.1)) (none_past s i d h.0 b h.3) (rw add-one at h.2))
