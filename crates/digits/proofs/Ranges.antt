-- A number read in a range lies in it. Assumes nothing.
use Rattle.std.specs.Prelude.{Option, Some, None}
use Rattle.std.proofs.Common.{◌≡◌, ℕ, ◌≤◌, Bool, true, false, cond, ◌&&◌, leb, List, refl, arith, le-leb, leb-true}
use Rattle.digits.specs.Digits.{whole_of, ranged_of, within}

pub record In (lo hi n : ℕ) : Type 0 where
  pub low : lo ≤ n
  pub high : n ≤ hi

pub within_in : (lo hi : ℕ) {n : ℕ} (x : Option ℕ) → within lo hi x ≡ Some n → In lo hi n
within_in lo hi None e = let z : ◌≡◌ {A = ℕ} 0 1 = cc in absurd (omega arith)
within_in lo hi {n} (Some v) e = go (leb lo v) (leb v hi) refl refl e
  where
    go : (a b : Bool) → leb lo v ≡ a → leb v hi ≡ b → cond (a && b) (Some v) None ≡ Some n → In lo hi n
    go true true p q f = let x : v ≡ n = cc in rw (← x) (record { low = leb-true lo v p; high = leb-true v hi q })
    go true false p q f = let z : ◌≡◌ {A = ℕ} 0 1 = cc in absurd (omega arith)
    go false b p q f = let z : ◌≡◌ {A = ℕ} 0 1 = cc in absurd (omega arith)

pub ranged_in : (w lo hi : ℕ) (bs : List ℕ) {n : ℕ} → ranged_of w lo hi bs ≡ Some n → In lo hi n
unfolding ranged_of
ranged_in w lo hi bs e = within_in lo hi (whole_of w bs) e

-- a whole number that lies in the range is read
pub ranged_back : (w lo hi : ℕ) (bs : List ℕ) {n : ℕ} → whole_of w bs ≡ Some n → lo ≤ n → n ≤ hi → ranged_of w lo hi bs ≡ Some n
unfolding ranged_of
ranged_back w lo hi bs {n} e l h = rw e (simp (le-leb lo n l, le-leb n hi h))
