-- Laws of `rows`: where the numbers of a list's things stand, so many numbers to each, and that the others are zero.
use mathlib.Core.Path.{◌≡◌, refl, sym, ◌∙◌}
use mathlib.Core.List.{List, [], ◌∷◌, ◌++◌}
use Prim.Native.Nat.{ℕ, zero, suc, ◌+◌, ◌*◌, ◌-◌, ◌≤◌, ◌<◌}
use native.Mathlib.Nat.{zero-mul, suc-mul, zero-add, le_of_suc-le-suc}
use native.Mathlib.Omega.{arith}
use lib.ListN.{length, get_or, length-append, get_or-append}
use lib.Seq.{get_or-append-add}
use Rattle.cells.specs.Cells.{zeros}
use Rattle.cells.proofs.Stores.{below_or}
use Rattle.cells.proofs.Tables.{length_zeros, get_d_zeros}
use Rattle.store.specs.Meaning.{rows}

-- a list behind another of so many, and the first of them
pub behind : (p q : List ℕ) (n k : ℕ) → length p ≡ n → get_or (p ++ q) (n + k) 0 ≡ get_or q k 0
behind p q n k e = rw e at (get_or-append-add p q k 0)

pub before : (p q : List ℕ) (n k : ℕ) → length p ≡ n → k < n → get_or (p ++ q) k 0 ≡ get_or p k 0
before p q n k e h = get_or-append p q 0 k (omega (arith, e))

pub in_zeros : (q : List ℕ) (n k : ℕ) → k < n → get_or (zeros n ++ q) k 0 ≡ 0
in_zeros q n k h = before (zeros n) q n k (length_zeros n) h ∙ get_d_zeros n k

module _ {A : Type 0} (f : A → List ℕ) (wide : ℕ) (fits : (x : A) → length (f x) ≡ wide) where
  pub length_rows : (n : ℕ) (l : List A) → length (rows f wide n l) ≡ n * wide
  unfolding rows
  length_rows zero l = sym (zero-mul wide)
  length_rows (suc n) [] = rw length-append (omega (arith, length_zeros wide, length_rows n [], suc-mul n wide))
  length_rows (suc n) (x ∷ l) = rw length-append (omega (arith, fits x, length_rows n l, suc-mul n wide))

  -- number j of thing i
  pub rows_in : (n : ℕ) (l : List A) (i j : ℕ) (d : A) → i < n → i < length l → j < wide → get_or (rows f wide n l) (i * wide + j) 0 ≡ get_or (f (get_or l i d)) j 0
  unfolding rows
  rows_in zero l i j d h g w = absurd (omega arith)
  rows_in (suc n) [] i j d h g w = absurd (omega arith)
  rows_in (suc n) (x ∷ l) zero j d h g w = rw (zero-mul, zero-add) (before (f x) (rows f wide n l) wide j (fits x) w)
  rows_in (suc n) (x ∷ l) (suc i) j d h g w =
      let e : suc i * wide + j ≡ wide + (i * wide + j) = omega (arith, suc-mul i wide) in
      rw e (behind (f x) (rows f wide n l) wide (i * wide + j) (fits x) ∙ rows_in n l i j d (le_of_suc-le-suc h) (le_of_suc-le-suc g) w)

  -- what stands behind them
  pub rows_out : (n : ℕ) (l : List A) (k : ℕ) → length l * wide ≤ k → get_or (rows f wide n l) k 0 ≡ 0
  unfolding rows
  rows_out zero l k h = refl
  rows_out (suc n) [] k h =
      below_or k wide (λ q. in_zeros (rows f wide n []) wide k q) (λ q.
      let e : wide + (k - wide) ≡ k = omega arith in
      rw e at (behind (zeros wide) (rows f wide n []) wide (k - wide) (length_zeros wide) ∙ rows_out n [] (k - wide) (omega (arith, zero-mul wide))))
  rows_out (suc n) (x ∷ l) k h =
      let m : length l * wide + wide ≤ k = omega (arith, suc-mul (length l) wide) in
      let e : wide + (k - wide) ≡ k = omega arith in
      rw e at (behind (f x) (rows f wide n l) wide (k - wide) (fits x) ∙ rows_out n l (k - wide) (omega arith))
