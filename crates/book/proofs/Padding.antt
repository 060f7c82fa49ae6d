-- Laws of `pad`: twenty places made of the entries that there are.
use mathlib.Core.Path.{◌≡◌, refl, ap}
use mathlib.Core.List.{List, [], ◌∷◌, ◌++◌, append-nil}
use Prim.Native.Nat.{ℕ, zero, suc, ◌-◌, ◌≤◌}
use native.Mathlib.Nat.{not-suc-le-zero, le_of_suc-le-suc}
use native.Mathlib.Numerals.{unary_clauses}
use native.Mathlib.Omega.{arith}
use lib.ListN.{length, take, replicate}
use Rattle.book.specs.declared.Entry.{Entry}
use Rattle.book.specs.Sides.{no_entry, pad}

abbrev pub cons : Entry → List Entry → List Entry
cons x l = x ∷ l

-- k places are made
pub length_pad : (k : ℕ) (l : List Entry) → length (pad k l) ≡ k
unfolding pad
length_pad zero l = refl
length_pad (suc k) [] = ap suc (length_pad k [])
length_pad (suc k) (x ∷ l) = ap suc (length_pad k l)

-- what stands behind k entries falls off
pub pad_all : (k : ℕ) (l t : List Entry) → length l ≡ k → pad k (l ++ t) ≡ l
unfolding pad
pad_all zero [] t h = refl
pad_all zero (x ∷ l) t h = absurd (omega arith)
pad_all (suc k) [] t h = absurd (omega arith)
pad_all (suc k) (x ∷ l) t h = ap (cons x) (pad_all k l t (omega arith))

pub pad_whole : (k : ℕ) (l : List Entry) → length l ≡ k → pad k l ≡ l
pad_whole k l h = rw append-nil at (pad_all k l [] h)

-- the first entries are those that the places are made of
pub take_pad : (n k : ℕ) (l t : List Entry) → length l ≡ n → take k (pad n (take k l ++ t)) ≡ take k l
unfolding pad
take_pad n zero l t h = refl
take_pad zero (suc k) [] t h = refl
take_pad zero (suc k) (x ∷ l) t h = absurd (omega arith)
take_pad (suc n) (suc k) [] t h = absurd (omega arith)
take_pad (suc n) (suc k) (x ∷ l) t h = ap (cons x) (take_pad n k l t (omega arith))

-- unused places at the end are the ones that come by themselves
pub pad_unused : (k m : ℕ) (l : List Entry) → pad k (l ++ replicate m no_entry) ≡ pad k l
unfolding pad
pad_unused zero m l = refl
pad_unused (suc k) zero [] = refl
pad_unused (suc k) (suc m) [] = ap (cons no_entry) (pad_unused k m [])
pad_unused (suc k) m (x ∷ l) = ap (cons x) (pad_unused k m l)

-- at most n entries are followed by as many unused places as are missing
pub pad_append : (n : ℕ) (l : List Entry) → length l ≤ n → pad n l ≡ l ++ replicate (n - length l) no_entry
unfolding pad
pad_append zero [] h = refl
pad_append zero (x ∷ l) h = absurd (not-suc-le-zero h)
pad_append (suc n) [] h = simp unary_clauses (ap (cons no_entry) (simp unary_clauses at (pad_append n [] (omega arith))))
pad_append (suc n) (x ∷ l) h = simp unary_clauses (ap (cons x) (pad_append n l (le_of_suc-le-suc h)))
