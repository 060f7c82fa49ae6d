-- Laws of `All`: a property of every entry of a list.
use mathlib.Core.List.{List, [], ◌∷◌, ◌++◌}
use Prim.Native.Nat.{ℕ, zero, suc, ◌<◌}
use native.Mathlib.Nat.{le_of_suc-le-suc}
use native.Mathlib.Omega.{arith}
use lib.ListN.{length, get_or, take, drop}
use Rattle.book.specs.declared.Entry.{Entry}
use Rattle.book.specs.Canonical.{All}

module _ (P : Entry → Type 0) where
  pub all_append : (l m : List Entry) → All P l → All P m → All P (l ++ m)
  all_append [] m h g = g
  all_append (x ∷ l) m h g = (h.0, all_append l m h.1 g)

  pub all_take : (n : ℕ) (l : List Entry) → All P l → All P (take n l)
  all_take zero l h = tt
  all_take (suc n) [] h = tt
  all_take (suc n) (x ∷ l) h = (h.0, all_take n l h.1)

  pub all_drop : (n : ℕ) (l : List Entry) → All P l → All P (drop n l)
  all_drop zero l h = h
  all_drop (suc n) [] h = tt
  all_drop (suc n) (x ∷ l) h = all_drop n l h.1

  -- the same by index
  pub all_at : (l : List Entry) (i : ℕ) (d : Entry) → All P l → i < length l → P (get_or l i d)
  all_at [] i d h g = absurd (omega arith)
  all_at (x ∷ l) zero d h g = h.0
  all_at (x ∷ l) (suc i) d h g = all_at l i d h.1 (le_of_suc-le-suc g)

  pub all_of : (l : List Entry) (d : Entry) → ((i : ℕ) → i < length l → P (get_or l i d)) → All P l
  all_of [] d h = tt
  all_of (x ∷ l) d h = (h 0 (omega arith), all_of l d (λ i g. h (suc i) (omega arith)))
