-- Numbers as bytes, and what a writer leaves. Assumes nothing.
use Rattle.std.specs.Prelude.{◌≡◌, length, ℕ, zero, suc, ◌+◌, ◌/◌, ◌%◌, ◌^◌, List, [], ◌∷◌, ◌++◌, Bool, true, cond, not, ◌&&◌, leb, eqb}
use Rattle.std.proofs.lemmas.List.Edits.{sets}

-- the last w digits of n
unfoldable pub fixed : ℕ → ℕ → List ℕ
fixed zero n = []
fixed (suc w) n = fixed w (n / 10) ++ ((48 + n % 10) ∷ [])

-- how many digits n has, up to k + 1 of them
unfoldable pub width_to : ℕ → ℕ → ℕ
width_to zero n = 1
width_to (suc k) n = cond (leb (10 ^ suc k) n) (suc (suc k)) (width_to k n)

-- how many digits a number below 10 ^ 18 has
unfoldable pub width_of : ℕ → ℕ
width_of n = width_to 17 n

-- n in its shortest form
unfoldable pub decimal : ℕ → List ℕ
decimal n = fixed (width_of n) n

-- no byte is x
abbrev pub free : ℕ → List ℕ → Bool
free x [] = true
free x (b ∷ bs) = not (eqb b x) && free x bs

-- the bytes bs were written to l at a place, as far as there is room, which left m; r is the place after them
pub record Wrote (l : List ℕ) (at : ℕ) (bs m : List ℕ) (r : ℕ) : Type 0 where
  pub same : m ≡ sets l at bs
  pub next : r ≡ at + length bs

-- in a loop: with bs still to write to m at b, it ends as if all of cs were written to l at a
pub record Left (m : List ℕ) (b : ℕ) (bs l : List ℕ) (a : ℕ) (cs : List ℕ) : Type 0 where
  pub same : sets m b bs ≡ sets l a cs
  pub next : b + length bs ≡ a + length cs
