-- Numbers that stand a step apart in a run, and what is left of numbers from an index on.
use mathlib.Core.Path.{◌≡◌}
use mathlib.Core.List.{List, [], ◌∷◌}
use Prim.Native.Nat.{ℕ, ◌+◌, ◌*◌, ◌≤◌, ◌<◌}
use native.Mathlib.Numerals.{add-one}
use lib.ListN.{length, get_or, drop, drop_of_length-le}
use lib.Seq.{drop-cons}
use Rattle.cells.proofs.Tables.{length_tab, get_d_tab}
use Rattle.scan.specs.Scan.{spread}

-- how many, and the one at an index
pub spread_length : (xs : List ℕ) (at step n : ℕ) → length (spread xs at step n) ≡ n
spread_length xs at step n = length_tab (λ (i : ℕ). get_or xs (at + i * step) 0) n

pub spread_at : (xs : List ℕ) (at step n i : ℕ) → i < n → get_or (spread xs at step n) i 0 ≡ get_or xs (at + i * step) 0
spread_at xs at step n i h = get_d_tab 0 (λ (i : ℕ). get_or xs (at + i * step) 0) n i h

-- the one at the index before the others, or none
pub left_turn : (xs : List ℕ) (i : ℕ) → i < length xs → drop i xs ≡ get_or xs i 0 ∷ drop (i + 1) xs
left_turn xs i h = rw add-one (drop-cons xs i 0 h)

pub left_end : (xs : List ℕ) (i : ℕ) → length xs ≤ i → drop i xs ≡ []
left_end xs i h = drop_of_length-le xs h
