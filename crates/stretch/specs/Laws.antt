-- What is shown of the stretches that 11 and 12 do not refuse.
use Rattle.std.specs.Prelude.{ℕ, ◌≤◌, ◌≡◌, true, List, ◌++◌, take}
use Rattle.stretch.specs.Stretches.{Taken, longest, named_of, stretch_of, stretch_at}
use Rattle.stretch.specs.Windows.{decided}

-- There is at most one at the start of s: the one that tag 9 names, of 26 to 8,192 bytes; and it is what is found.
pub record Only (s : List ℕ) (n : ℕ) : Type 0 where
  pub named : named_of (take 18 s) ≡ n
  pub low : 26 ≤ n
  pub high : n ≤ longest
  pub others : (m : ℕ) → Taken s m → m ≡ n
  pub found : stretch_of s ≡ n

abbrev pub OneStretch : Type 0
OneStretch = (s : List ℕ) (n : ℕ) → Taken s n → Only s n

-- And what is found is one.
abbrev pub FoundIsTaken : Type 0
FoundIsTaken = (s : List ℕ) → 1 ≤ stretch_of s → Taken s (stretch_of s)

-- More bytes behind a window change nothing at a place that is decided, nor where a message is found.
pub record Kept (w rest : List ℕ) (p : ℕ) : Type 0 where
  pub decides : decided w p ≡ true → stretch_at (w ++ rest) p ≡ stretch_at w p
  pub stays : 1 ≤ stretch_at w p → stretch_at (w ++ rest) p ≡ stretch_at w p

abbrev pub MoreKeeps : Type 0
MoreKeeps = (w rest : List ℕ) (p : ℕ) → Kept w rest p
