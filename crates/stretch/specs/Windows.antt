-- A recording that is at hand only in part: a window w on its front, behind which more may follow. Assumes nothing.
use Rattle.std.specs.Prelude.{ℕ, ◌+◌, List, [], ◌∷◌, ◌++◌, Bool, true, not, ◌&&◌, ◌||◌, leb, eqb, length, drop}
use Rattle.frame.specs.ByPlace.{preamble}
use Rattle.stretch.specs.Stretches.{longest}

-- 8=FIX.4.4, SOH and 9=, as every message begins
abbrev pub beginning : List ℕ
beginning = preamble ++ (57 ∷ 61 ∷ [])

-- the same bytes as far as both go
abbrev pub agrees : List ℕ → List ℕ → Bool
agrees [] ys = true
agrees (x ∷ xs) [] = true
agrees (x ∷ xs) (y ∷ ys) = eqb x y && agrees xs ys

-- Whether a message is taken at a place is decided if so many bytes from it on are at hand, or if those at hand do not begin as a
-- message does.
abbrev pub decided : List ℕ → ℕ → Bool
decided w p = leb (p + longest) (length w) || not (agrees (drop p w) beginning)
