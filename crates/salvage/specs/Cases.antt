-- Recordings and their pieces, computed: the walk's easy slips. Assumes nothing.
use Rattle.std.specs.Prelude.{◌≡◌, List, [], ◌∷◌, ◌++◌, ℕ}
use Rattle.salvage.specs.Pieces.{message, passed, pieces}

-- 8=FIX.4.4|9=5|35=A|
abbrev pub up_to_ten : List ℕ
up_to_ten =
    56 ∷ 61 ∷ 70 ∷ 73 ∷ 88 ∷ 46 ∷ 52 ∷ 46 ∷ 52 ∷ 1 ∷
    57 ∷ 61 ∷ 53 ∷ 1 ∷
    51 ∷ 53 ∷ 61 ∷ 65 ∷ 1 ∷ []

-- and 10=180|: the shortest message, of 26 bytes, of a type that 13 refuses
abbrev pub shortest : List ℕ
shortest = up_to_ten ++ (49 ∷ 48 ∷ 61 ∷ 49 ∷ 56 ∷ 48 ∷ 1 ∷ [])

-- 8=FIX.4.4|9=31|35=B|, all of the shortest, 10=208|: a message with another among its fields
abbrev pub around : List ℕ
around =
    (56 ∷ 61 ∷ 70 ∷ 73 ∷ 88 ∷ 46 ∷ 52 ∷ 46 ∷ 52 ∷ 1 ∷
    57 ∷ 61 ∷ 51 ∷ 49 ∷ 1 ∷
    51 ∷ 53 ∷ 61 ∷ 66 ∷ 1 ∷ [])
    ++ (shortest ++ (49 ∷ 48 ∷ 61 ∷ 50 ∷ 48 ∷ 56 ∷ 1 ∷ []))

pub record WalkCases : Type 0 where
  -- a false start, a message, and the start of one that is cut off
  pub between : pieces (56 ∷ 61 ∷ (shortest ++ (56 ∷ 61 ∷ 70 ∷ 73 ∷ 88 ∷ []))) 0 ≡ passed 0 2 ∷ message 2 26 ∷ passed 28 5 ∷ []
  -- another sum is 12: one run, not 26
  pub spoilt : pieces (up_to_ten ++ (49 ∷ 48 ∷ 61 ∷ 49 ∷ 56 ∷ 49 ∷ 1 ∷ [])) 0 ≡ passed 0 26 ∷ []
  -- one result, whatever stands in it; from the middle, what lies from there on
  pub outer : pieces around 0 ≡ message 0 53 ∷ []
  pub inner : pieces around 20 ≡ message 20 26 ∷ passed 46 7 ∷ []
