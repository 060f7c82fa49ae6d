-- What a window on the front of a recording tells of the whole (document 02, K12: runs that touch the break are joined). Assumes nothing.
use Rattle.std.specs.Prelude.{ℕ, zero, suc, ◌+◌, List, [], ◌∷◌, Bool, cond, eqb}
use Rattle.salvage.specs.Pieces.{Piece, message, passed}

-- of the n places from p on, how many come before the first that is not decided
abbrev pub leading : (ℕ → Bool) → ℕ → ℕ → ℕ
leading d p zero = 0
leading d p (suc n) = cond (d p) (leading d (p + 1) n + 1) 0

-- a run of n bytes of which k are decided, and what comes behind it if all are
abbrev pub up_to : ℕ → ℕ → ℕ → List Piece → List Piece
up_to p n k ps = cond (eqb k n) (passed p n ∷ ps) (cond (eqb k 0) [] (passed p k ∷ []))

-- What is sure of a window's pieces: a message that is found stays one; a run is sure up to its first place that is not decided.
abbrev pub sure : (ℕ → Bool) → List Piece → List Piece
sure d [] = []
sure d (message p n ∷ ps) = message p n ∷ sure d ps
sure d (passed p n ∷ ps) = up_to p n (leading d p n) (sure d ps)
