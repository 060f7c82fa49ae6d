-- Bytes that are passed over (document 02, K12). Assumes nothing.
use Rattle.std.specs.Prelude.{Option, ℕ, ◌+◌, ◌≡◌, List, [], ◌∷◌, cond, eqb, drop}
use Rattle.stretch.specs.Stretches.{some_length, stretch_of, stretch_at}

-- where no message is taken one byte is passed over: how many come before the next message, or the end
unfoldable pub run_of : List ℕ → ℕ
run_of [] = 0
run_of (b ∷ s) = cond (eqb (stretch_of (b ∷ s)) 0) (run_of s + 1) 0

-- a run from p on ends at e, and a message of next bytes is taken there, if one is
pub record Ends (rec : List ℕ) (p e : ℕ) (next : Option ℕ) : Type 0 where
  pub here : e ≡ p + run_of (drop p rec)
  pub after : next ≡ some_length (stretch_at rec e)
