-- Opening (document 01): it doesn't read the old store; it takes the depth kind and 1 to 16 distinct SecurityIDs, else 18.
use Rattle.std.specs.Prelude.{◌≡◌, cond, List, ◌++◌, ℕ, leb, length, drop}
use Rattle.board.specs.Sound.{opens}
use Rattle.loops.specs.Calls.{opened_channel}
use Rattle.store.specs.Layout.{store_size}
use Rattle.store.specs.Meaning.{written}

-- 17 for a store under 7,168 numbers, then 18, else 0.
unfoldable pub open_answer : ℕ → List ℕ → List ℕ → ℕ
open_answer depth ids xs = cond (leb store_size (length xs)) (cond (opens depth ids) 0 18) 17

-- The opened channel's numbers, where no loop runs, and those beyond as they were; a refusal leaves all as it was.
unfoldable pub open_store : ℕ → List ℕ → List ℕ → List ℕ
open_store depth ids xs =
    cond (leb store_size (length xs)) (cond (opens depth ids) (written (opened_channel depth ids) ++ drop store_size xs) xs) xs

-- What a call answers, and the store ys that it leaves of xs.
pub record Opened (depth : ℕ) (ids xs : List ℕ) (r : ℕ) (ys : List ℕ) : Type 0 where
  pub answer : r ≡ open_answer depth ids xs
  pub store : ys ≡ open_store depth ids xs
