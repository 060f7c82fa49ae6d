-- A board in five numbers (document 01, "Numbers, queue and marks").
use Rattle.std.specs.Prelude.{◌≡◌, cond, List, [], ◌∷◌, ◌++◌, ℕ, leb, eqb, length}
use Rattle.board.specs.Board.{Board}
use Rattle.store.specs.Meaning.{marks_of, board_at}
use Rattle.sound.specs.Sound.{sound}
use Rattle.ask.specs.Ask.{room_after, moment_words}

-- A summary takes 5 numbers of the room that is lent for it.
abbrev pub summary_size : ℕ
summary_size = 5

-- The date and the time of day of message H, as a quote has them. While nothing is heard the board holds 0, which is also the first
-- moment of 0000-01-01; both are 0 then, and no date is.
abbrev pub heard_words : ℕ → ℕ → List ℕ
heard_words H heard = cond (eqb H 0) (0 ∷ 0 ∷ []) (moment_words heard)

-- H, the heard date and time, B, and the Waiting marks: bit i, from 0, is 1 if the instrument at place i of the opening's list waits.
abbrev pub summary_words : Board → List ℕ
summary_words b = b.H ∷ heard_words b.H b.heard ++ (b.B ∷ marks_of 0 b.insts ∷ [])

-- 17 for an unsound store, then 18 for room too short.
unfoldable pub summary_answer : List ℕ → List ℕ → ℕ
summary_answer room xs = cond (sound xs) (cond (leb summary_size (length room)) 0 18) 17

-- The room that a summary of the store xs leaves.
unfoldable pub summary_out : List ℕ → List ℕ → List ℕ
summary_out room xs = room_after (summary_answer room xs) (summary_words (board_at xs)) room

-- What a call answers, and what ys it leaves of the room.
pub record Summed (room xs : List ℕ) (r : ℕ) (ys : List ℕ) : Type 0 where
  pub answer : r ≡ summary_answer room xs
  pub out : ys ≡ summary_out room xs
