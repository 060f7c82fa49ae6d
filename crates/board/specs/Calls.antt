-- Calls on a board, one after another, and one instrument's part in them.
use Rattle.std.specs.Prelude.{◌≡◌, Bool, false, cond, ◌||◌, List, [], ◌∷◌, ℕ, eqb}
use Rattle.book.specs.declared.Update.{Update}
use Rattle.message.specs.Message.{Message}
use Rattle.board.specs.Board.{Inst, Board, Out, out, look, speaks_of, at}
use Rattle.board.specs.Feed.{feed}

-- A call: a message fed, or one that leaves the board as it is (a quote, a writing, a refusal 17 or 18), with its answer.
pub data Call : Type 0 where
  fed : Message → Call
  aside : ℕ → Call

abbrev pub called : Call → Board → Out
called (fed m) b = feed m b
called (aside a) b = out a b

-- The board after calls in order, and their answers.
abbrev pub calls : List Call → Board → Board
calls [] b = b
calls (c ∷ cs) b = calls cs (called c b).board

abbrev pub answers : List Call → Board → List ℕ
answers [] b = []
answers (c ∷ cs) b = (called c b).answer ∷ answers cs (called c b).board

-- P of each call and the board that it meets.
abbrev pub Throughout : (Call → Board → Type 0) → List Call → Board → Type 0
Throughout P [] b = Unit {0}
Throughout P (c ∷ cs) b = P c b × Throughout P cs (called c b).board

-- The answers of a counted message, and all those that change the board.
abbrev pub is_counted : ℕ → Bool
is_counted a = eqb a 0 || (eqb a 1 || eqb a 3)

abbrev pub changes : ℕ → Bool
changes a = is_counted a || (eqb a 4 || eqb a 10)

-- The instrument with the SecurityID d; one that is Waiting where none has it.
abbrev pub inst : ℕ → Board → Inst
inst d b = at (look d b.insts) b

abbrev pub Live : ℕ → Board → Type 0
Live d b = (inst d b).waiting ≡ false

-- The entries that speak of d among a message's: its own and those for all.
unfoldable pub mine : ℕ → List Update → List Update
mine d [] = []
mine d (u ∷ us) = cond (speaks_of d u) (u ∷ mine d us) (mine d us)
