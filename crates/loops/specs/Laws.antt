-- What is shown of loops, besides demand 3.
use Rattle.std.specs.Prelude.{◌≡◌, Bool, true, false, cond, ◌||◌, List, [], ◌∷◌, ℕ, suc, ◌≤◌, length}
use Rattle.book.specs.declared.Update.{Update}
use Rattle.message.specs.Message.{Message, Head, snapshot}
use Rattle.heading.specs.Marks.{marked}
use Rattle.board.specs.Board.{Inst, Board, opened, look}
use Rattle.board.specs.Feed.{feed}
use Rattle.board.specs.Calls as board
use Rattle.board.specs.Calls.{Call, fed, is_counted, inst}
use Rattle.board.specs.Laws.{Same}
use Rattle.board.specs.Ranges.{within, message_fine}
use Rattle.board.specs.Sound.{Sound}
use Rattle.loops.specs.declared.Loop.{Loop}
use Rattle.loops.specs.Ending.{ended}
use Rattle.loops.specs.Channel.{Channel, joined_by, rounded, given}
use Rattle.loops.specs.Calls.{calls, opened_channel}
use Rattle.loops.specs.Sound.{SoundChannel}
use Rattle.loops.specs.Rows.{came_in, loop_after}

-- The loop's end is snapshots: it leaves the board that a W with no entries and 369 the lowest would, for one instrument after another
-- that the loop did not name.
abbrev pub head_for : ℕ → ℕ → Head
head_for d S = record { number = 1; heard = 0; id = d; last = S; loops = 1 }

abbrev pub empty_for : ℕ → ℕ → Message
empty_for d S = snapshot (head_for d S) []

-- These calls for the instruments from index i on.
unfoldable pub unnamed : Loop → ℕ → List Inst → List Call
unnamed l i [] = []
unnamed l i (x ∷ xs) = cond (marked l.named i) (unnamed l (suc i) xs) (fed (empty_for x.id l.low) ∷ unnamed l (suc i) xs)

abbrev pub EndIsSnapshots : Type 0
EndIsSnapshots = (l : Loop) (b : Board) → Sound b → ended l b ≡ board.calls (unnamed l 0 b.insts) b

-- It never touches an instrument that the loop named, nor one that is Live.
abbrev pub NamedStays : Type 0
NamedStays = (d : ℕ) (l : Loop) (b : Board) → marked l.named (look d b.insts) ≡ true → inst d (ended l b) ≡ inst d b

abbrev pub LiveStays : Type 0
LiveStays = (d : ℕ) (l : Loop) (b : Board) → (inst d b).waiting ≡ false → inst d (ended l b) ≡ inst d b

-- The instrument of the W that ends the loop is as that W left it.
abbrev pub OwnStays : Type 0
OwnStays =
    (h : Head) (l : Loop) (b c : Board) → Same c b → length b.insts ≤ 16
    → inst h.id (rounded (joined_by h b l) c).board ≡ inst h.id c

-- Where the lowest 369 lies outside B to H all stay as they were.
abbrev pub OutsideStays : Type 0
OutsideStays = (l : Loop) (b : Board) → within b.B b.H l.low ≡ false → ended l b ≡ b

-- It changes neither H nor the heard moment, nor what no call changes.
pub record Keeps (b c : Board) : Type 0 where
  pub same : Same c b
  pub last : c.H ≡ b.H
  pub heard : c.heard ≡ b.heard

abbrev pub EndKeeps : Type 0
EndKeeps = (l : Loop) (b : Board) → Keeps b (ended l b)

-- A message in range leaves a sound channel sound.
abbrev pub KeepsSound : Type 0
KeepsSound = (m : Message) (c : Channel) → SoundChannel c → message_fine c.board.depth m ≡ true → SoundChannel (given m c).channel

-- The answer number stays the one that the message itself earned.
abbrev pub AnswerIsOwn : Type 0
AnswerIsOwn = (m : Message) (c : Channel) → (given m c).answer ≡ (feed m c.board).answer

-- The answers that may change a store: those of a counted message, and those of every W that is read.
abbrev pub of_snapshot : ℕ → Bool
of_snapshot a = within 4 10 a

abbrev pub touches : ℕ → Bool
touches a = is_counted a || of_snapshot a

-- An old message, or one that is not read, changes nothing. A W that is refused (5 to 9) does what the loop does, on the board as it was.
abbrev pub RefusedStays : Type 0
RefusedStays = (m : Message) (c : Channel) → touches (given m c).answer ≡ false → (given m c).channel ≡ c

abbrev pub RefusedRounds : Type 0
RefusedRounds =
    (h : Head) (us : List Update) (c : Channel) → within 5 9 (given (snapshot h us) c).answer ≡ true
    → (given (snapshot h us) c).channel ≡ rounded (joined_by h c.board c.loop) c.board

-- The record after calls from opening is that of the W messages among them.
abbrev pub LoopOfCame : Type 0
LoopOfCame =
    (depth : ℕ) (ids : List ℕ) (cs : List Call)
    → (calls cs (opened_channel depth ids)).loop ≡ loop_after (length ids) (came_in (opened depth ids) cs [])
