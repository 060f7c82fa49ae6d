-- Demand 3 over loops (document 02, K1): it gains the premise that the stream's book of an instrument that the loop did not name is
-- empty at the lowest 369, where the loop's end takes a snapshot for it.
use Rattle.std.specs.Prelude.{◌≡◌, true, List, ℕ}
use Rattle.book.specs.Rules.{Lists, empty, leaves}
use Rattle.book.specs.declared.Update.{Update}
use Rattle.message.specs.Message.{Message, numbered, snapshot, refused}
use Rattle.board.specs.Board.{Board}
use Rattle.board.specs.Feed.{feed}
use Rattle.board.specs.Calls.{Call, fed, aside, inst, Live}
use Rattle.board.specs.Demand.{NumberedFromOne, NeverBreaks, book_at, Right, Truth, Fair}
use Rattle.board.specs.Laws.{InRange}
use Rattle.board.specs.Sound.{opens}
use Rattle.loops.specs.declared.Loop.{Loop}
use Rattle.loops.specs.Loops.{is_whole}
use Rattle.loops.specs.Ending.{ended}
use Rattle.loops.specs.Channel.{Channel, joined_by}
use Rattle.loops.specs.Calls.{calls, Throughout, opened_channel}

-- The end of the loop l takes a snapshot for d on the board b: the loop is whole, and d waits before its end and is Live behind it.
pub record Takes (d : ℕ) (l : Loop) (b : Board) : Type 0 where
  pub whole : is_whole l ≡ true
  pub waits : (inst d b).waiting ≡ true
  pub live : Live d (ended l b)

-- Supposed of the end of a loop: P of the lowest 369, where it takes a snapshot for d.
abbrev pub AtEnd : ℕ → (ℕ → Type 0) → Call → Channel → Type 0
AtEnd d P (fed (snapshot h us)) c =
    Takes d (joined_by h c.board c.loop) (feed (snapshot h us) c.board).board → P (joined_by h c.board c.loop).low
AtEnd d P (fed (numbered n heard us)) c = Unit {0}
AtEnd d P (fed (refused why)) c = Unit {0}
AtEnd d P (aside a) c = Unit {0}

-- The stream's book of d is empty there.
abbrev pub RightBy : List Message → ℕ → Call → Channel → Type 0
RightBy ms d k c = Right ms d k c.board × AtEnd d (λ S. book_at ms d S ≡ leaves empty) k c

-- Demand 3 of messages in range, as every message is that is read.
abbrev pub Demand3 : Type 0
Demand3 =
    (ms : List Message) → NumberedFromOne ms → (d : ℕ) → NeverBreaks ms d
    → (depth : ℕ) (ids : List ℕ) → opens depth ids ≡ true
    → (cs : List Call) → Throughout (λ k c. InRange k c.board) cs (opened_channel depth ids)
    → Throughout (RightBy ms d) cs (opened_channel depth ids)
    → Live d (calls cs (opened_channel depth ids)).board
    → book_at ms d (calls cs (opened_channel depth ids)).board.H ≡ leaves (inst d (calls cs (opened_channel depth ids)).board).book

-- The stronger statement: the true book of d is empty there.
abbrev pub FairBy : ℕ → (ℕ → List Update) → (ℕ → Lists) → Call → Channel → Type 0
FairBy d s t k c = Fair d s t k c.board × AtEnd d (λ S. empty ≡ t S) k c

abbrev pub Recovers : Type 0
Recovers =
    (d : ℕ) (s : ℕ → List Update) (t : ℕ → Lists) → Truth s t
    → (depth : ℕ) (ids : List ℕ) → opens depth ids ≡ true
    → (cs : List Call) → Throughout (λ k c. InRange k c.board) cs (opened_channel depth ids)
    → Throughout (FairBy d s t) cs (opened_channel depth ids)
    → Live d (calls cs (opened_channel depth ids)).board
    → (inst d (calls cs (opened_channel depth ids)).board).book ≡ t (calls cs (opened_channel depth ids)).board.H
