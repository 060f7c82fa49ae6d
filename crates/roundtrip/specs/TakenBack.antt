-- A book that we write is taken by another hut: fed to any board of the same depth kind that follows the instrument, has it
-- Waiting, has B ≤ H ≤ its own H and nothing queued for it or for all above that number, the bytes are taken, and the book is the same
-- book.
use Rattle.std.specs.Prelude.{◌≡◌, true, false, [], ℕ, ◌≤◌, ◌<◌, length}
use Rattle.book.specs.Rules.{Lists}
use Rattle.board.specs.Board.{Board, Out, look}
use Rattle.board.specs.Snapshot.{after}
use Rattle.board.specs.Feed.{feed}
use Rattle.board.specs.Calls.{inst}
use Rattle.fields.specs.Messages.{message_in}
use Rattle.snapshot.specs.Snapshot.{Letter, snapshot_bytes}
use Rattle.roundtrip.specs.ReadBack.{InRange}

-- The other board c, for the instrument with the SecurityID who and a book written at H.
pub record Awaits (who H : ℕ) (c : Board) : Type 0 where
  pub followed : look who c.insts < length c.insts
  pub waits : (inst who c).waiting ≡ true
  pub from_base : c.B ≤ H
  pub to_last : H ≤ c.H
  pub none_queued : after (look who c.insts) H c.queue ≡ []

-- It is taken (4), and the instrument is Live with that book.
pub record Taken (who : ℕ) (b : Lists) (o : Out) : Type 0 where
  pub answer : o.answer ≡ 4
  pub live : (inst who o.board).waiting ≡ false
  pub book : (inst who o.board).book ≡ b

abbrev pub TakenBack : Type 0
TakenBack =
    (depth : ℕ) (l : Letter) (who H : ℕ) (b : Lists) → InRange depth l who H b
    → (c : Board) → Awaits who H c → Taken who b (feed (message_in depth (snapshot_bytes depth l who H b)) c)
