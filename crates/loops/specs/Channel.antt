-- A channel: its board, and the record of the loop of snapshots that runs. One message on it.
use Rattle.std.specs.Prelude.{cond, ℕ, length}
use Rattle.message.specs.Message.{Head, Message, numbered, snapshot, refused}
use Rattle.board.specs.Board.{Board, look}
use Rattle.board.specs.Feed.{feed}
use Rattle.loops.specs.declared.Loop.{Loop}
use Rattle.loops.specs.Loops.{no_loop, in_row, is_whole}
use Rattle.loops.specs.Ending.{ended}

pub record Channel : Type 0 where
  pub board : Board
  pub loop : Loop

abbrev pub channel : Board → Loop → Channel
channel b l = record { board = b; loop = l }

-- What a call answers, and the channel it leaves.
pub record Reply : Type 0 where
  pub answer : ℕ
  pub channel : Channel

abbrev pub reply : ℕ → Channel → Reply
reply a c = record { answer = a; channel = c }

-- The record with a W in it: its 48 is named whatever the W is answered.
abbrev pub joined_by : Head → Board → Loop → Loop
joined_by h b l = in_row h (length b.insts) (look h.id b.insts) l

-- A whole loop ends, and then no loop runs; one that is not whole goes on.
abbrev pub rounded : Loop → Board → Channel
rounded l b = cond (is_whole l) (channel (ended l b) no_loop) (channel b l)

-- A W acts first, and then the loop does; its answer stays the one that it earned. Other types, and messages that are not read, leave
-- the record as it is.
unfoldable pub given : Message → Channel → Reply
given (numbered n heard us) c =
    reply (feed (numbered n heard us) c.board).answer (channel (feed (numbered n heard us) c.board).board c.loop)
given (snapshot h us) c =
    reply (feed (snapshot h us) c.board).answer
    (rounded (joined_by h c.board c.loop) (feed (snapshot h us) c.board).board)
given (refused why) c = reply (feed (refused why) c.board).answer (channel (feed (refused why) c.board).board c.loop)
