-- Calls on a channel, one after another.
use Rattle.std.specs.Prelude.{List, [], ◌∷◌, ℕ}
use Rattle.board.specs.Calls.{Call, fed, aside}
use Rattle.board.specs.Board.{opened}
use Rattle.loops.specs.Loops.{no_loop}
use Rattle.loops.specs.Channel.{Channel, channel, Reply, reply, given}

abbrev pub called : Call → Channel → Reply
called (fed m) c = given m c
called (aside a) c = reply a c

-- The channel after calls in order.
abbrev pub calls : List Call → Channel → Channel
calls [] c = c
calls (k ∷ ks) c = calls ks (called k c).channel

-- P of each call and the channel that it meets.
abbrev pub Throughout : (Call → Channel → Type 0) → List Call → Channel → Type 0
Throughout P [] c = Unit {0}
Throughout P (k ∷ ks) c = P k c × Throughout P ks (called k c).channel

-- At opening no loop runs.
abbrev pub opened_channel : ℕ → List ℕ → Channel
opened_channel depth ids = channel (opened depth ids) no_loop
