-- A message on the channel in a store: what the board is afterwards, and the record of the loop. Heading and record go by value: their
-- numbers in the store stay until they are saved.
use Rattle.std.specs.Prelude.{◌≡◌, ℕ}
use Rattle.message.specs.Message.{Head, Message}
use Rattle.loops.specs.declared.Loop.{Loop}
use Rattle.loops.specs.Ending.{ended}
use Rattle.loops.specs.Channel.{channel, reply, joined_by, rounded, given}
use Rattle.store.specs.Meaning.{State, board_in}
use Rattle.store.specs.Canon.{Canon}
use Rattle.channel.specs.Feeds.{Around}

-- The end of the loop l leaves t of s.
pub record Ends (l : Loop) (s t : State) : Type 0 where
  pub means : board_in t ≡ ended l (board_in s)
  pub canon : Canon t
  pub around : Around s t

-- Behind a W with the head h, which the board has taken or refused and left s, stand the record row of l, and t.
pub record Rounds (h : Head) (l : Loop) (s : State) (row : Loop) (t : State) : Type 0 where
  pub means : channel (board_in t) row ≡ rounded (joined_by h (board_in s) l) (board_in s)
  pub canon : Canon t
  pub around : Around s t

-- A message is answered a, and leaves the record row of l, and t of s.
pub record Gives (m : Message) (l : Loop) (s : State) (a : ℕ) (row : Loop) (t : State) : Type 0 where
  pub means : reply a (channel (board_in t) row) ≡ given m (channel (board_in s) l)
  pub canon : Canon t
  pub around : Around s t
