-- What is shown of a message on the store: a message in range is one that the reader can tell.
use Rattle.std.specs.Prelude.{◌≡◌, true, ℕ}
use Rattle.message.specs.Message.{Message}
use Rattle.message.specs.Laws.{Fair}
use Rattle.board.specs.Ranges.{message_fine}

-- A message in range has at most 64 entries.
abbrev pub FineIsFair : Type 0
FineIsFair = (depth : ℕ) (m : Message) → message_fine depth m ≡ true → Fair m
