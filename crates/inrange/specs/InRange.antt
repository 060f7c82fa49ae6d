-- Whatever the bytes, the message that they are lies in document 01's ranges on a channel of the depth kind.
use Rattle.std.specs.Prelude.{◌≡◌, true, List, ℕ}
use Rattle.board.specs.Ranges.{message_fine}
use Rattle.fields.specs.Messages.{message_in}

abbrev pub ReadInRange : Type 0
ReadInRange = (depth : ℕ) (s : List ℕ) → message_fine depth (message_in depth s) ≡ true
