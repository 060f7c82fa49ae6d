-- What the writer's results say, and the message that it is asked for (document 01, "Quote and writing"; answers 0 and 25).
use Rattle.std.specs.Prelude.{ℕ, List, Result, Ok, Err}
use Rattle.snapshot.specs.declared.letters.Letter as lent
use Rattle.snapshot.specs.declared.letters.Sheet.{Sheet}
use Rattle.snapshot.specs.Writing.{letter_of}
use Rattle.writer.specs.declared.TooShort.{TooShort}
use Rattle.writer.specs.Writing.{Written, page_of}

-- The length of a message, or that it is too long for the output.
abbrev pub written_in : Result ℕ TooShort → Written
written_in (Ok n) = record { answer = 0; bytes = n }
written_in (Err e) = record { answer = 25; bytes = 0 }

-- The bytes of the snapshot that is written.
abbrev pub page_in : lent.Letter → Sheet → List ℕ
page_in l s = page_of s.depth (letter_of l) s.id s.last s.book.now
