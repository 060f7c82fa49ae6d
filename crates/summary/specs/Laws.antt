-- What is shown of a summary.
use Rattle.std.specs.Prelude.{◌≡◌, List, ℕ, ◌<◌, ◌^◌, length, take}
use Rattle.heading.specs.Marks.{marked}
use Rattle.board.specs.Board.{Board, at}
use Rattle.store.specs.Meaning.{marks_of}
use Rattle.sound.specs.Settled.{Settled}
use Rattle.quote.specs.Quotes.{quote_of}
use Rattle.ask.specs.Ask.{quote_number, quote_values}
use Rattle.summary.specs.Summary.{summary_words, Summed}

-- Bit i of the marks says whether the instrument at place i waits, and no bit stands at or above the number of instruments.
pub record MarksSay (b : Board) : Type 0 where
  pub waits : (i : ℕ) → i < length b.insts → marked (marks_of 0 b.insts) i ≡ (at i b).waiting
  pub above : marks_of 0 b.insts < 2 ^ length b.insts

abbrev pub MarksSayWhoWaits : Type 0
MarksSayWhoWaits = (b : Board) → MarksSay b

-- A quote that is given begins with the summary's first three numbers: H, the heard date and time.
abbrev pub DatedAsQuotes : Type 0
DatedAsQuotes =
    (id : ℕ) (now : List ℕ) (limit : ℕ) (b : Board) → quote_number (quote_of id now limit b) ≡ 0
    → take 3 (quote_values b.depth (quote_of id now limit b)) ≡ take 3 (summary_words b)

-- The call is settled.
abbrev pub SummarySettled : Type 0
SummarySettled = (room xs : List ℕ) → Settled (Summed room xs)
