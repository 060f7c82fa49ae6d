-- Document 01's number of each refusal of a quote (document 01, "Answer numbers").
use Rattle.std.specs.Prelude.{ℕ}
use Rattle.quote.specs.declared.NoQuote.{NoQuote}

-- 17 is of a store that is no board.
abbrev pub refusal_number : NoQuote → ℕ
refusal_number NoQuote.Unsound = 17
refusal_number NoQuote.BadArgument = 18
refusal_number NoQuote.NotFollowed = 20
refusal_number NoQuote.Waiting = 21
refusal_number NoQuote.NothingHeard = 22
refusal_number NoQuote.BeforeHeard = 23
refusal_number NoQuote.TooOld = 24
