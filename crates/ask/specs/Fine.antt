-- What can be written as numbers: every moment is in range. Quotes of a sound board are so.
use Rattle.std.specs.Prelude.{◌<◌, Option, Some, None, Ok, Err}
use Rattle.moment.specs.Moments.{moments}
use Rattle.book.specs.declared.Entry.{Entry}
use Rattle.quote.specs.declared.Quote.{Quote}
use Rattle.quote.specs.Quotes.{Quoted}

abbrev pub FineTop : Option Entry → Type 0
FineTop (Some e) = e.moment < moments
FineTop None = Unit {0}

pub record FineQuote (q : Quote) : Type 0 where
  pub heard : q.heard < moments
  pub bid : FineTop q.bid
  pub offer : FineTop q.offer

abbrev pub FineQuoted : Quoted → Type 0
FineQuoted (Ok q) = FineQuote q
FineQuoted (Err why) = Unit {0}
