-- A quote of a raw store, and the side that stands behind it (document 02, K11).
use Rattle.std.specs.Prelude.{◌≡◌, Bool, cond, List, [], ℕ, Result, Ok, Err}
use Rattle.book.specs.declared.Entry.{Entry}
use Rattle.book.specs.Rules.{Lists}
use Rattle.book.specs.Canonical.{Kept, held_in}
use Rattle.board.specs.Calls.{inst}
use Rattle.store.specs.Meaning.{board_at}
use Rattle.sound.specs.Sound.{sound}
use Rattle.quote.specs.declared.NoQuote.{NoQuote}
use Rattle.quote.specs.Quotes.{Quoted, quote_of, if_quoted}
use Rattle.backing.specs.declared.Backed.{Backed}

-- 17 comes first, then what the board answers.
unfoldable pub quoted_of : ℕ → List ℕ → ℕ → List ℕ → Quoted
quoted_of id now limit xs = cond (sound xs) (quote_of id now limit (board_at xs)) (Err NoQuote.Unsound)

-- Selling goes down the bids, buying up the offers.
abbrev pub side_for : Bool → Lists → List Entry
side_for buying b = cond buying b.offers b.bids

-- The places behind a quote, place 1 first: a whole side of the instrument's book. Nothing stands behind a quote that is not given.
unfoldable pub behind : Bool → ℕ → List ℕ → ℕ → List ℕ → List Entry
behind buying id now limit xs = if_quoted (λ q. side_for buying (inst id (board_at xs)).book) [] (quoted_of id now limit xs)

-- The quote, or the refusal, of what is answered.
abbrev pub quote_in : Result Backed NoQuote → Quoted
quote_in (Ok b) = Ok b.quote
quote_in (Err why) = Err why

-- The places that are answered: none with a refusal.
abbrev pub places_in : Result Backed NoQuote → List Entry
places_in (Ok b) = held_in b.side
places_in (Err why) = []

-- The side that is answered has nothing but zeros past its places.
abbrev pub KeptIn : Result Backed NoQuote → Type 0
KeptIn (Ok b) = Kept b.side
KeptIn (Err why) = Unit {0}

-- What a quote and its side are: the side's unused places are zero, so its places say all of it.
pub record Backs (buying : Bool) (id : ℕ) (now : List ℕ) (limit : ℕ) (xs : List ℕ) (r : Result Backed NoQuote) : Type 0 where
  pub quoted : quote_in r ≡ quoted_of id now limit xs
  pub places : places_in r ≡ behind buying id now limit xs
  pub kept : KeptIn r
