-- A dated quote (document 01, "Quote and writing").
use Rattle.std.specs.Prelude.{Option, Some, None, Result, Ok, Err, ℕ, ◌*◌, List, [], ◌∷◌, cond, ◌&&◌, leb, eqb, ℤ, pos, length}
use Rattle.std.specs.Int.Signed.{lt_z}
use Rattle.moment.specs.Moments.{moment_of}
use Rattle.moment.specs.Ages.{age_of}
use Rattle.book.specs.declared.Entry.{Entry}
use Rattle.board.specs.Board.{Board, Inst, look, at}
use Rattle.board.specs.Ranges.{id_fine}
use Rattle.quote.specs.declared.Quote.{Quote}
use Rattle.quote.specs.declared.NoQuote.{NoQuote}
use Rattle.quote.specs.Numbers.{refusal_number}

-- A quote, or why there is none.
abbrev pub Quoted : Type 0
Quoted = Result Quote NoQuote

-- The longest limit, in seconds.
abbrev pub most_limit : ℕ
most_limit = 86400

-- Place 1 of a side, if it is held.
abbrev pub top_of : List Entry → Option Entry
top_of [] = None
top_of (e ∷ es) = Some e

-- It gives place 1 of each side with H and the heard time: a quote is dated by what was last counted.
abbrev pub given : Board → Inst → Quote
given b x = record { number = b.H; heard = b.heard; bid = top_of x.book.bids; offer = top_of x.book.offers }

-- Age is in milliseconds; below 0 is 23, above the limit is 24.
abbrev pub aged_by : ℤ → ℕ → Quote → Quoted
aged_by age limit q = cond (lt_z age (pos 0)) (Err NoQuote.BeforeHeard) (cond (lt_z (pos (limit * 1000)) age) (Err NoQuote.TooOld) (Ok q))

-- Refused, in this order: not followed 20, Waiting 21, nothing heard yet 22.
abbrev pub quote_at : ℕ → ℕ → ℕ → Board → Quoted
quote_at i now limit b =
    cond (leb (length b.insts) i) (Err NoQuote.NotFollowed)
    (cond (at i b).waiting (Err NoQuote.Waiting)
    (cond (eqb b.H 0) (Err NoQuote.NothingHeard) (aged_by (age_of now b.heard) limit (given b (at i b)))))

-- An argument outside its range is 18: a SecurityID, now, a limit of 0 to 86,400 seconds.
abbrev pub at_now : Option ℕ → ℕ → ℕ → Board → Quoted
at_now None id limit b = Err NoQuote.BadArgument
at_now (Some now) id limit b =
    cond (id_fine id && leb limit most_limit) (quote_at (look id b.insts) now limit b) (Err NoQuote.BadArgument)

unfoldable pub quote_of : ℕ → List ℕ → ℕ → Board → Quoted
quote_of id now limit b = at_now (moment_of now) id limit b

-- What goes with a quote that is given, and what with every refusal.
abbrev pub if_quoted : {A : Type 0} → (Quote → A) → A → Quoted → A
if_quoted f z (Ok q) = f q
if_quoted f z (Err why) = z

-- Document 01's number of each case.
abbrev pub quote_number : Quoted → ℕ
quote_number (Ok q) = 0
quote_number (Err why) = refusal_number why
