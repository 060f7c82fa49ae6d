-- Never quote on a number you cannot date: for one exchange stream and an instrument that it never breaks, a quote that is given is
-- place 1 of each side of the stream's book at our last number, dated by the stream's message of that number, and no older than the limit.
use Rattle.std.specs.Prelude.{Some, Ok}
use Rattle.std.specs.Prelude.{◌≡◌, false, List, ℕ, suc, ◌*◌, pos}
use Rattle.std.specs.Int.Signed.{lt_z}
use Rattle.std.proofs.lemmas.List.Edits.{sets}
use Rattle.moment.specs.Moments.{moment_of}
use Rattle.moment.specs.Ages.{age_of}
use Rattle.book.specs.Rules.{Lists, leaves}
use Rattle.book.specs.declared.Update.{Update}
use Rattle.message.specs.Message.{numbered}
use Rattle.board.specs.Demand.{message_at, NumberedFromOne, NeverBreaks, book_at}
use Rattle.opening.specs.Opening.{open_answer, open_store}
use Rattle.quote.specs.Quotes.{top_of}
use Rattle.ask.specs.Ask.{quote_values, quote_answer, quote_out}
use Rattle.promises.specs.Acts.{Act, lefts, Along}
use Rattle.promises.specs.Recovery.{read_in, Supposed}

-- What is asked of d at the bytes now, with a limit, stands on the stream's book after message k + 1, our last number, and is dated by it.
pub record AsOf (depth : ℕ) (stream : List (List ℕ)) (d : ℕ) (now : List ℕ) (limit k heard : ℕ) (book : Lists) : Type 0 where
  -- the stream's message of that number was sent at `heard`
  pub entries : List Update
  pub message : message_at (read_in depth stream) k ≡ numbered (suc k) heard entries
  -- the stream's book there
  pub streamed : book_at (read_in depth stream) d (suc k) ≡ leaves book
  -- its age lies in 0 to the limit, in milliseconds
  pub time : ℕ
  pub asked : moment_of now ≡ Some time
  pub since : lt_z (age_of time heard) (pos 0) ≡ false
  pub within : lt_z (pos (limit * 1000)) (age_of time heard) ≡ false

-- What a quote of d says that was asked at the bytes now, with a limit, into the room out, and left the room ys.
pub record Dated (depth : ℕ) (stream : List (List ℕ)) (d : ℕ) (now : List ℕ) (limit : ℕ) (out ys : List ℕ) : Type 0 where
  pub k : ℕ
  pub heard : ℕ
  pub book : Lists
  pub as_of : AsOf depth stream d now limit k heard book
  -- place 1 of each side of that book stands in the room
  pub room :
      ys
      ≡ sets out 0
      (quote_values depth (Ok (record { number = suc k; heard = heard; bid = top_of book.bids; offer = top_of book.offers })))

abbrev pub QuotesAreDated : Type 0
QuotesAreDated =
    (depth : ℕ) (stream : List (List ℕ)) → NumberedFromOne (read_in depth stream)
    → (d : ℕ) → NeverBreaks (read_in depth stream) d
    → (ids xs : List ℕ) → open_answer depth ids xs ≡ 0
    → (cs : List Act) → Along (Supposed depth stream d) cs (open_store depth ids xs)
    → (now : List ℕ) (limit : ℕ) (out : List ℕ) → quote_answer d now limit out (lefts cs (open_store depth ids xs)) ≡ 0
    → Dated depth stream d now limit out (quote_out d now limit out (lefts cs (open_store depth ids xs)))
