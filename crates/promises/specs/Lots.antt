-- What the desk lives by (document 02, K11): for one exchange stream and an instrument that it never breaks, a lot that is given brings
-- what the stream's book at our last number brings, to the last unit, and is dated as a quote is.
use Rattle.std.specs.Prelude.{◌≡◌, Bool, true, false, List, [], ◌∷◌, ℕ, suc, ◌*◌, ◌/◌, ◌≤◌, length, take}
use Rattle.std.proofs.lemmas.List.Edits.{sets}
use Rattle.price.specs.Price.{unit}
use Rattle.book.specs.Rules.{Lists}
use Rattle.sums.specs.Sums.{fits}
use Rattle.proceeds.specs.Lots.{left_of, sum_over, sum_after}
use Rattle.board.specs.Demand.{NumberedFromOne, NeverBreaks}
use Rattle.opening.specs.Opening.{open_answer, open_store}
use Rattle.ask.specs.Ask.{quote_size, quote_answer, quote_out}
use Rattle.backing.specs.Backing.{side_for}
use Rattle.lots.specs.Rooms.{lot_size, sold_words, lot_answer, lot_out}
use Rattle.promises.specs.Acts.{Act, lefts, Along}
use Rattle.promises.specs.Recovery.{read_in, Supposed}
use Rattle.promises.specs.Quotes.{AsOf}
use Rattle.promises.specs.Hut.{received, ours}

-- What a lot of n units of d says that was asked at the bytes now, with a limit, into the room out, and left the room ys.
pub record LotDated (depth : ℕ) (stream : List (List ℕ)) (d : ℕ) (buying : Bool) (n : ℕ) (now : List ℕ) (limit : ℕ) (out ys : List ℕ) : Type 0 where
  pub k : ℕ
  pub heard : ℕ
  pub book : Lists
  pub as_of : AsOf depth stream d now limit k heard book
  -- every sum down that book fits
  pub fit : (j : ℕ) → fits (sum_after n (side_for buying book) j) ≡ true
  -- and the whole one stands in the room, with what is left, our last number and its moment
  pub room :
      ys
      ≡ sets out 0
      (sold_words (record { sum = sum_over n (side_for buying book); left = left_of n (side_for buying book); number = suc k; heard = heard }))

abbrev pub LotsAreDated : Type 0
LotsAreDated =
    (depth : ℕ) (stream : List (List ℕ)) → NumberedFromOne (read_in depth stream)
    → (d : ℕ) → NeverBreaks (read_in depth stream) d
    → (ids xs : List ℕ) → open_answer depth ids xs ≡ 0
    → (cs : List Act) → Along (Supposed depth stream d) cs (open_store depth ids xs)
    → (buying : Bool) (n : ℕ) (now : List ℕ) (limit : ℕ) (out : List ℕ) → lot_answer buying d n now limit out (lefts cs (open_store depth ids xs)) ≡ 0
    → LotDated depth stream d buying n now limit out (lot_out buying d n now limit out (lefts cs (open_store depth ids xs)))

-- And a lot that is refused for its size is one of which a sum down the stream's book does not fit.
pub record LotOver (depth : ℕ) (stream : List (List ℕ)) (d : ℕ) (buying : Bool) (n : ℕ) (now : List ℕ) (limit : ℕ) : Type 0 where
  pub k : ℕ
  pub heard : ℕ
  pub book : Lists
  pub as_of : AsOf depth stream d now limit k heard book
  pub j : ℕ
  pub over : fits (sum_after n (side_for buying book) j) ≡ false

abbrev pub LotsOverByStream : Type 0
LotsOverByStream =
    (depth : ℕ) (stream : List (List ℕ)) → NumberedFromOne (read_in depth stream)
    → (d : ℕ) → NeverBreaks (read_in depth stream) d
    → (ids xs : List ℕ) → open_answer depth ids xs ≡ 0
    → (cs : List Act) → Along (Supposed depth stream d) cs (open_store depth ids xs)
    → (buying : Bool) (n : ℕ) (now : List ℕ) (limit : ℕ) (out : List ℕ) → lot_answer buying d n now limit out (lefts cs (open_store depth ids xs)) ≡ 35
    → LotOver depth stream d buying n now limit

-- A lot beside a quote of the same store, each in room that is long enough: where the quote is refused the lot is refused by the same
-- number, whatever the quantity; and where a lot is given so is the quote, and both rooms begin with the same three numbers, H and the
-- moment at which it was heard.
pub record BesideQuotes (buying : Bool) (id n : ℕ) (now : List ℕ) (limit : ℕ) (room out xs : List ℕ) : Type 0 where
  pub refused : (quote_answer id now limit room xs ≡ 0 → ⊥) → lot_answer buying id n now limit out xs ≡ quote_answer id now limit room xs
  pub given : lot_answer buying id n now limit out xs ≡ 0 → quote_answer id now limit room xs ≡ 0
  pub dated : lot_answer buying id n now limit out xs ≡ 0 → take 3 (lot_out buying id n now limit out xs) ≡ take 3 (quote_out id now limit room xs)

abbrev pub LotsBesideQuotes : Type 0
LotsBesideQuotes =
    (buying : Bool) (id n : ℕ) (now : List ℕ) (limit : ℕ) (room out xs : List ℕ) → quote_size ≤ length room → lot_size ≤ length out
    → BesideQuotes buying id n now limit room out xs

-- The hut that recovers (Hut.antt) sells and buys 6 units at 20250103-13:00:05, with a limit of 30: its one bid of 5 at 24.02 takes 5 and
-- leaves 1, its one offer of 7 at 24.05 takes all, as of message 3, heard at 13:00:02.000. Five times 24.02 is 120.10, six times 24.05 is
-- 144.30.
abbrev pub at_five : List ℕ
at_five = 50 ∷ 48 ∷ 50 ∷ 53 ∷ 48 ∷ 49 ∷ 48 ∷ 51 ∷ 45 ∷ 49 ∷ 51 ∷ 58 ∷ 48 ∷ 48 ∷ 58 ∷ 48 ∷ 53 ∷ []

-- A lot of 6 is given and leaves these numbers in the room.
pub record Deals (buying : Bool) (room xs numbers : List ℕ) : Type 0 where
  pub answer : lot_answer buying 7 6 at_five 30 room xs ≡ 0
  pub out : lot_out buying 7 6 at_five 30 room xs ≡ sets room 0 numbers

abbrev pub HutDeals : Type 0
HutDeals =
    (xs room : List ℕ) → open_answer 0 ours xs ≡ 0 → lot_size ≤ length room
    → Deals false room (lefts received (open_store 0 ours xs)) (3 ∷ 20250103 ∷ 130002000 ∷ 12010 * (unit / 100) ∷ 1 ∷ [])
    × Deals true room (lefts received (open_store 0 ours xs)) (3 ∷ 20250103 ∷ 130002000 ∷ 14430 * (unit / 100) ∷ 0 ∷ [])
