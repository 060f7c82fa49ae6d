-- What a caller asks of a store, and the numbers that answer it (document 01, "Quote and writing" and "Answer numbers").
use Rattle.std.specs.Prelude.{Option, Some, None, ◌≡◌, cond, ◌&&◌, List, [], ◌∷◌, ◌++◌, ℕ, ◌+◌, ◌-◌, ◌^◌, leb, eqb, ℤ, pos, negsuc, length}
use Rattle.std.proofs.lemmas.List.Edits.{sets}
use Rattle.calendar.specs.Calendar.{date_number}
use Rattle.moment.specs.Moments.{day_part, time_part, time_number}
use Rattle.orderid.specs.OrderIds.{packed_of}
use Rattle.book.specs.declared.Entry.{Entry}
use Rattle.board.specs.Board.{Inst, look, at}
use Rattle.board.specs.Ranges.{id_fine}
use Rattle.cells.specs.Cells.{zeros}
use Rattle.store.specs.Meaning.{board_at}
use Rattle.sound.specs.Sound.{sound}
use Rattle.quote.specs.declared.Quote.{Quote}
use Rattle.quote.specs.Quotes.{Quoted, quote_of, if_quoted}
pub use Rattle.quote.specs.Quotes.{quote_number}

-- With 0 the values stand at the start of the room; a refusal writes nothing there.
abbrev pub room_after : ℕ → List ℕ → List ℕ → List ℕ
room_after answer values room = cond (eqb answer 0) (sets room 0 values) room

-- ---- a quote as numbers

-- A quote takes 17 numbers of the room that is lent for it.
abbrev pub quote_size : ℕ
quote_size = 17

-- A price or a sum as its 64 bits, two's complement.
unfoldable pub bits_of : ℤ → ℕ
bits_of (pos n) = n
bits_of (negsuc n) = 2 ^ 64 - (n + 1)

-- A moment: its date YYYYMMDD and its time of day HHMMSSsss.
abbrev pub moment_words : ℕ → List ℕ
moment_words m = date_number (day_part m) ∷ time_number (time_part m) ∷ []

-- The order id's bytes, 1 to 8 and 9 to 16, low byte first, on an order-depth channel (0); on a price-depth one the number
-- of orders and 0.
abbrev pub by_words : ℕ → ℕ → ℕ → List ℕ
by_words depth by more = cond (eqb depth 0) (packed_of by ∷ packed_of more ∷ []) (by ∷ 0 ∷ [])

-- Place 1 of a side: held (1), price, size, who or how many, its moment.
abbrev pub entry_words : ℕ → Entry → List ℕ
entry_words depth e = 1 ∷ bits_of e.price ∷ e.size ∷ by_words depth e.by e.more ++ moment_words e.moment

-- An empty side is seven zeros.
abbrev pub top_words : ℕ → Option Entry → List ℕ
top_words depth (Some e) = entry_words depth e
top_words depth None = zeros 7

-- H, the moment at which it was heard, the bid, the offer.
abbrev pub quote_words : ℕ → Quote → List ℕ
quote_words depth q = q.number ∷ moment_words q.heard ++ (top_words depth q.bid ++ top_words depth q.offer)

-- Beside the number of each case (`quote_number`), its values: a refused quote carries zeros.
abbrev pub quote_values : ℕ → Quoted → List ℕ
quote_values depth q = if_quoted (quote_words depth) (zeros quote_size) q

-- 17 for an unsound store, then 18 for room too short or an argument outside its range, then 20 to 24 of the board.
unfoldable pub quote_answer : ℕ → List ℕ → ℕ → List ℕ → List ℕ → ℕ
quote_answer id now limit room xs =
    cond (sound xs) (cond (leb quote_size (length room)) (quote_number (quote_of id now limit (board_at xs))) 18) 17

-- The room that a quote of the store xs leaves.
unfoldable pub quote_out : ℕ → List ℕ → ℕ → List ℕ → List ℕ → List ℕ
quote_out id now limit room xs =
    room_after (quote_answer id now limit room xs) (quote_values (board_at xs).depth (quote_of id now limit (board_at xs))) room

-- What a call answers, and what ys it leaves of the room.
pub record Asked (id : ℕ) (now : List ℕ) (limit : ℕ) (room xs : List ℕ) (r : ℕ) (ys : List ℕ) : Type 0 where
  pub answer : r ≡ quote_answer id now limit room xs
  pub out : ys ≡ quote_out id now limit room xs

-- ---- an instrument's state as numbers

-- A state takes 4 numbers.
abbrev pub state_size : ℕ
state_size = 4

-- Waiting (1) or Live (0), the reason, how many bids and how many offers are held.
abbrev pub state_words : Inst → List ℕ
state_words x = cond x.waiting 1 0 ∷ x.reason ∷ length x.book.bids ∷ length x.book.offers ∷ []

-- 17 for an unsound store, 18 for room too short or no SecurityID, 20 for an instrument that isn't followed.
unfoldable pub state_answer : ℕ → List ℕ → List ℕ → ℕ
state_answer id room xs =
    cond (sound xs)
    (cond (leb state_size (length room) && id_fine id) (cond (leb (length (board_at xs).insts) (look id (board_at xs).insts)) 20 0) 18)
    17

-- The room that a state of the store xs leaves.
unfoldable pub state_out : ℕ → List ℕ → List ℕ → List ℕ
state_out id room xs = room_after (state_answer id room xs) (state_words (at (look id (board_at xs).insts) (board_at xs))) room

-- What a call answers, and what ys it leaves of the room.
pub record Stated (id : ℕ) (room xs : List ℕ) (r : ℕ) (ys : List ℕ) : Type 0 where
  pub answer : r ≡ state_answer id room xs
  pub out : ys ≡ state_out id room xs
