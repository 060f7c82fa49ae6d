-- "A side of a book" of document 01: what each operation does to the list of the n entries held, place 1 first.
-- What a breach does to the instrument is the board's to say.
use Rattle.std.specs.Prelude.{Bool, cond, ◌&&◌, ◌||◌, List, [], ◌∷◌, ◌++◌, ℕ, ◌+◌, ◌-◌, leb, ltb, eqb, length, take, drop}
use Rattle.book.specs.declared.Entry.{Entry}
use Rattle.book.specs.declared.Update.{Update}

-- What an operation leaves, or the reason of its breach.
pub data Outcome (A : Type 0) : Type 0 where
  leaves : A → Outcome A
  breach : ℕ → Outcome A

-- A side holds at most 20 places.
abbrev pub most_places : ℕ
most_places = 20

-- Reason 1: place.
abbrev pub bad_place : ℕ
bad_place = 1

-- Reason 2: no room.
abbrev pub no_room : ℕ
no_room = 2

-- Places count from 1: p is one of the places 1 to n.
abbrev pub is_place : ℕ → ℕ → Bool
is_place p n = leb 1 p && leb p n

-- What is needed, the reason of a breach, and what follows otherwise.
abbrev pub needs : Bool → ℕ → Outcome (List Entry) → Outcome (List Entry)
needs met reason o = cond met o (breach reason)

-- New at p needs p at most n+1 and n below 20, and moves the rest down. The place comes first.
unfoldable pub after_new : List Entry → ℕ → Entry → Outcome (List Entry)
after_new l p e =
    needs (is_place p (length l + 1)) bad_place (needs (ltb (length l) most_places) no_room (leaves (take (p - 1) l ++ e ∷ drop (p - 1) l)))

-- All but new need p at most n.
abbrev pub at_place : List Entry → ℕ → List Entry → Outcome (List Entry)
at_place l p m = needs (is_place p (length l)) bad_place (leaves m)

-- Change replaces place p whole.
unfoldable pub after_change : List Entry → ℕ → Entry → Outcome (List Entry)
after_change l p e = at_place l p (take (p - 1) l ++ e ∷ drop p l)

-- Delete removes p.
unfoldable pub after_delete : List Entry → ℕ → Outcome (List Entry)
after_delete l p = at_place l p (take (p - 1) l ++ drop p l)

-- Delete thru removes 1 to p.
unfoldable pub after_thru : List Entry → ℕ → Outcome (List Entry)
after_thru l p = at_place l p (drop p l)

-- Delete from removes p to n.
unfoldable pub after_from : List Entry → ℕ → Outcome (List Entry)
after_from l p = at_place l p (take (p - 1) l)

-- The actions: 0 new, 1 change, 2 delete, 3 delete thru, 4 delete from; there is no other.
unfoldable pub after_action : List Entry → ℕ → ℕ → Entry → Outcome (List Entry)
after_action l action p e =
    cond (eqb action 0) (after_new l p e)
    (cond (eqb action 1) (after_change l p e)
    (cond (eqb action 2) (after_delete l p)
    (cond (eqb action 3) (after_thru l p) (cond (eqb action 4) (after_from l p) (breach bad_place)))))

-- A book of two lists.
pub record Lists : Type 0 where
  pub bids : List Entry
  pub offers : List Entry

-- A book that holds nothing.
abbrev pub empty : Lists
empty = record { bids = []; offers = [] }

-- The book with other bids, or the breach.
abbrev pub with_bids : Lists → Outcome (List Entry) → Outcome Lists
with_bids b (leaves l) = leaves (record { bids = l; offers = b.offers })
with_bids b (breach r) = breach r

-- The book with other offers, or the breach.
abbrev pub with_offers : Lists → Outcome (List Entry) → Outcome Lists
with_offers b (leaves l) = leaves (record { bids = b.bids; offers = l })
with_offers b (breach r) = breach r

-- What an entry is of: a bid (0), an offer (1), the empty book of one instrument (2), or that of all instruments of the channel, which is J
-- without an instrument (document 02, K4).
abbrev pub empty_of_all : ℕ
empty_of_all = 3

abbrev pub is_for_all : ℕ → Bool
is_for_all what = eqb what empty_of_all

abbrev pub for_all : Update → Bool
for_all u = is_for_all u.what

-- An entry is for the instrument that it names, by SecurityID in a message and by index on a board; one for all is for every one.
abbrev pub is_for : ℕ → ℕ → ℕ → Bool
is_for d who what = is_for_all what || eqb who d

-- One entry on a book: 0 works the bids, 1 the offers, and any other is J, of one instrument or for all, which empties both sides.
unfoldable pub applied : Lists → Update → Outcome Lists
applied b u =
    cond (eqb u.what 0) (with_bids b (after_action b.bids u.action u.place u.entry))
    (cond (eqb u.what 1) (with_offers b (after_action b.offers u.action u.place u.entry)) (leaves empty))
