-- The rules on sides of 20 places and on their books, as the contracts cite them: an operation works on all 20 places, and a breach
-- leaves the side as it was.
use Rattle.std.specs.Prelude.{Bool, cond, List, [], ◌∷◌, ◌++◌, ℕ, zero, suc, ◌+◌, ◌-◌, leb, ltb, eqb, pos, take, drop, replicate}
use Rattle.book.specs.declared.Entry.{Entry}
use Rattle.book.specs.declared.Side.{Side}
use Rattle.book.specs.declared.Book.{Book}
use Rattle.book.specs.declared.Update.{Update}
use Rattle.book.specs.Rules.{most_places, bad_place, no_room, is_place}

-- A side after an operation: reason 0 done, 1 place, 2 no room; with 1 and 2 the side is as it was.
pub record Done : Type 0 where
  pub side : Side
  pub reason : ℕ

-- The same for a book.
pub record Turn : Type 0 where
  pub book : Book
  pub reason : ℕ

-- The entry of an unused place.
abbrev pub no_entry : Entry
no_entry = record { price = pos 0; size = 0; by = 0; more = 0; moment = 0 }

-- A side that holds nothing.
abbrev pub no_side : Side
no_side = record { places = replicate most_places no_entry; held = 0 }

-- A book that holds nothing.
abbrev pub no_book : Book
no_book = record { bids = no_side; offers = no_side }

-- The first k of l, and unused places for those that it lacks.
unfoldable pub pad : ℕ → List Entry → List Entry
pad zero l = []
pad (suc k) [] = no_entry ∷ pad k []
pad (suc k) (x ∷ l) = x ∷ pad k l

-- An operation that is done leaves the 20 places that l makes, of which n are held.
abbrev pub done : ℕ → List Entry → Done
done n l = record { side = record { places = pad most_places l; held = n }; reason = 0 }

-- A breach leaves the side as it was.
abbrev pub refused : ℕ → Side → Done
refused reason s = record { side = s; reason = reason }

-- What is needed, the reason of a breach, and what follows otherwise.
abbrev pub needs_on : Side → Bool → ℕ → Done → Done
needs_on s met reason d = cond met d (refused reason s)

-- New needs p at most one past the places held, then room for one more.
abbrev pub room_at : Side → ℕ → Done → Done
room_at s p d = needs_on s (is_place p (s.held + 1)) bad_place (needs_on s (ltb s.held most_places) no_room d)

-- All but new need p to be a place held.
abbrev pub held_at : Side → ℕ → Done → Done
held_at s p d = needs_on s (is_place p s.held) bad_place d

-- New puts e at place p and moves the rest down.
unfoldable pub new_at : Side → ℕ → Entry → Done
new_at s p e = room_at s p (done (s.held + 1) (take (p - 1) s.places ++ e ∷ drop (p - 1) s.places))

-- Change replaces place p whole.
unfoldable pub change_at : Side → ℕ → Entry → Done
change_at s p e = held_at s p (done s.held (take (p - 1) s.places ++ e ∷ drop p s.places))

-- Delete removes place p.
unfoldable pub delete_at : Side → ℕ → Done
delete_at s p = held_at s p (done (s.held - 1) (take (p - 1) s.places ++ drop p s.places))

-- Delete thru removes places 1 to p.
unfoldable pub delete_thru : Side → ℕ → Done
delete_thru s p = held_at s p (done (s.held - p) (drop p s.places))

-- Delete from removes place p and all after it.
unfoldable pub delete_from : Side → ℕ → Done
delete_from s p = held_at s p (done (p - 1) (take (p - 1) s.places))

-- The operation that an action names: 0 new, 1 change, 2 delete, 3 delete thru, 4 delete from. Any other is a breach of place.
unfoldable pub side_step : Side → ℕ → ℕ → Entry → Done
side_step s action p e =
    cond (eqb action 0) (new_at s p e)
    (cond (eqb action 1) (change_at s p e)
    (cond (eqb action 2) (delete_at s p) (cond (eqb action 3) (delete_thru s p) (cond (eqb action 4) (delete_from s p) (refused bad_place s)))))

-- Why a side that holds n places refuses an action at place p: 1 place, 2 no room, 0 if it doesn't.
unfoldable pub breach_of : ℕ → ℕ → ℕ → ℕ
breach_of n action p =
    cond (eqb action 0) (cond (is_place p (n + 1)) (cond (ltb n most_places) 0 no_room) bad_place)
    (cond (is_place p n) (cond (leb action 4) 0 bad_place) bad_place)

-- The index of the first place that an action may change, where the place that it names has the index `at`: delete thru (3) begins at place 1.
abbrev pub first_changed : ℕ → ℕ → ℕ
first_changed action at = cond (eqb action 3) 0 at

-- A book after an operation on its bids.
abbrev pub bids_done : Book → Done → Turn
bids_done b d = record { book = record { bids = d.side; offers = b.offers }; reason = d.reason }

-- A book after an operation on its offers.
abbrev pub offers_done : Book → Done → Turn
offers_done b d = record { book = record { bids = b.bids; offers = d.side }; reason = d.reason }

-- One entry on a book: 0 works the bids, 1 the offers, and any other is J, of one instrument or for all, which empties both sides.
unfoldable pub book_step : Book → Update → Turn
book_step b u =
    cond (eqb u.what 0) (bids_done b (side_step b.bids u.action u.place u.entry))
    (cond (eqb u.what 1) (offers_done b (side_step b.offers u.action u.place u.entry))
    (record { book = no_book; reason = 0 }))
