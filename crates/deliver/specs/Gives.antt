-- Entries given to Live instruments, in the store.
use Rattle.std.specs.Prelude.{cond, List, [], ◌∷◌, ℕ, zero, suc, leb, eqb}
use Rattle.std.proofs.lemmas.List.Edits.{sets}
use Rattle.book.specs.declared.Side.{Side}
use Rattle.book.specs.declared.Update.{Update}
use Rattle.book.specs.Rules.{for_all}
use Rattle.book.specs.Sides.{Done, side_step}
use Rattle.cells.specs.Cells.{zeros, side_at, side_words}
use Rattle.heading.specs.Marks.{marked, with_mark}
use Rattle.heading.specs.Headings.{marks_now}
use Rattle.store.specs.Layout.{reason_of, bids_of, offers_of, book_size}
use Rattle.store.specs.Meaning.{State, st}

-- A store that has taken an entry: 0, or the reason of the breach.
pub record Taken : Type 0 where
  pub reason : ℕ
  pub store : List ℕ

abbrev pub taken : ℕ → List ℕ → Taken
taken r xs = record { reason = r; store = xs }

-- The side at a takes it.
abbrev pub worked : Side → Update → Done
worked s u = side_step s u.action u.place u.entry

abbrev pub on_side_s : ℕ → Update → List ℕ → Taken
on_side_s a u xs = taken (worked (side_at xs a) u).reason (sets xs a (side_words (worked (side_at xs a) u).side))

-- The book of instrument i takes it: the bids, the offers, or for J zeros for both.
unfoldable pub apply_s : ℕ → Update → List ℕ → Taken
apply_s i u xs =
    cond (eqb u.what 0) (on_side_s (bids_of i) u xs)
    (cond (eqb u.what 1) (on_side_s (offers_of i) u xs) (taken 0 (sets xs (bids_of i) (zeros book_size))))

-- Instrument i breaks: both sides emptied, the reason, mark Waiting.
abbrev pub break_s : ℕ → ℕ → State → State
break_s i r s =
    st (marks_now s.head (with_mark s.head.marks i)) (sets (sets s.store (bids_of i) (zeros book_size)) (reason_of i) (r ∷ []))

abbrev pub land_s : ℕ → Taken → State → State
land_s i t s = cond (eqb t.reason 0) (st s.head t.store) (break_s i t.reason (st s.head t.store))

-- Instrument i gets an entry, if it is Live.
abbrev pub give_to_s : ℕ → Update → State → State
give_to_s i u s = cond (marked s.head.marks i) s (land_s i (apply_s i u s.store) s)

-- The first k instruments get it.
unfoldable pub give_each_s : ℕ → Update → State → State
give_each_s zero u s = s
give_each_s (suc k) u s = give_to_s k u (give_each_s k u s)

-- An entry for all is for each that is followed, and any other for the instrument that it names, if that is followed.
unfoldable pub give_s : Update → State → State
give_s u s =
    cond (for_all u) (give_each_s s.head.followed u s) (cond (leb s.head.followed u.who) s (give_to_s u.who u s))

unfoldable pub give_all_s : List Update → State → State
give_all_s [] s = s
give_all_s (u ∷ us) s = give_all_s us (give_s u s)
