-- A snapshot: taken or refused, and the replay of what was queued after it.
use Rattle.std.specs.Prelude.{Bool, true, false, cond, ◌&&◌, ◌||◌, List, [], ◌∷◌, ℕ, ltb, eqb, length}
use Rattle.book.specs.Rules.{Lists, Outcome, leaves, breach, most_places, applied}
use Rattle.book.specs.declared.Entry.{Entry}
use Rattle.book.specs.declared.Update.{Update}
use Rattle.board.specs.Board.{Inst, Queued, Board, Out, out, look, speaks_of, at, put, broken, settled}

-- The entries of one side of a W, in the order written: 0 bids, 1 offers.
unfoldable pub entries_of : ℕ → List Update → List Entry
entries_of side [] = []
entries_of side (u ∷ us) = cond (eqb u.what side) (u.entry ∷ entries_of side us) (entries_of side us)

abbrev pub shown : List Update → Lists
shown us = record { bids = entries_of 0 us; offers = entries_of 1 us }

-- Entries on a book, up to the first breach.
abbrev pub and_then : Outcome Lists → (Lists → Outcome Lists) → Outcome Lists
and_then (leaves b) f = f b
and_then (breach r) f = breach r

unfoldable pub run : List Update → Lists → Outcome Lists
run [] b = leaves b
run (u ∷ us) b = and_then (applied b u) (run us)

-- The queued entries that speak of instrument i, with numbers above S.
unfoldable pub after : ℕ → ℕ → List Queued → List Update
after i S [] = []
after i S (q ∷ qs) = cond (speaks_of i q.update && ltb S q.number) (q.update ∷ after i S qs) (after i S qs)

-- Its book is set and it is Live, with reason 0; or the replay broke, and it stays Waiting with the reason.
abbrev pub live : Inst → Lists → Inst
live x b = record { id = x.id; waiting = false; reason = 0; book = b }

abbrev pub replayed : ℕ → Outcome Lists → Board → Out
replayed i (leaves l) b = out 4 (settled true (put i (live (at i b) l) b))
replayed i (breach r) b = out 10 (settled true (put i (broken (at i b) r) b))

unfoldable pub take : ℕ → ℕ → Lists → Board → Out
take i S l b = replayed i (run (after i S b.queue) l) b

-- A side over 20.
abbrev pub too_wide : Lists → Bool
too_wide l = ltb most_places (length l.bids) || ltb most_places (length l.offers)

-- Refused, in this order: not followed 5, already Live 6, S below B 7, S above H 8, a side over 20 9.
abbrev pub snap_by : Bool → Bool → Bool → Bool → Bool → ℕ → ℕ → Lists → Board → Out
snap_by false waiting below above wide i S l b = out 5 b
snap_by true false below above wide i S l b = out 6 b
snap_by true true true above wide i S l b = out 7 b
snap_by true true false true wide i S l b = out 8 b
snap_by true true false false true i S l b = out 9 b
snap_by true true false false false i S l b = take i S l b

abbrev pub snap_at : ℕ → ℕ → Lists → Board → Out
snap_at i S l b =
    snap_by (ltb i (length b.insts)) (at i b).waiting (ltb S b.B) (ltb b.H S) (too_wide l) i S l b

-- A W for the instrument d with 369 = S.
unfoldable pub snap : ℕ → ℕ → Lists → Board → Out
snap d S l b = snap_at (look d b.insts) S l b
