-- A snapshot on the store: refused, or taken with what was queued after it.
use Rattle.std.specs.Prelude.{cond, List, [], ◌∷◌, ℕ, eqb}
use Rattle.std.proofs.lemmas.List.Edits.{sets}
use Rattle.book.specs.declared.Book.{Book}
use Rattle.book.specs.declared.Update.{Update}
use Rattle.book.specs.Sides.{Turn, book_step}
use Rattle.book.specs.Canonical.{book_of}
use Rattle.cells.specs.Cells.{tab, side_words}
use Rattle.heading.specs.Marks.{without_mark}
use Rattle.heading.specs.Headings.{marks_now}
use Rattle.board.specs.Board.{Queued, look}
use Rattle.board.specs.Snapshot.{shown, too_wide}
use Rattle.store.specs.Layout.{reason_of, bids_of, offers_of}
use Rattle.store.specs.Meaning.{queued_at, State, st, board_in}
use Rattle.store.specs.Answers.{FedS, fed}
use Rattle.queue.specs.Joins.{settle_s}
use Rattle.deliver.specs.Gives.{break_s}
use Rattle.terms.specs.Terms.{due, refusal_of}

abbrev pub next : Turn → (Book → Turn) → Turn
next t f = cond (eqb t.reason 0) (f t.book) t

-- The queue on a book, up to the first breach.
unfoldable pub replay_b : ℕ → ℕ → List Queued → Book → Turn
replay_b i S [] b = record { book = b; reason = 0 }
replay_b i S (q ∷ qs) b = cond (due i S q.update.who q.update.what q.number) (next (book_step b q.update) (replay_b i S qs)) (replay_b i S qs b)

-- Instrument i is Live with a book, reason 0.
abbrev pub live_s : ℕ → Book → State → State
live_s i b s =
    st (marks_now s.head (without_mark s.head.marks i))
    (sets (sets (sets s.store (bids_of i) (side_words b.bids)) (offers_of i) (side_words b.offers)) (reason_of i) (0 ∷ []))

abbrev pub replayed_s : ℕ → Turn → State → FedS
replayed_s i t s = cond (eqb t.reason 0) (fed 4 (settle_s (live_s i t.book s))) (fed 10 (break_s i t.reason s))

unfoldable pub take_s : ℕ → ℕ → Book → State → FedS
take_s i S b s = replayed_s i (replay_b i S (tab (queued_at s.store) s.head.queued) b) s

-- A side over 20 is 9.
abbrev pub take_shown_s : ℕ → ℕ → List Update → State → FedS
take_shown_s i S us s = cond (too_wide (shown us)) (fed 9 s) (take_s i S (book_of (shown us)) s)

abbrev pub snap_at_s : ℕ → ℕ → List Update → State → FedS
snap_at_s i S us s = cond (eqb (refusal_of s.head i S) 0) (take_shown_s i S us s) (fed (refusal_of s.head i S) s)

-- A W for the SecurityID d with 369 = S.
unfoldable pub snap_s : ℕ → ℕ → List Update → State → FedS
snap_s d S us s = snap_at_s (look d (board_in s).insts) S us s
