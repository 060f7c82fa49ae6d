-- The replay on a book of 20 places a side says the same as document 01's on the two lists, and keeps the book kept.
use mathlib.Core.Path.{◌≡◌, refl, ap, ◌∙◌}
use mathlib.Core.Bool.{Bool, true, false, cond}
use mathlib.Core.List.{List, [], ◌∷◌}
use Prim.Native.Nat.{ℕ}
use lib.Dec.{eqb}
use Rattle.book.specs.declared.Book.{Book}
use Rattle.book.specs.Rules.{Outcome, leaves, breach, Lists}
use Rattle.book.specs.Sides.{Turn, book_step}
use Rattle.book.specs.Canonical.{KeptBook, lists_in}
use Rattle.book.proofs.Tests.{by_test}
use Rattle.book.proofs.Keeping.{kept_apply}
use Rattle.board.specs.Board.{Queued}
use Rattle.board.specs.Snapshot.{and_then, run, after}
use Rattle.deliver.proofs.Outcomes.{outcome_of, step_outcome}
use Rattle.taking.specs.Replays.{next, replay_b}
use Rattle.terms.specs.Terms.{due}

pub replay_kept : (i S : ℕ) (qs : List Queued) (b : Book) → KeptBook b → KeptBook (replay_b i S qs b).book
unfolding replay_b
replay_kept i S [] b k = k
replay_kept i S (q ∷ qs) b k =
    let t = book_step b q.update in
    let a = kept_apply b k q.update in
    by_test (λ (x : Turn). KeptBook x.book) (due i S q.update.who q.update.what q.number)
    (λ _. by_test (λ (x : Turn). KeptBook x.book) (eqb t.reason 0) (λ _. replay_kept i S qs t.book a) (λ _. a))
    (λ _. replay_kept i S qs b k)

-- a turn and then the rest
next_outcome : (t : Turn) (f : Book → Turn) (g : Lists → Outcome Lists) → outcome_of (f t.book) ≡ g (lists_in t.book)
    → outcome_of (next t f) ≡ and_then (outcome_of t) g
next_outcome t f g h = go (eqb t.reason 0) refl
  where
    go : (c : Bool) → eqb t.reason 0 ≡ c
        → outcome_of (cond c (f t.book) t) ≡ and_then (cond c (leaves (lists_in t.book)) (breach t.reason)) g
    go true e = h
    go false e = rw e

pub replay_outcome : (i S : ℕ) (qs : List Queued) (b : Book) → KeptBook b → outcome_of (replay_b i S qs b) ≡ run (after i S qs) (lists_in b)
unfolding replay_b run after
replay_outcome i S [] b k = refl
replay_outcome i S (q ∷ qs) b k =
    go (due i S q.update.who q.update.what q.number) (replay_outcome i S qs b k)
    (replay_outcome i S qs (book_step b q.update).book (kept_apply b k q.update))
  where
    go : (c : Bool) → outcome_of (replay_b i S qs b) ≡ run (after i S qs) (lists_in b)
        → outcome_of (replay_b i S qs (book_step b q.update).book) ≡ run (after i S qs) (lists_in (book_step b q.update).book)
        → outcome_of (cond c (next (book_step b q.update) (replay_b i S qs)) (replay_b i S qs b)) ≡ run (cond c (q.update ∷ after i S qs) (after i S qs)) (lists_in b)
    go true h g =
        next_outcome (book_step b q.update) (replay_b i S qs) (run (after i S qs)) g
        ∙ ap (λ (o : Outcome Lists). and_then o (run (after i S qs))) (step_outcome b q.update k)
    go false h g = h
