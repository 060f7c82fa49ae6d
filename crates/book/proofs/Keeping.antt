-- Every operation keeps a side kept, and holds no entry but those that were held and the new one; and so for a book.
use mathlib.Core.List.{List}
use Prim.Native.Nat.{ℕ, ◌≤◌}
use native.Mathlib.Omega.{arith}
use lib.Dec.{eqb}
use lib.ListN.{length}
use borrow.Author.Tests.{eqb-true}
use Rattle.book.specs.declared.Entry.{Entry}
use Rattle.book.specs.declared.Side.{Side}
use Rattle.book.specs.declared.Book.{Book}
use Rattle.book.specs.declared.Update.{Update}
use Rattle.book.specs.Rules.{most_places, Outcome, leaves, breach, after_action}
use Rattle.book.specs.Sides.{Turn, no_entry, new_at, change_at, delete_at, delete_thru, delete_from, side_step, book_step}
use Rattle.book.specs.Canonical.{Kept, KeptBook, held_in, done_of, All}
use Rattle.book.proofs.Tests.{by_test}
use Rattle.book.proofs.Canon.{held_of, kept_of, length_held, kept_no_side}
use Rattle.book.proofs.Actions.{Leaves, after_fits, after_all}
use Rattle.book.proofs.Listed.{side_listed}

-- a kept side holds at most 20
pub held_fits : (s : Side) → Kept s → length (held_in s) ≤ most_places
held_fits s k = omega (arith, length_held s k, k.room)

kept_done : (s : Side) (o : Outcome (List Entry)) → Kept s → Leaves (λ m. length m ≤ most_places) o → Kept (done_of s o).side
kept_done s (leaves l) k h = kept_of l h
kept_done s (breach r) k h = k

all_done : (P : Entry → Type 0) (s : Side) (o : Outcome (List Entry)) → All P (held_in s) → Leaves (λ m. length m ≤ most_places) o → Leaves (All P) o → All P (held_in (done_of s o).side)
all_done P s (leaves l) a h g = rw (held_of l h) g
all_done P s (breach r) a h g = a

module _ (s : Side) (k : Kept s) (action p : ℕ) (e : Entry) where
  pub kept_side : Kept (side_step s action p e).side
  kept_side =
      rw (side_listed s p k action e) (kept_done s (after_action (held_in s) action p e) k (after_fits (held_in s) action p e (held_fits s k)))

  -- of the new entry the property is asked only where the action reads it
  pub all_side : (P : Entry → Type 0) → All P (held_in s) → (action ≤ 1 → P e) → All P (held_in (side_step s action p e).side)
  all_side P h g =
      rw (side_listed s p k action e)
      (all_done P s (after_action (held_in s) action p e) h (after_fits (held_in s) action p e (held_fits s k)) (after_all P (held_in s) action p e h g))

-- the five by name
module _ (s : Side) (k : Kept s) (p : ℕ) where
  pub kept_new : (e : Entry) → Kept (new_at s p e).side
  unfolding side_step
  kept_new e = kept_side s k 0 p e

  pub kept_change : (e : Entry) → Kept (change_at s p e).side
  unfolding side_step
  kept_change e = kept_side s k 1 p e

  pub kept_delete : Kept (delete_at s p).side
  unfolding side_step
  kept_delete = kept_side s k 2 p no_entry

  pub kept_thru : Kept (delete_thru s p).side
  unfolding side_step
  kept_thru = kept_side s k 3 p no_entry

  pub kept_from : Kept (delete_from s p).side
  unfolding side_step
  kept_from = kept_side s k 4 p no_entry

module _ (b : Book) (k : KeptBook b) (u : Update) where
  pub kept_apply : KeptBook (book_step b u).book
  unfolding book_step
  kept_apply =
      by_test (λ (t : Turn). KeptBook t.book) (eqb u.what 0)
      (λ _. record { bids = kept_side b.bids k.bids u.action u.place u.entry; offers = k.offers })
      (λ _. by_test (λ (t : Turn). KeptBook t.book) (eqb u.what 1)
      (λ _. record { bids = k.bids; offers = kept_side b.offers k.offers u.action u.place u.entry })
      (λ _. record { bids = kept_no_side; offers = kept_no_side }))

  pub all_apply : (P : Entry → Type 0) → All P (held_in b.bids) → All P (held_in b.offers) → (u.what ≤ 1 → u.action ≤ 1 → P u.entry)
      → All P (held_in (book_step b u).book.bids) × All P (held_in (book_step b u).book.offers)
  unfolding book_step
  all_apply P h g n =
      by_test (λ (t : Turn). All P (held_in t.book.bids) × All P (held_in t.book.offers)) (eqb u.what 0)
      (λ z. (all_side b.bids k.bids u.action u.place u.entry P h (n (omega (arith, eqb-true u.what 0 z))), g))
      (λ _. by_test (λ (t : Turn). All P (held_in t.book.bids) × All P (held_in t.book.offers)) (eqb u.what 1)
      (λ z. (h, all_side b.offers k.offers u.action u.place u.entry P g (n (omega (arith, eqb-true u.what 1 z)))))
      (λ _. (tt, tt)))
