-- Entries in range leave a book of at most 20 places a side, each in range; a breach gives reason 1 or 2.
use mathlib.Core.Path.{◌≡◌}
use mathlib.Core.Bool.{true, cond}
use mathlib.Core.List.{List, [], ◌∷◌}
use Prim.Native.Nat.{ℕ, ◌+◌, ◌≤◌}
use native.Mathlib.Omega.{arith}
use lib.Dec.{ltb, leb, eqb}
use lib.ListN.{length}
use borrow.Author.Tests.{eqb-true, le-leb}
use Rattle.book.specs.Rules.{Lists, empty, Outcome, leaves, breach, is_place, after_new, after_change, after_delete, after_thru, after_from, after_action, with_bids, with_offers, applied}
use Rattle.book.specs.Canonical.{All}
use Rattle.book.specs.declared.Entry.{Entry}
use Rattle.book.specs.declared.Update.{Update}
use Rattle.book.proofs.Tests.{by_test}
use Rattle.book.proofs.Actions.{Leaves, after_fits, after_all}
use Rattle.board.specs.Snapshot.{and_then, run}
use Rattle.board.specs.Ranges.{within, entry_fine, update_fine}
use Rattle.board.specs.Sound.{Each, SoundSide}
use Rattle.board.proofs.Tested.{three, empty_side}

-- an entry of a message in range, and a place's
abbrev pub Fine : ℕ → Update → Type 0
Fine depth u = update_fine depth u ≡ true

abbrev pub FineEntry : ℕ → Entry → Type 0
FineEntry depth e = entry_fine depth e ≡ true

pub record SoundBook (depth : ℕ) (b : Lists) : Type 0 where
  pub bids : SoundSide depth b.bids
  pub offers : SoundSide depth b.offers

-- what an outcome on a book leaves is sound, and its breach is a reason
abbrev pub SoundOutcome : ℕ → Outcome Lists → Type 0
SoundOutcome depth (leaves b) = SoundBook depth b
SoundOutcome depth (breach r) = r ≤ 2

-- the same of one side
abbrev Reasoned : Outcome (List Entry) → Type 0
Reasoned (leaves l) = Unit {0}
Reasoned (breach r) = r ≤ 2

after_reasoned : (l : List Entry) (action p : ℕ) (e : Entry) → Reasoned (after_action l action p e)
unfolding after_action after_new after_change after_delete after_thru after_from
after_reasoned l action p e =
    by_test Reasoned (eqb action 0)
    (λ _. by_test Reasoned (is_place p (length l + 1)) (λ _. by_test Reasoned (ltb (length l) 20) (λ _. tt) (λ _. omega arith)) (λ _. omega arith))
    (λ _. by_test Reasoned (eqb action 1) (λ _. at_place _)
    (λ _. by_test Reasoned (eqb action 2) (λ _. at_place _)
    (λ _. by_test Reasoned (eqb action 3) (λ _. at_place _) (λ _. by_test Reasoned (eqb action 4) (λ _. at_place _) (λ _. omega arith)))))
  where
    at_place : (m : List Entry) → Reasoned (cond (is_place p (length l)) (leaves m) (breach 1))
    at_place m = by_test Reasoned (is_place p (length l)) (λ _. tt) (λ _. omega arith)

module _ (depth : ℕ) where
  bids_sound : (b : Lists) (o : Outcome (List Entry)) → SoundBook depth b → Leaves (λ m. length m ≤ 20) o → Leaves (All (FineEntry depth)) o → Reasoned o
      → SoundOutcome depth (with_bids b o)
  bids_sound b (leaves l) s f a r = record { bids = record { room = f; entries = a }; offers = s.offers }
  bids_sound b (breach r) s f a k = k

  offers_sound : (b : Lists) (o : Outcome (List Entry)) → SoundBook depth b → Leaves (λ m. length m ≤ 20) o → Leaves (All (FineEntry depth)) o → Reasoned o
      → SoundOutcome depth (with_offers b o)
  offers_sound b (leaves l) s f a r = record { bids = s.bids; offers = record { room = f; entries = a } }
  offers_sound b (breach r) s f a k = k

  -- of its values an entry in range has those in range that its action reads
  update_entry : (u : Update) → Fine depth u → u.what ≤ 1 → u.action ≤ 1 → FineEntry depth u.entry
  unfolding update_fine
  update_entry u e w a =
      let t : leb u.what 1 ≡ true = le-leb u.what 1 w in
      let v : leb u.action 1 ≡ true = le-leb u.action 1 a in
      (three (leb u.action 4) (within 1 65535 u.place) (entry_fine depth u.entry) (rw (t, v) at e)).2

  pub empty_book_lem : SoundBook depth empty
  empty_book_lem = record { bids = empty_side depth; offers = empty_side depth }

  pub applied_sound : (b : Lists) (u : Update) → SoundBook depth b → Fine depth u → SoundOutcome depth (applied b u)
  unfolding applied
  applied_sound b u s f =
      by_test (SoundOutcome depth) (eqb u.what 0)
      (λ z. bids_sound b (after_action b.bids u.action u.place u.entry) s
      (after_fits b.bids u.action u.place u.entry s.bids.room)
      (after_all (FineEntry depth) b.bids u.action u.place u.entry s.bids.entries
      (update_entry u f (omega (arith, eqb-true u.what 0 z))))
      (after_reasoned b.bids u.action u.place u.entry))
      (λ _. by_test (SoundOutcome depth) (eqb u.what 1)
      (λ z. offers_sound b (after_action b.offers u.action u.place u.entry) s
      (after_fits b.offers u.action u.place u.entry s.offers.room)
      (after_all (FineEntry depth) b.offers u.action u.place u.entry s.offers.entries
      (update_entry u f (omega (arith, eqb-true u.what 1 z))))
      (after_reasoned b.offers u.action u.place u.entry))
      (λ _. empty_book_lem))

  pub run_sound : (us : List Update) (b : Lists) → SoundBook depth b → Each (Fine depth) us → SoundOutcome depth (run us b)
  unfolding run
  run_sound [] b s f = s
  run_sound (u ∷ us) b s f = go (applied b u) (applied_sound b u s f.0) (run_sound us)
    where
      go : (o : Outcome Lists) → SoundOutcome depth o
          → ((c : Lists) → SoundBook depth c → Each (Fine depth) us → SoundOutcome depth (run us c)) → SoundOutcome depth (and_then o (run us))
      go (leaves c) s ih = ih c s f.1
      go (breach r) s ih = s
