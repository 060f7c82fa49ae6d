-- What a snapshot leaves in the store is the board after it, and the store is canonical again.
use mathlib.Core.Path.{◌≡◌, refl, sym, ap, ◌∙◌}
use mathlib.Core.Bool.{Bool, true, false, cond, ◌||◌}
use mathlib.Core.List.{List}
use Prim.Native.Nat.{ℕ, ◌≤◌, ◌<◌}
use native.Mathlib.Omega.{arith}
use lib.Dec.{ltb, leb, eqb}
use lib.ListN.{length}
use borrow.Author.Tests.{ltb-false, leb-true, leb-false, le-ltb, lt-ltb, eqb-false, eqb-true}
use Rattle.book.specs.declared.Book.{Book}
use Rattle.book.specs.Sides.{Turn}
use Rattle.book.specs.declared.Update.{Update}
use Rattle.book.specs.Rules.{Outcome, leaves, breach, Lists}
use Rattle.book.specs.Canonical.{KeptBook, lists_in, book_of}
use Rattle.book.proofs.Tests.{by_test}
use Rattle.book.proofs.Canon.{kept_book_of}
use Rattle.cells.specs.Cells.{tab}
use Rattle.heading.specs.Marks.{marked, with_mark}
use Rattle.heading.proofs.Bits.{not_zero, mark_own}
use Rattle.board.specs.Board.{Inst, out, look, at, put, broken, settled}
use Rattle.board.specs.Snapshot.{live, replayed, take, shown, too_wide, snap_by, snap_at, snap}
use Rattle.store.specs.Meaning.{inst_at, queued_at, board_of, State, board_in}
use Rattle.store.specs.Canon.{Formed, Canon}
use Rattle.store.specs.Answers.{FedS, fed, meant}
use Rattle.store.proofs.Decode.{insts_length, at_board}
use Rattle.queue.specs.Joins.{settle_s}
use Rattle.queue.proofs.Joining.{settle_canon, settle_none}
use Rattle.queue.proofs.Board.{settle_board}
use Rattle.deliver.specs.Gives.{break_s}
use Rattle.deliver.proofs.Outcomes.{lists_of, outcome_of}
use Rattle.deliver.proofs.Breaking.{break_formed, break_board}
use Rattle.taking.specs.Replays.{replay_b, live_s, replayed_s, take_s, take_shown_s, snap_at_s, snap_s}
use Rattle.terms.specs.Terms.{refusal_of}
use Rattle.taking.proofs.Outcomes.{replay_kept, replay_outcome}
use Rattle.taking.proofs.Living.{live_formed, live_board}

module _ (s : State) (f : Formed s) (i : ℕ) (l : i < s.head.followed) where
  few : i < 16
  few = let n = f.few in omega arith

  -- one that broke waits, so the queue stays
  broken_waits : (r : ℕ) → (break_s i r s).head.marks ≡ 0 → ⊥
  broken_waits r = eqb-false _ _ (not_zero (with_mark s.head.marks i) i (mark_own s.head.marks i few))

  broken_board : (r : ℕ) → board_in (break_s i r s) ≡ settled true (put i (broken (at i (board_in s)) r) (board_in s))
  broken_board r =
      sym (ap board_in (settle_none (break_s i r s) (broken_waits r))) ∙ settle_board (break_s i r s) (break_formed s f i l r)
      ∙ ap (settled true) (break_board s f i l r)

  taken_board : (b : Book) → KeptBook b → board_in (settle_s (live_s i b s)) ≡ settled true (put i (live (at i (board_in s)) (lists_in b)) (board_in s))
  taken_board b k = settle_board (live_s i b s) (live_formed s f i l b k) ∙ ap (settled true) (live_board s f i l b k)

  replayed_board : (t : Turn) → KeptBook t.book → meant (replayed_s i t s) ≡ replayed i (outcome_of t) (board_in s)
  replayed_board t k = go (eqb t.reason 0)
    where
      go : (c : Bool) → meant (cond c (fed 4 (settle_s (live_s i t.book s))) (fed 10 (break_s i t.reason s)))
          ≡ replayed i (cond c (leaves (lists_in t.book)) (breach t.reason)) (board_in s)
      go true = ap (out 4) (taken_board t.book k)
      go false = ap (out 10) (broken_board t.reason)

  pub take_board : (S : ℕ) (b : Book) → KeptBook b → meant (take_s i S b s) ≡ take i S (lists_in b) (board_in s)
  unfolding take_s take board_of
  take_board S b k =
      let qs = tab (queued_at s.store) s.head.queued in
      replayed_board (replay_b i S qs b) (replay_kept i S qs b k) ∙ ap (λ (o : Outcome Lists). replayed i o (board_in s)) (replay_outcome i S qs b k)

  pub take_canon : (S : ℕ) (b : Book) → KeptBook b → Canon (take_s i S b s).state
  unfolding take_s
  take_canon S b k =
      let qs = tab (queued_at s.store) s.head.queued in
      let t = replay_b i S qs b in
      by_test (λ (o : FedS). Canon o.state) (eqb t.reason 0)
      (λ _. settle_canon (live_s i t.book s) (live_formed s f i l t.book (replay_kept i S qs b k)))
      (λ _. record { formed = break_formed s f i l t.reason; idle = λ z. absurd (broken_waits t.reason z) })

-- a book that is not too wide is kept
narrow : (l : Lists) → too_wide l ≡ false → KeptBook (book_of l)
narrow l e = go (ltb 20 (length l.bids)) refl e
  where
    go : (t : Bool) → ltb 20 (length l.bids) ≡ t → (t || ltb 20 (length l.offers)) ≡ false → KeptBook (book_of l)
    go true h g = let z : ◌≡◌ {A = ℕ} 0 1 = cc in absurd (omega arith)
    go false h g = kept_book_of l (ltb-false 20 _ h) (ltb-false 20 _ g)

module _ (S : ℕ) (us : List Update) (s : State) (f : Formed s) where
  shown_board : (i : ℕ) → i < s.head.followed → meant (take_shown_s i S us s) ≡ snap_by true true false false (too_wide (shown us)) i S (shown us) (board_in s)
  shown_board i l = go (too_wide (shown us)) refl
    where
      go : (t : Bool) → too_wide (shown us) ≡ t → meant (cond t (fed 9 s) (take_s i S (book_of (shown us)) s)) ≡ snap_by true true false false t i S (shown us) (board_in s)
      go true e = refl
      go false e =
          let k = narrow (shown us) e in
          take_board s f i l S (book_of (shown us)) k ∙ ap (λ (b : Lists). take i S b (board_in s)) (lists_of (shown us) k)

  -- the refusals in their order
  at_index : (i : ℕ) → meant (snap_at_s i S us s) ≡ snap_at i S (shown us) (board_in s)
  unfolding refusal_of board_of inst_at
  at_index i = go (leb s.head.followed i) (marked s.head.marks i) (ltb S s.head.base) (ltb s.head.number S) refl refl
    where
      by : (x y p v : Bool) → ltb i (length (board_in s).insts) ≡ p → (at i (board_in s)).waiting ≡ v
          → snap_by p v x y (too_wide (shown us)) i S (shown us) (board_in s)
          ≡ snap_by (ltb i (length (board_in s).insts)) (at i (board_in s)).waiting x y (too_wide (shown us)) i S (shown us) (board_in s)
      by x y p v e g = rw (← e, ← g)

      go : (a w x y : Bool) → leb s.head.followed i ≡ a → marked s.head.marks i ≡ w
          → meant (cond (eqb (cond a 5 (cond w (cond x 7 (cond y 8 0)) 6)) 0) (take_shown_s i S us s) (fed (cond a 5 (cond w (cond x 7 (cond y 8 0)) 6)) s))
          ≡ snap_by (ltb i (length (board_in s).insts)) (at i (board_in s)).waiting x y (too_wide (shown us)) i S (shown us) (board_in s)
      go true w x y e g =
          let h : s.head.followed ≤ i = leb-true _ _ e in
          let n = insts_length s in
          by x y false (at i (board_in s)).waiting (le-ltb i (length (board_in s).insts) (omega arith)) refl
      go false w x y e g =
          let h : i < s.head.followed = leb-false _ _ e in
          let n = insts_length s in
          followed w x y h ∙ by x y true w (lt-ltb i (length (board_in s).insts) (omega arith)) (ap (λ (z : Inst). z.waiting) (at_board i s h) ∙ g)
        where
          followed : (w x y : Bool) → i < s.head.followed
              → meant (cond (eqb (cond w (cond x 7 (cond y 8 0)) 6) 0) (take_shown_s i S us s) (fed (cond w (cond x 7 (cond y 8 0)) 6) s))
              ≡ snap_by true w x y (too_wide (shown us)) i S (shown us) (board_in s)
          followed false x y h = refl
          followed true true y h = refl
          followed true false true h = refl
          followed true false false h = shown_board i h

  pub snap_board : (d : ℕ) → meant (snap_s d S us s) ≡ snap d S (shown us) (board_in s)
  unfolding snap_s snap
  snap_board d = at_index (look d (board_in s).insts)

  -- one that is not refused is followed
  pub not_refused : (i : ℕ) → refusal_of s.head i S ≡ 0 → i < s.head.followed
  unfolding refusal_of
  not_refused i = go (leb s.head.followed i) refl
    where
      go : (a : Bool) → leb s.head.followed i ≡ a
          → ◌≡◌ {A = ℕ} (cond a 5 (cond (marked s.head.marks i) (cond (ltb S s.head.base) 7 (cond (ltb s.head.number S) 8 0)) 6)) 0
          → i < s.head.followed
      go true e z = absurd (omega arith)
      go false e z = leb-false _ _ e

pub snap_canon : (d S : ℕ) (us : List Update) (s : State) → Canon s → Canon (snap_s d S us s).state
unfolding snap_s
snap_canon d S us s k =
    let f = k.formed in
    let i = look d (board_in s).insts in
    by_test (λ (o : FedS). Canon o.state) (eqb (refusal_of s.head i S) 0)
    (λ e. by_test (λ (o : FedS). Canon o.state) (too_wide (shown us)) (λ _. k)
    (λ w. take_canon s f i (not_refused S us s f i (eqb-true _ _ e)) S (book_of (shown us)) (narrow (shown us) w)))
    (λ _. k)
