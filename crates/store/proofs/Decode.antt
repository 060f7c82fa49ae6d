-- The instruments and the queue that are read from a store: each depends on its own numbers alone.
use mathlib.Core.Path.{◌≡◌}
use mathlib.Core.Bool.{Bool}
use mathlib.Core.List.{List}
use mathlib.Core.Logic.{inl, inr}
use Prim.Native.Nat.{ℕ, ◌+◌, ◌≤◌, ◌<◌}
use native.Mathlib.Nat.{add-zero}
use native.Mathlib.Omega.{arith}
use lib.ListN.{length, get_or}
use lib.Seq.{sets}
use Rattle.book.specs.declared.Side.{Side}
use Rattle.book.specs.declared.Book.{Book}
use Rattle.book.specs.declared.Update.{Update}
use Rattle.book.specs.Sides.{no_book}
use Rattle.book.specs.Canonical.{lists_in}
use Rattle.cells.specs.Cells.{tab, zeros, side_at, side_words, queued_words}
use Rattle.cells.proofs.Stores.{below_or, in_sets}
use Rattle.cells.proofs.Tables.{length_tab, get_d_tab, tab_ext, set_tab}
use Rattle.cells.proofs.Windows.{Same, same_first, same_part, side_ext, side_back, side_zeros, side_before, side_behind, length_side_words, update_ext, update_back}
use Rattle.heading.specs.Headings.{marks_now}
use Rattle.heading.specs.Marks.{marked}
use Rattle.board.specs.Board.{Inst, no_inst, at, put}
use Rattle.store.specs.Layout.{id_of, reason_of, bids_of, offers_of, slot_of}
use Rattle.store.specs.Meaning.{book_at, inst_at, queued_at, board_of, State, st, board_in}
use Rattle.store.proofs.Regions.{Agree, Apart, same_apart}

-- ---- one instrument

pub inst_is : (m : ℕ) (xs : List ℕ) (i d r : ℕ) (w : Bool) (b : Book) → get_or xs (id_of i) 0 ≡ d → marked m i ≡ w → get_or xs (reason_of i) 0 ≡ r → book_at xs i ≡ b
    → inst_at m xs i ≡ record { id = d; waiting = w; reason = r; book = lists_in b }
unfolding inst_at
inst_is m xs i d r w b p q s t = cc

book_ext : (xs ys : List ℕ) (i : ℕ) → Same 256 ys (bids_of i) xs (bids_of i) → book_at ys i ≡ book_at xs i
book_ext xs ys i s =
    let e : side_at ys (bids_of i) ≡ side_at xs (bids_of i) = side_ext ys (bids_of i) xs (bids_of i) (λ k l. s k (omega arith)) in
    let f : side_at ys (offers_of i) ≡ side_at xs (offers_of i) =
    side_ext ys (offers_of i) xs (offers_of i) (λ k l.
    let q : bids_of i + (128 + k) ≡ offers_of i + k = omega arith in
    rw q at (s (128 + k) (omega arith))) in
    cc

pub queued_ext : (xs ys : List ℕ) (k : ℕ) → Same 10 ys (slot_of k) xs (slot_of k) → queued_at ys k ≡ queued_at xs k
unfolding queued_at
queued_ext xs ys k s =
    rw (
      same_first 10 ys (slot_of k) xs (slot_of k) (omega arith) s,
      update_ext ys (slot_of k + 1) xs (slot_of k + 1) (same_part 10 1 9 ys (slot_of k) xs (slot_of k) (omega arith) s),
    )

-- a queued entry that was written is read again
pub queued_back : (xs : List ℕ) (k n : ℕ) (u : Update) → slot_of k + 10 ≤ length xs
    → queued_at (sets xs (slot_of k) (queued_words n u)) k ≡ record { number = n; update = u }
unfolding queued_at
queued_back xs k n u h =
    let e : get_or (sets xs (slot_of k) (queued_words n u)) (slot_of k) 0 ≡ n =
    rw add-zero at (in_sets 0 xs (slot_of k) (queued_words n u) 0 (omega arith) (omega arith)) in
    rw (e, update_back xs (slot_of k) n u h)

-- ---- what lies apart from a change

module _ {lo hi : ℕ} {xs ys : List ℕ} (a : Agree lo hi xs ys) where
  pub book_apart : (i : ℕ) → Apart (bids_of i) 256 lo hi → book_at ys i ≡ book_at xs i
  book_apart i o = book_ext xs ys i (same_apart a (bids_of i) 256 o)

  pub inst_apart : (m i : ℕ) → Apart (id_of i) 2 lo hi → Apart (bids_of i) 256 lo hi → inst_at m ys i ≡ inst_at m xs i
  unfolding inst_at
  inst_apart m i o p =
      let s : Same 2 ys (id_of i) xs (id_of i) = same_apart a (id_of i) 2 o in
      let q : id_of i + 1 ≡ reason_of i = omega arith in
      let f : get_or ys (id_of i) 0 ≡ get_or xs (id_of i) 0 = same_first 2 ys (id_of i) xs (id_of i) (omega arith) s in
      let g : get_or ys (reason_of i) 0 ≡ get_or xs (reason_of i) 0 = rw q at (s 1 (omega arith)) in
      let b : book_at ys i ≡ book_at xs i = book_apart i p in
      cc

  pub insts_apart : (m k : ℕ) → ((i : ℕ) → i < k → Apart (id_of i) 2 lo hi) → ((i : ℕ) → i < k → Apart (bids_of i) 256 lo hi)
      → tab (inst_at m ys) k ≡ tab (inst_at m xs) k
  insts_apart m k o p = tab_ext (inst_at m ys) (inst_at m xs) k (λ i l. inst_apart m i (o i l) (p i l))

  pub queue_apart : (k : ℕ) → ((j : ℕ) → j < k → Apart (slot_of j) 10 lo hi) → tab (queued_at ys) k ≡ tab (queued_at xs) k
  queue_apart k o = tab_ext (queued_at ys) (queued_at xs) k (λ j l. queued_ext xs ys j (same_apart a (slot_of j) 10 (o j l)))

  -- from the queue on, the instruments stay; before it, the queue stays
  pub insts_before : (m k : ℕ) → k ≤ 16 → 4256 ≤ lo → tab (inst_at m ys) k ≡ tab (inst_at m xs) k
  insts_before m k h l = insts_apart m k (λ i q. inl (omega arith)) (λ i q. inl (omega arith))

  pub queue_behind : (k : ℕ) → hi ≤ 4256 → tab (queued_at ys) k ≡ tab (queued_at xs) k
  queue_behind k h = queue_apart k (λ j q. inr (omega arith))

  -- in the book of i, the others stay
  pub inst_other : (m i j : ℕ) → bids_of i ≤ lo → hi ≤ bids_of i + 256 → j < 16 → (j ≡ i → ⊥) → inst_at m ys j ≡ inst_at m xs j
  inst_other m i j h l q n =
      inst_apart m j (inl (omega arith)) (below_or j i (λ (p : j < i). inl (omega arith)) (λ (p : i ≤ j). inr (below_or i j (λ (z : i < j). omega arith) (λ (z : j ≤ i). absurd (n (omega arith))))))

  pub book_other : (i j : ℕ) → bids_of i ≤ lo → hi ≤ bids_of i + 256 → (j ≡ i → ⊥) → book_at ys j ≡ book_at xs j
  book_other i j h l n =
      book_apart j (below_or j i (λ (p : j < i). inl (omega arith)) (λ (p : i ≤ j). inr (below_or i j (λ (z : i < j). omega arith) (λ (z : j ≤ i). absurd (n (omega arith))))))

-- ---- an instrument's own book

module _ (xs : List ℕ) (i : ℕ) (long : 7168 ≤ length xs) (few : i < 16) where
  pub own_bids : (t : Side) → length t.places ≡ 20 → book_at (sets xs (bids_of i) (side_words t)) i ≡ record { bids = t; offers = side_at xs (offers_of i) }
  own_bids t n =
      let e : side_at (sets xs (bids_of i) (side_words t)) (bids_of i) ≡ t = side_back xs (bids_of i) t n (omega arith) in
      let f : side_at (sets xs (bids_of i) (side_words t)) (offers_of i) ≡ side_at xs (offers_of i) =
      side_behind xs (bids_of i) (side_words t) (offers_of i) (omega (arith, length_side_words t n)) in
      cc

  pub own_offers : (t : Side) → length t.places ≡ 20 → book_at (sets xs (offers_of i) (side_words t)) i ≡ record { bids = side_at xs (bids_of i); offers = t }
  own_offers t n =
      let e : side_at (sets xs (offers_of i) (side_words t)) (offers_of i) ≡ t = side_back xs (offers_of i) t n (omega arith) in
      let f : side_at (sets xs (offers_of i) (side_words t)) (bids_of i) ≡ side_at xs (bids_of i) = side_before xs (offers_of i) (side_words t) (bids_of i) (omega arith) in
      cc

  pub own_zeros : book_at (sets xs (bids_of i) (zeros 256)) i ≡ no_book
  own_zeros =
      let e = side_zeros xs (bids_of i) 256 (bids_of i) (omega arith) (omega arith) (omega arith) in
      let f = side_zeros xs (bids_of i) 256 (offers_of i) (omega arith) (omega arith) (omega arith) in
      rw (e, f)

-- ---- the board

pub insts_length : (s : State) → length (board_in s).insts ≡ s.head.followed
unfolding board_of
insts_length s = length_tab (inst_at s.head.marks s.store) s.head.followed

pub queue_length : (s : State) → length (board_in s).queue ≡ s.head.queued
unfolding board_of
queue_length s = length_tab (queued_at s.store) s.head.queued

pub at_board : (i : ℕ) (s : State) → i < s.head.followed → at i (board_in s) ≡ inst_at s.head.marks s.store i
unfolding board_of
at_board i s h = get_d_tab no_inst (inst_at s.head.marks s.store) s.head.followed i h

-- a board with one instrument other
pub put_board : (i m : ℕ) (ys : List ℕ) (s : State) (x : Inst) → i < s.head.followed → s.head.followed ≤ 16 → inst_at m ys i ≡ x
    → ((j : ℕ) → j < 16 → (j ≡ i → ⊥) → inst_at m ys j ≡ inst_at s.head.marks s.store j)
    → tab (queued_at ys) s.head.queued ≡ tab (queued_at s.store) s.head.queued
    → board_in (st (marks_now s.head m) ys) ≡ put i x (board_in s)
unfolding board_of
put_board i m ys s x h l e o q =
    rw (q, set_tab no_inst (inst_at s.head.marks s.store) (inst_at m ys) s.head.followed i x h e (λ j p n. o j (omega arith) n))

-- other marks, the same for this one
pub inst_marks : (m w : ℕ) (xs : List ℕ) (i : ℕ) → marked m i ≡ marked w i → inst_at m xs i ≡ inst_at w xs i
unfolding inst_at
inst_marks m w xs i e = rw e
