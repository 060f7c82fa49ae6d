-- An instrument put Live in the store is put Live on the board, and leaves the store formed.
use mathlib.Core.Path.{◌≡◌, refl, sym, ap, ◌∙◌}
use mathlib.Core.Bool.{false}
use mathlib.Core.List.{List, [], ◌∷◌}
use mathlib.Core.Logic.{inl, inr}
use Prim.Native.Nat.{ℕ, ◌+◌, ◌*◌, ◌<◌, ◌^◌, ◌-◌}
use native.Mathlib.Nat.{lt_of_le_of_lt}
use native.Mathlib.Omega.{arith}
use lib.Bits.{and_le_l}
use lib.Seq.{sets, get_or-set_same}
use borrow.Author.Tests.{eq-eqb, ne_eqb}
use Rattle.book.specs.declared.Book.{Book}
use Rattle.book.specs.Canonical.{KeptBook, lists_in}
use Rattle.cells.specs.Cells.{side_at, side_words, side_size}
use Rattle.cells.proofs.Windows.{length_side_words}
use Rattle.heading.specs.Marks.{marked, without_mark}
use Rattle.heading.proofs.Bits.{marked_without_mark}
use Rattle.board.specs.Board.{at, put}
use Rattle.board.specs.Snapshot.{live}
use Rattle.store.specs.Layout.{id_of, reason_of, bids_of, offers_of}
use Rattle.store.specs.Meaning.{book_at, inst_at, State, st, board_in}
use Rattle.store.specs.Canon.{Formed}
use Rattle.store.proofs.Regions.{Agree, agree_sets, agree_wider, agree_then, number_apart}
use Rattle.store.proofs.Decode.{inst_is, inst_marks, inst_apart, inst_other, book_apart, own_bids, own_offers, queue_behind, at_board, put_board}
use Rattle.store.proofs.Kept.{formed_book, formed_reason}
use Rattle.deliver.proofs.Breaking.{record_apart}
use Rattle.taking.specs.Replays.{live_s}

unmark_own : (m i : ℕ) → i < 16 → marked (without_mark m i) i ≡ false
unmark_own m i h = marked_without_mark m i i h h ∙ rw (eq-eqb i i refl)

unmark_other : (m i j : ℕ) → i < 16 → j < 16 → (j ≡ i → ⊥) → marked (without_mark m i) j ≡ marked m j
unmark_other m i j h l n = marked_without_mark m i j h l ∙ rw (ne_eqb i j (λ e. n (sym e)))

unmark_lt : (m i k : ℕ) → m < 2 ^ k → without_mark m i < 2 ^ k
unfolding without_mark
unmark_lt m i k h = lt_of_le_of_lt (and_le_l m (65535 - 2 ^ i)) h

module _ (s : State) (f : Formed s) (i : ℕ) (l : i < s.head.followed) (b : Book) (k : KeptBook b) where
  few : i < 16
  few = let n = f.few in omega arith

  abbrev with_bids_lem : List ℕ
  with_bids_lem = sets s.store (bids_of i) (side_words b.bids)

  abbrev with_book_lem : List ℕ
  with_book_lem = sets with_bids_lem (offers_of i) (side_words b.offers)

  in_bids : Agree (bids_of i) (bids_of i + side_size) s.store with_bids_lem
  in_bids = agree_sets s.store (bids_of i) (side_words b.bids) side_size (length_side_words b.bids k.bids.full)

  in_offers : Agree (offers_of i) (offers_of i + side_size) with_bids_lem with_book_lem
  in_offers = agree_sets with_bids_lem (offers_of i) (side_words b.offers) side_size (length_side_words b.offers k.offers.full)

  in_book : Agree (bids_of i) (bids_of i + 256) s.store with_book_lem
  in_book =
      agree_then (agree_wider (bids_of i) (bids_of i + 256) (omega arith) (omega arith) in_bids)
      (agree_wider (bids_of i) (bids_of i + 256) (omega arith) (omega arith) in_offers)

  in_record : Agree (reason_of i) (reason_of i + 1) with_book_lem (live_s i b s).store
  in_record = agree_sets with_book_lem (reason_of i) (0 ∷ []) 1 refl

  half : book_at with_bids_lem i ≡ record { bids = b.bids; offers = side_at s.store (offers_of i) }
  half = own_bids s.store i f.long few b.bids k.bids.full

  whole : book_at with_book_lem i ≡ b
  whole =
      own_offers with_bids_lem i (rw in_bids.long f.long) few b.offers k.offers.full
      ∙ ap (λ (x : Book). record { bids = x.bids; offers = b.offers }) half

  pub live_formed : Formed (live_s i b s)
  live_formed =
      let h = few in
      let e : Formed (st s.head with_bids_lem) =
      formed_book s i f l (omega arith) (omega arith) in_bids (λ j p o u. absurd (u.side (i * 2) (omega arith) (omega arith) (omega arith)))
      (rw half (record { bids = k.bids; offers = (f.books i l).offers })) in
      let g : Formed (st s.head with_book_lem) =
      formed_book (st s.head with_bids_lem) i e l (omega arith) (omega arith) in_offers
      (λ j p o u. absurd (u.side (i * 2 + 1) (omega arith) (omega arith) (omega arith))) (rw whole k) in
      formed_reason (st s.head with_book_lem) i (without_mark s.head.marks i) g l in_record (unmark_lt s.head.marks i s.head.followed f.marks)

  pub live_board : board_in (live_s i b s) ≡ put i (live (at i (board_in s)) (lists_in b)) (board_in s)
  unfolding inst_at
  live_board =
      let h = few in
      let long = f.long in
      let m = s.head.marks in
      let n = in_book.long in
      let ys = (live_s i b s).store in
      rw (at_board i s l) (put_board i (without_mark m i) ys s _ l f.few
      (inst_is (without_mark m i) ys i _ 0 false b
      (number_apart in_record (id_of i) (inl (omega arith)) ∙ number_apart in_book (id_of i) (inl (omega arith)))
      (unmark_own m i few)
      (get_or-set_same with_book_lem (reason_of i) 0 0 (omega arith))
      (book_apart in_record i (inr (omega arith)) ∙ whole))
      (λ j q o.
      inst_marks (without_mark m i) m ys j (unmark_other m i j few q o) ∙ inst_apart in_record m j (record_apart i j o) (inr (omega arith))
      ∙ inst_other in_book m i j (omega arith) (omega arith) q o)
      (queue_behind in_record s.head.queued (omega arith) ∙ queue_behind in_book s.head.queued (omega arith)))
