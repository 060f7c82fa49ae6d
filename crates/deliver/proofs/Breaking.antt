-- A break in the store is the break on the board, and leaves the store formed.
use mathlib.Core.Path.{◌≡◌, refl, sym, ◌∙◌}
use mathlib.Core.Bool.{true}
use mathlib.Core.List.{List, [], ◌∷◌}
use mathlib.Core.Logic.{inl, inr}
use Prim.Native.Nat.{ℕ, ◌+◌, ◌≤◌, ◌<◌, ◌^◌}
use native.Mathlib.Omega.{arith}
use lib.Bits.{or_add_and, and_le_r}
use lib.Seq.{sets, get_or-set_same}
use borrow.Author.Tests.{ne_eqb}
use Rattle.book.specs.Sides.{no_book}
use Rattle.book.proofs.Canon.{kept_no_book}
use Rattle.cells.specs.Cells.{zeros}
use Rattle.cells.proofs.Stores.{below_or}
use Rattle.cells.proofs.Tables.{in_zeros}
use Rattle.heading.specs.Marks.{marked, with_mark}
use Rattle.heading.proofs.Bits.{marked_with, mark_own, mark_lt}
use Rattle.board.specs.Board.{at, put, broken}
use Rattle.store.specs.Layout.{id_of, reason_of, bids_of}
use Rattle.store.specs.Meaning.{inst_at, State, st, board_in}
use Rattle.store.specs.Canon.{Formed}
use Rattle.store.proofs.Regions.{Agree, Apart, agree_sets, agree_zeros, number_apart}
use Rattle.store.proofs.Decode.{inst_is, inst_marks, inst_apart, inst_other, book_apart, own_zeros, queue_behind, at_board, put_board}
use Rattle.store.proofs.Kept.{formed_book, formed_reason}
use Rattle.deliver.specs.Gives.{break_s}

-- a mark is set: the others stay, and the number is not 0 where it was not
pub mark_other : (m i j : ℕ) → i < 16 → j < 16 → (j ≡ i → ⊥) → marked (with_mark m i) j ≡ marked m j
mark_other m i j h l n = marked_with m i j h l ∙ rw (ne_eqb i j (λ e. n (sym e)))

pub mark_stays : (m i : ℕ) → with_mark m i ≡ 0 → m ≡ 0
unfolding with_mark
mark_stays m i e = omega (arith, or_add_and m (2 ^ i), and_le_r m (2 ^ i))

-- the record of i lies apart from the reason of another
pub record_apart : (i j : ℕ) → (j ≡ i → ⊥) → Apart (id_of j) 2 (reason_of i) (reason_of i + 1)
record_apart i j n = below_or j i (λ (p : j < i). inl (omega arith)) (λ (p : i ≤ j). inr (below_or i j (λ (z : i < j). omega arith) (λ (z : j ≤ i). absurd (n (omega arith)))))

module _ (s : State) (f : Formed s) (i : ℕ) (l : i < s.head.followed) (r : ℕ) where
  abbrev emptied : List ℕ
  emptied = sets s.store (bids_of i) (zeros 256)

  few : i < 16
  few = let n = f.few in omega arith

  in_book : Agree (bids_of i) (bids_of i + 256) s.store emptied
  in_book = agree_zeros s.store (bids_of i) 256

  in_record : Agree (reason_of i) (reason_of i + 1) emptied (break_s i r s).store
  in_record = agree_sets emptied (reason_of i) (r ∷ []) 1 refl

  pub break_formed : Formed (break_s i r s)
  break_formed =
      let h = few in
      let long = f.long in
      let e : Formed (st s.head emptied) =
      formed_book s i f l (omega arith) (omega arith) in_book (λ k p o _. in_zeros s.store (bids_of i) 256 k p o (omega arith))
      (rw (own_zeros s.store i f.long few) kept_no_book) in
      formed_reason (st s.head emptied) i (with_mark s.head.marks i) e l in_record (mark_lt s.head.marks i s.head.followed l f.marks)

  pub break_board : board_in (break_s i r s) ≡ put i (broken (at i (board_in s)) r) (board_in s)
  unfolding inst_at
  break_board =
      let h = few in
      let long = f.long in
      let m = s.head.marks in
      let n = in_book.long in
      let ys = (break_s i r s).store in
      rw (at_board i s l) (put_board i (with_mark m i) ys s _ l f.few
      (inst_is (with_mark m i) ys i _ r true no_book
      (number_apart in_record (id_of i) (inl (omega arith)) ∙ number_apart in_book (id_of i) (inl (omega arith)))
      (mark_own m i few)
      (get_or-set_same emptied (reason_of i) r 0 (omega arith))
      (book_apart in_record i (inr (omega arith)) ∙ own_zeros s.store i f.long few))
      (λ j q o.
      inst_marks (with_mark m i) m ys j (mark_other m i j few q o) ∙ inst_apart in_record m j (record_apart i j o) (inr (omega arith))
      ∙ inst_other in_book m i j (omega arith) (omega arith) q o)
      (queue_behind in_record s.head.queued (omega arith) ∙ queue_behind in_book s.head.queued (omega arith)))
