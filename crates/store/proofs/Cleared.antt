-- What a gap leaves is document 01's: all Waiting with empty books, reasons kept, the queue emptied.
use mathlib.Core.Path.{◌≡◌, refl, sym, ◌∙◌}
use mathlib.Core.Bool.{true}
use mathlib.Core.List.{List, map}
use mathlib.Core.Logic.{inl, ⊎_elim}
use Prim.Native.Nat.{ℕ, ◌≤◌, ◌<◌}
use native.Mathlib.Omega.{arith}
use borrow.Author.Tests.{lt-ltb}
use lib.ListN.{length, get_or}
use lib.Seq.{sets}
use Rattle.book.specs.Sides.{no_book}
use Rattle.book.proofs.Canon.{kept_no_book}
use Rattle.cells.specs.Cells.{tab, zeros}
use Rattle.cells.proofs.Tables.{tab_ext, map_tab, in_zeros}
use Rattle.cells.proofs.Windows.{side_zeros}
use Rattle.heading.specs.Marks.{all_marks}
use Rattle.heading.proofs.Bits.{marked_all, all_lt}
use Rattle.board.specs.Count.{clear, cleared}
use Rattle.store.specs.Layout.{id_of, reason_of, bids_of, offers_of}
use Rattle.store.specs.Meaning.{book_at, inst_at, board_of, State, board_in}
use Rattle.store.specs.Canon.{Formed, Canon}
use Rattle.store.specs.Steps.{gap_s}
use Rattle.store.proofs.Regions.{Agree, agree_zeros, number_apart}
use Rattle.store.proofs.Decode.{inst_is}
use Rattle.store.proofs.Kept.{spare_agree}

module _ (xs : List ℕ) (long : 7168 ≤ length xs) where
  abbrev gone : List ℕ
  gone = sets xs 160 (zeros 6912)

  gone_agree : Agree 160 7072 xs gone
  gone_agree = agree_zeros xs 160 6912

  gone_book : (i : ℕ) → i < 16 → book_at gone i ≡ no_book
  gone_book i h =
      let e = side_zeros xs 160 6912 (bids_of i) (omega arith) (omega arith) (omega arith) in
      let f = side_zeros xs 160 6912 (offers_of i) (omega arith) (omega arith) (omega arith) in
      rw (e, f)

  gone_inst : (m k i : ℕ) → k ≤ 16 → i < k → inst_at (all_marks k) gone i ≡ clear (inst_at m xs i)
  unfolding inst_at
  gone_inst m k i h l =
      inst_is (all_marks k) gone i (get_or xs (id_of i) 0) (get_or xs (reason_of i) 0) true no_book
      (number_apart gone_agree (id_of i) (inl (omega arith)))
      (marked_all k i h (omega arith) ∙ lt-ltb i k l)
      (number_apart gone_agree (reason_of i) (inl (omega arith)))
      (gone_book i (omega arith))

-- the board
pub gap_board : (n : ℕ) (s : State) → Formed s → board_in (gap_s n s) ≡ cleared n (board_in s)
unfolding board_of tab
gap_board n s c =
    let k = s.head.followed in
    let e : tab (inst_at (all_marks k) (gap_s n s).store) k ≡ map clear (tab (inst_at s.head.marks s.store) k) =
    tab_ext _ _ k (λ i q. gone_inst s.store c.long s.head.marks k i c.few q)
    ∙ sym (map_tab clear (inst_at s.head.marks s.store) k) in
    rw e

pub gap_canon : (n : ℕ) (s : State) → Formed s → Canon (gap_s n s)
gap_canon n s c =
    let a = gone_agree s.store c.long in
    let f : Formed (gap_s n s) = record {
      long = rw a.long c.long;
      layout = a.outside 0 (inl (omega arith)) ∙ c.layout;
      some = c.some;
      few = c.few;
      marks = all_lt s.head.followed c.few;
      room = omega arith;
      books = λ i q. let l = c.few in rw (gone_book s.store c.long i (omega arith)) kept_no_book;
      spare =
          spare_agree s.head.followed s.head.queued s.head.followed 0 a c.spare
          (λ k l u o. record { head = u.head; record_of = u.record_of; side = u.side; slot = λ j q x y. let m = c.room in ⊎_elim (λ (z : k < 160). omega arith) (λ (z : 7072 ≤ k). omega arith) o })
          (λ k p o _ _. let l = c.long in in_zeros s.store 160 6912 k p o (omega arith));
    } in
    record { formed = f; idle = λ _. refl }
