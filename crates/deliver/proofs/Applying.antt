-- The book of an instrument takes an entry in the store: only its own numbers change, to those of the book after the entry.
use mathlib.Core.Path.{◌≡◌, refl, sym, ◌∙◌}
use mathlib.Core.Bool.{Bool, true, false}
use mathlib.Core.List.{List}
use mathlib.Core.Logic.{inl}
use Prim.Native.Nat.{ℕ, ◌+◌, ◌*◌, ◌<◌}
use native.Mathlib.Omega.{arith}
use lib.Dec.{eqb}
use lib.ListN.{length}
use lib.Seq.{sets}
use Rattle.book.specs.declared.Book.{Book}
use Rattle.book.specs.declared.Update.{Update}
use Rattle.book.specs.Rules.{Lists}
use Rattle.book.specs.Sides.{Turn, no_book, book_step}
use Rattle.book.specs.Canonical.{KeptBook, lists_in}
use borrow.Author.Tests.{eqb-true}
use Rattle.book.proofs.Untouched.{a_bid, an_offer}
use Rattle.book.proofs.Keeping.{kept_side, kept_apply}
use Rattle.cells.specs.Cells.{side_at, side_words, side_size}
use Rattle.cells.proofs.Tables.{in_zeros}
use Rattle.cells.proofs.Windows.{length_side_words}
use Rattle.board.specs.Board.{Inst, at, put}
use Rattle.store.specs.Layout.{id_of, reason_of, bids_of, offers_of}
use Rattle.store.specs.Meaning.{book_at, inst_at, State, st, board_in}
use Rattle.store.specs.Canon.{Spare, Formed}
use Rattle.store.proofs.Regions.{Agree, agree_sets, agree_zeros, agree_wider, number_apart}
use Rattle.store.proofs.Decode.{inst_is, inst_other, own_bids, own_offers, own_zeros, queue_behind, at_board, put_board}
use Rattle.store.proofs.Kept.{spare_agree, formed_book}
use Rattle.deliver.specs.Gives.{Taken, worked, apply_s}

-- what the store t is to the store xs whose book i it changed
pub record Applies (f q i : ℕ) (u : Update) (xs : List ℕ) (t : Taken) : Type 0 where
  pub agree : Agree (bids_of i) (bids_of i + 256) xs t.store
  pub turn : book_step (book_at xs i) u ≡ record { book = book_at t.store i; reason = t.reason }
  pub spare : Spare f q t.store

-- an instrument with another book
abbrev pub with_book : Inst → Lists → Inst
with_book x l = record { id = x.id; waiting = x.waiting; reason = x.reason; book = l }

turn_by : {a b : Book} {r : ℕ} → a ≡ b → ◌≡◌ {A = Turn} (record { book = a; reason = r }) (record { book = b; reason = r })
turn_by h = cc

j_step : (b : Book) (u : Update) → eqb u.what 0 ≡ false → eqb u.what 1 ≡ false → book_step b u ≡ record { book = no_book; reason = 0 }
unfolding book_step
j_step b u e g = rw (e, g)

module _ (s : State) (f : Formed s) (i : ℕ) (l : i < s.head.followed) (u : Update) where
  few : i < 16
  few = let n = f.few in omega arith

  -- the j-th side of the store, written whole
  side_spare_lem : (j : ℕ) (ws : List ℕ) → j < s.head.followed * 2 → length ws ≡ side_size → Spare s.head.followed s.head.queued (sets s.store (160 + j * 128) ws)
  side_spare_lem j ws h n =
      spare_agree s.head.followed s.head.queued s.head.followed s.head.queued (agree_sets s.store (160 + j * 128) ws side_size n) f.spare (λ k _ v _. v)
      (λ k p o _ v. absurd (v.side j h p (omega arith)))

  pub applies : Applies s.head.followed s.head.queued i u s.store (apply_s i u s.store)
  unfolding apply_s
  applies = go (eqb u.what 0) (eqb u.what 1) refl refl
    where
      go : (a b : Bool) → eqb u.what 0 ≡ a → eqb u.what 1 ≡ b → Applies s.head.followed s.head.queued i u s.store (apply_s i u s.store)
      go true b e g =
          let d = worked (side_at s.store (bids_of i)) u in
          let n : length d.side.places ≡ 20 = (kept_side (side_at s.store (bids_of i)) (f.books i l).bids u.action u.place u.entry).full in
          let m = length_side_words d.side n in
          let w : 160 + i * 2 * 128 ≡ bids_of i = omega arith in
          rw e (record {
            agree = agree_wider (bids_of i) (bids_of i + 256) (omega arith) (omega arith) (agree_sets s.store (bids_of i) (side_words d.side) side_size m);
            turn = a_bid (book_at s.store i) u (eqb-true _ _ e) ∙ turn_by (sym (own_bids s.store i f.long few d.side n));
            spare = rw w at (side_spare_lem (i * 2) (side_words d.side) (omega arith) m);
          })
      go false true e g =
          let d = worked (side_at s.store (offers_of i)) u in
          let n : length d.side.places ≡ 20 = (kept_side (side_at s.store (offers_of i)) (f.books i l).offers u.action u.place u.entry).full in
          let m = length_side_words d.side n in
          let w : 160 + (i * 2 + 1) * 128 ≡ offers_of i = omega arith in
          rw (e, g) (record {
            agree = agree_wider (bids_of i) (bids_of i + 256) (omega arith) (omega arith) (agree_sets s.store (offers_of i) (side_words d.side) side_size m);
            turn = an_offer (book_at s.store i) u (eqb-true _ _ g) ∙ turn_by (sym (own_offers s.store i f.long few d.side n));
            spare = rw w at (side_spare_lem (i * 2 + 1) (side_words d.side) (omega arith) m);
          })
      go false false e g =
          let a = agree_zeros s.store (bids_of i) 256 in
          let long = f.long in
          let h = few in
          rw (e, g) (record {
            agree = a;
            turn = j_step (book_at s.store i) u e g ∙ turn_by (sym (own_zeros s.store i f.long few));
            spare =
                spare_agree s.head.followed s.head.queued s.head.followed s.head.queued a f.spare (λ k _ v _. v)
                (λ k p o _ _. in_zeros s.store (bids_of i) 256 k p o (omega arith));
          })

  abbrev after : State
  after = st s.head (apply_s i u s.store).store

  kept_after : KeptBook (book_at after.store i)
  kept_after = rw applies.turn at (kept_apply (book_at s.store i) (f.books i l) u)

  pub apply_formed : Formed after
  apply_formed =
      let h = few in
      formed_book s i f l (omega arith) (omega arith) applies.agree (λ k p o v. applies.spare k (omega arith) v) kept_after

  pub apply_board : board_in after ≡ put i (with_book (at i (board_in s)) (lists_in (book_at after.store i))) (board_in s)
  unfolding inst_at
  apply_board =
      let h = few in
      let a = applies.agree in
      let m = s.head.marks in
      rw (at_board i s l) (put_board i m after.store s _ l f.few
      (inst_is m after.store i _ _ _ _ (number_apart a (id_of i) (inl (omega arith))) refl (number_apart a (reason_of i) (inl (omega arith))) refl)
      (λ j q n. inst_other a m i j (omega arith) (omega arith) q n)
      (queue_behind a s.head.queued (omega arith)))
