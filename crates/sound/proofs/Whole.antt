-- A formed store holds the numbers of the channel that it is read as.
use mathlib.Core.Path.{◌≡◌, refl, sym, ap, ◌∙◌}
use mathlib.Core.List.{List, [], ◌∷◌}
use Prim.Native.Nat.{ℕ, zero, suc, ◌+◌, ◌*◌, ◌-◌, ◌/◌, ◌%◌, ◌≤◌, ◌<◌}
use native.Mathlib.Nat.{add-zero}
use native.Mathlib.Omega.{arith}
use lib.ListN.{length, get_or}
use Rattle.book.specs.declared.Side.{Side}
use Rattle.book.specs.Canonical.{side_of}
use Rattle.book.proofs.Canon.{kept_is}
use Rattle.cells.specs.Cells.{side_at, side_words, update_at, update_words, side_size}
use Rattle.cells.proofs.Stores.{below_or}
use Rattle.cells.proofs.Tables.{get_d_tab, get_d_zeros}
use Rattle.cells.proofs.Windows.{side_numbers, update_numbers}
use Rattle.board.specs.Board.{Inst, Queued, Board, no_inst}
use Rattle.loops.specs.Channel.{Channel}
use Rattle.store.specs.Layout.{bids_of, offers_of, slot_of}
use Rattle.store.specs.Meaning.{inst_at, queued_at, board_of, board_at, loop_at, loop_words, channel_at, record_words, book_words, slot_words, loaded, written}
use Rattle.store.specs.Canon.{Formed}
use Rattle.store.proofs.Decode.{insts_length, queue_length, at_board}
use Rattle.sound.proofs.Rows.{before}
use Rattle.sound.proofs.Marks.{marks_back}
use Rattle.sound.proofs.Zeros.{Zeros, zeros_of}
use Rattle.sound.proofs.Numbers.{bids_in, offers_in, spare_in, loop_in, heading_zero, record_in, book_in, slot_in, records_zero, books_zero, slots_zero}
use Rattle.sound.proofs.Back.{Holds, no_queued}

module _ (xs : List ℕ) (f : Formed (loaded xs)) where
  abbrev b : Board
  b = board_at xs

  abbrev c : Channel
  c = channel_at xs

  abbrev n : ℕ
  n = get_or xs 2 0

  abbrev m : ℕ
  m = get_or xs 6 0

  abbrev q : ℕ
  q = get_or xs 7 0

  followed : length b.insts ≡ n
  followed = insts_length (loaded xs)

  queued : length b.queue ≡ q
  queued = queue_length (loaded xs)

  inst : (i : ℕ) → i < n → get_or b.insts i no_inst ≡ inst_at m xs i
  inst i h = at_board i (loaded xs) h

  slot : (i : ℕ) → i < q → get_or b.queue i no_queued ≡ queued_at xs i
  unfolding board_of
  slot i h = get_d_tab no_queued (queued_at xs) q i h

  zeros : Zeros n q xs
  zeros = zeros_of n q xs f.few f.room f.spare

  -- ---- each thing's numbers, from where they were read

  heading_numbers : (k : ℕ) → k < 8 → get_or xs k 0 ≡ get_or (written c) k 0
  unfolding written board_of
  heading_numbers zero h = f.layout
  heading_numbers (suc zero) h = refl
  heading_numbers (suc (suc zero)) h = sym followed
  heading_numbers (suc (suc (suc zero))) h = refl
  heading_numbers (suc (suc (suc (suc zero)))) h = refl
  heading_numbers (suc (suc (suc (suc (suc zero))))) h = refl
  heading_numbers (suc (suc (suc (suc (suc (suc zero)))))) h = sym (marks_back m xs n f.marks)
  heading_numbers (suc (suc (suc (suc (suc (suc (suc zero))))))) h = sym queued
  heading_numbers (suc (suc (suc (suc (suc (suc (suc (suc k)))))))) h = absurd (omega arith)

  loop_numbers : (k : ℕ) → 8 ≤ k → k < 12 → get_or xs k 0 ≡ get_or (written c) k 0
  loop_numbers k h l =
      let e : 8 + (k - 8) ≡ k = omega arith in
      rw e at (words (k - 8) (omega arith) ∙ sym (loop_in c (k - 8) (omega arith)))
    where
      words : (j : ℕ) → j < 4 → get_or xs (8 + j) 0 ≡ get_or (loop_words (loop_at xs)) j 0
      words zero h = refl
      words (suc zero) h = refl
      words (suc (suc zero)) h = refl
      words (suc (suc (suc zero))) h = refl
      words (suc (suc (suc (suc j)))) h = absurd (omega arith)

  record_numbers : (i j : ℕ) → i < n → j < 8 → get_or xs (32 + i * 8 + j) 0 ≡ get_or (record_words (inst_at m xs i)) j 0
  unfolding inst_at
  record_numbers i zero h l = rw add-zero
  record_numbers i (suc zero) h l = ap (λ (k : ℕ). get_or xs k 0) (omega arith)
  record_numbers i (suc (suc j)) h l = zeros.in_record i (suc (suc j)) h (omega arith) l ∙ sym (get_d_zeros 6 j)

  bids_is : (i : ℕ) → i < n → side_at xs (bids_of i) ≡ side_of (inst_at m xs i).book.bids
  unfolding inst_at
  bids_is i h = kept_is (side_at xs (bids_of i)) (f.books i h).bids

  offers_is : (i : ℕ) → i < n → side_at xs (offers_of i) ≡ side_of (inst_at m xs i).book.offers
  unfolding inst_at
  offers_is i h = kept_is (side_at xs (offers_of i)) (f.books i h).offers

  book_numbers : (i j : ℕ) → i < n → j < 256 → get_or xs (160 + i * 256 + j) 0 ≡ get_or (book_words (inst_at m xs i)) j 0
  book_numbers i j h l =
      below_or j side_size
      (λ p. sym (side_numbers xs (bids_of i) j p) ∙ ap (λ (s : Side). get_or (side_words s) j 0) (bids_is i h) ∙ sym (bids_in (inst_at m xs i) j p))
      (λ p. below_or j 128
      (λ o.
      let e : 160 + i * 2 * 128 + j ≡ 160 + i * 256 + j = omega arith in
      let g : 0 * 128 + j ≡ j = omega arith in
      rw e at (zeros.in_side (i * 2) j (omega arith) p o) ∙ sym (rw g at (spare_in (inst_at m xs i) 0 j (omega arith) p o)))
      (λ o. below_or j 229
      (λ r.
      let e : offers_of i + (j - 128) ≡ 160 + i * 256 + j = omega arith in
      let g : 128 + (j - 128) ≡ j = omega arith in
      rw e at (sym (side_numbers xs (offers_of i) (j - 128) (omega arith)))
      ∙ ap (λ (s : Side). get_or (side_words s) (j - 128) 0) (offers_is i h) ∙ sym (rw g at (offers_in (inst_at m xs i) (j - 128) (omega arith))))
      (λ r.
      let e : 160 + (i * 2 + 1) * 128 + (j - 128) ≡ 160 + i * 256 + j = omega arith in
      let g : 1 * 128 + (j - 128) ≡ j = omega arith in
      rw e at (zeros.in_side (i * 2 + 1) (j - 128) (omega arith) (omega arith) (omega arith))
      ∙ sym (rw g at (spare_in (inst_at m xs i) 1 (j - 128) (omega arith) (omega arith) (omega arith))))))

  slot_numbers : (i j : ℕ) → i < q → j < 11 → get_or xs (4256 + i * 11 + j) 0 ≡ get_or (slot_words (queued_at xs i)) j 0
  unfolding queued_at
  slot_numbers i zero h l = rw add-zero
  slot_numbers i (suc j) h l =
      below_or j 9
      (λ p.
      let e : slot_of i + 1 + j ≡ 4256 + i * 11 + suc j = omega arith in
      rw e at (sym (update_numbers xs (slot_of i + 1) j p)) ∙ sym (before (update_words (update_at xs (slot_of i + 1))) (0 ∷ []) 9 j refl p))
      (λ p.
      let e : j ≡ 9 = omega arith in
      rw e (zeros.in_slot i h))

  -- ---- so the whole

  in_records : (k : ℕ) → 32 ≤ k → k < 32 + n * 8 → get_or xs k 0 ≡ get_or (written c) k 0
  in_records k h l =
      let i = (k - 32) / 8 in
      let j = (k - 32) % 8 in
      let e : 32 + i * 8 + j ≡ k = omega arith in
      let o : i < n = omega arith in
      rw e at (record_numbers i j o (omega arith) ∙ ap (λ (x : Inst). get_or (record_words x) j 0) (sym (inst i o))
      ∙ sym (record_in c i j (omega (arith, f.few)) (omega (arith, followed)) (omega arith)))

  in_books : (k : ℕ) → 160 ≤ k → k < 160 + n * 256 → get_or xs k 0 ≡ get_or (written c) k 0
  in_books k h l =
      let i = (k - 160) / 256 in
      let j = (k - 160) % 256 in
      let e : 160 + i * 256 + j ≡ k = omega arith in
      let o : i < n = omega arith in
      rw e at (book_numbers i j o (omega arith) ∙ ap (λ (x : Inst). get_or (book_words x) j 0) (sym (inst i o))
      ∙ sym (book_in c i j (omega (arith, f.few)) (omega (arith, followed)) (omega arith)))

  in_slots : (k : ℕ) → 4256 ≤ k → k < 4256 + q * 11 → get_or xs k 0 ≡ get_or (written c) k 0
  in_slots k h l =
      let i = (k - 4256) / 11 in
      let j = (k - 4256) % 11 in
      let e : 4256 + i * 11 + j ≡ k = omega arith in
      let o : i < q = omega arith in
      rw e at (slot_numbers i j o (omega arith) ∙ ap (λ (x : Queued). get_or (slot_words x) j 0) (sym (slot i o))
      ∙ sym (slot_in c i j no_queued (omega (arith, f.room)) (omega (arith, queued)) (omega arith)))

  pub whole : Holds xs (channel_at xs)
  whole k l =
      below_or k 8 (λ p. heading_numbers k p) (λ p.
      below_or k 12 (λ o. loop_numbers k p o) (λ p.
      below_or k 32 (λ o. zeros.heading k p o ∙ sym (heading_zero c k p o)) (λ o.
      below_or k (32 + n * 8) (λ h. in_records k o h) (λ h.
      below_or k 160 (λ g. zeros.records k h g ∙ sym (records_zero c k (omega (arith, followed)) g)) (λ g.
      below_or k (160 + n * 256) (λ d. in_books k g d) (λ d.
      below_or k 4256 (λ t. zeros.sides k d t ∙ sym (books_zero c k (omega (arith, followed)) t)) (λ t.
      below_or k (4256 + q * 11) (λ s. in_slots k t s) (λ s.
      zeros.queue k s l ∙ sym (slots_zero c k (omega (arith, queued, f.room)) (omega (arith, queued)) l)))))))))
