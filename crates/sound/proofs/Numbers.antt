-- The 7,168 numbers of a board, by position.
use mathlib.Core.Path.{◌≡◌, refl, ◌∙◌}
use mathlib.Core.List.{List, ◌∷◌, ◌++◌}
use Prim.Native.Nat.{ℕ, ◌+◌, ◌*◌, ◌-◌, ◌≤◌, ◌<◌}
use native.Mathlib.Omega.{arith}
use lib.ListN.{length, get_or, length-append}
use Rattle.book.specs.declared.Entry.{Entry}
use Rattle.book.specs.Canonical.{side_of, book_of}
use Rattle.book.specs.Rules.{most_places}
use Rattle.book.proofs.Padding.{length_pad}
use Rattle.cells.specs.Cells.{zeros, side_words, side_size}
use Rattle.cells.proofs.Stores.{below_or}
use Rattle.cells.proofs.Tables.{length_zeros, get_d_zeros}
use Rattle.cells.proofs.Windows.{length_side_words}
use Rattle.board.specs.Board.{Inst, Queued, Board, no_inst}
use Rattle.loops.specs.Channel.{Channel}
use Rattle.store.specs.Layout.{layout_number, heading_spare, side_spare}
use Rattle.store.specs.Meaning.{head_words, heading_of, loop_words, record_words, book_words, slot_words, rows, written}
use Rattle.sound.proofs.Rows.{behind, before, in_zeros, length_rows, rows_in, rows_out}

-- ---- how many numbers a thing takes

pub length_side : (l : List Entry) → length (side_words (side_of l)) ≡ side_size
length_side l = length_side_words (side_of l) (length_pad most_places l)

length_record : (x : Inst) → length (record_words x) ≡ 8
length_record x = omega (arith, length_zeros 6)

length_book : (x : Inst) → length (book_words x) ≡ 256
length_book x =
    let e : length (book_words x) ≡ length (side_words (book_of x.book).bids) + (length (zeros side_spare) + (length (side_words (book_of x.book).offers) + length (zeros side_spare))) =
    simp length-append in
    omega (arith, e, length_zeros side_spare, length_side x.book.bids, length_side x.book.offers)

length_slot : (q : Queued) → length (slot_words q) ≡ 11
length_slot q = refl

-- ---- in a book's numbers: its bids, their spare numbers, its offers, theirs

module _ (x : Inst) where
  pub bids_in : (j : ℕ) → j < side_size → get_or (book_words x) j 0 ≡ get_or (side_words (side_of x.book.bids)) j 0
  bids_in j h = before (side_words (side_of x.book.bids)) _ side_size j (length_side x.book.bids) h

  past_bids : (j : ℕ) → get_or (book_words x) (side_size + j) 0 ≡ get_or (zeros side_spare ++ (side_words (book_of x.book).offers ++ zeros side_spare)) j 0
  past_bids j = behind (side_words (side_of x.book.bids)) _ side_size j (length_side x.book.bids)

  past_middle : (j : ℕ) → get_or (book_words x) (128 + j) 0 ≡ get_or (side_words (book_of x.book).offers ++ zeros side_spare) j 0
  past_middle j =
      let e : side_size + (side_spare + j) ≡ 128 + j = omega arith in
      rw e at (past_bids (side_spare + j) ∙ behind (zeros side_spare) (side_words (book_of x.book).offers ++ zeros side_spare) side_spare j (length_zeros side_spare))

  pub offers_in : (j : ℕ) → j < side_size → get_or (book_words x) (128 + j) 0 ≡ get_or (side_words (side_of x.book.offers)) j 0
  offers_in j h = past_middle j ∙ before (side_words (side_of x.book.offers)) (zeros side_spare) side_size j (length_side x.book.offers) h

  pub spare_in : (s j : ℕ) → s < 2 → side_size ≤ j → j < 128 → get_or (book_words x) (s * 128 + j) 0 ≡ 0
  spare_in s j h l m =
      below_or s 1
      (λ p.
      let e : side_size + (j - side_size) ≡ s * 128 + j = omega arith in
      rw e at (past_bids (j - side_size) ∙ in_zeros (side_words (book_of x.book).offers ++ zeros side_spare) side_spare (j - side_size) (omega arith)))
      (λ p.
      let e : 128 + (side_size + (j - side_size)) ≡ s * 128 + j = omega arith in
      rw e at (past_middle (side_size + (j - side_size)) ∙ behind (side_words (side_of x.book.offers)) (zeros side_spare) side_size (j - side_size) (length_side x.book.offers) ∙ get_d_zeros side_spare (j - side_size)))

-- ---- the whole

module _ (c : Channel) where
  abbrev b : Board
  b = c.board

  abbrev records : List ℕ
  records = rows record_words 8 16 b.insts

  abbrev books : List ℕ
  books = rows book_words 256 16 b.insts

  abbrev slots : List ℕ
  slots = rows slot_words 11 256 b.queue

  length_records : length records ≡ 128
  length_records = length_rows record_words 8 length_record 16 b.insts

  length_books : length books ≡ 4096
  length_books = length_rows book_words 256 length_book 16 b.insts

  length_slots : length slots ≡ 2816
  length_slots = length_rows slot_words 11 length_slot 256 b.queue

  abbrev rest : List ℕ
  rest = records ++ (books ++ (slots ++ zeros 96))

  pub length_written : length (written c) ≡ 7168
  unfolding written
  length_written =
      let e : length (zeros heading_spare ++ rest) ≡ length (zeros heading_spare) + (length records + (length books + (length slots + length (zeros 96)))) =
      simp length-append in
      omega (arith, e, length_zeros heading_spare, length_records, length_books, length_slots, length_zeros 96)

  past_heading : (k : ℕ) → get_or (written c) (8 + k) 0 ≡ get_or (loop_words c.loop ++ (zeros heading_spare ++ rest)) k 0
  unfolding written
  past_heading k = behind (layout_number ∷ head_words (heading_of b)) (loop_words c.loop ++ (zeros heading_spare ++ rest)) 8 k refl

  past_loop : (k : ℕ) → get_or (written c) (12 + k) 0 ≡ get_or (zeros heading_spare ++ rest) k 0
  past_loop k =
      let e : 8 + (4 + k) ≡ 12 + k = omega arith in
      rw e at (past_heading (4 + k) ∙ behind (loop_words c.loop) (zeros heading_spare ++ rest) 4 k refl)

  past_spare : (k : ℕ) → get_or (written c) (32 + k) 0 ≡ get_or rest k 0
  past_spare k =
      let e : 12 + (20 + k) ≡ 32 + k = omega arith in
      rw e at (past_loop (20 + k) ∙ behind (zeros heading_spare) rest 20 k (length_zeros heading_spare))

  past_records : (k : ℕ) → get_or (written c) (160 + k) 0 ≡ get_or (books ++ (slots ++ zeros 96)) k 0
  past_records k =
      let e : 32 + (128 + k) ≡ 160 + k = omega arith in
      rw e at (past_spare (128 + k) ∙ behind records (books ++ (slots ++ zeros 96)) 128 k length_records)

  past_books : (k : ℕ) → get_or (written c) (4256 + k) 0 ≡ get_or (slots ++ zeros 96) k 0
  past_books k =
      let e : 160 + (4096 + k) ≡ 4256 + k = omega arith in
      rw e at (past_records (4096 + k) ∙ behind books (slots ++ zeros 96) 4096 k length_books)

  -- the loop's record, and behind it
  pub loop_in : (k : ℕ) → k < 4 → get_or (written c) (8 + k) 0 ≡ get_or (loop_words c.loop) k 0
  loop_in k h = past_heading k ∙ before (loop_words c.loop) (zeros heading_spare ++ rest) 4 k refl h

  pub heading_zero : (k : ℕ) → 12 ≤ k → k < 32 → get_or (written c) k 0 ≡ 0
  heading_zero k h l =
      let e : 12 + (k - 12) ≡ k = omega arith in
      rw e at (past_loop (k - 12) ∙ in_zeros rest heading_spare (k - 12) (omega arith))

  -- number j of the record, the book and the slot i
  pub record_in : (i j : ℕ) → i < 16 → i < length b.insts → j < 8 → get_or (written c) (32 + i * 8 + j) 0 ≡ get_or (record_words (get_or b.insts i no_inst)) j 0
  record_in i j h l m =
      let e : 32 + (i * 8 + j) ≡ 32 + i * 8 + j = omega arith in
      rw e at (past_spare (i * 8 + j) ∙ before records (books ++ (slots ++ zeros 96)) 128 (i * 8 + j) length_records (omega arith)
      ∙ rows_in record_words 8 length_record 16 b.insts i j no_inst h l m)

  pub book_in : (i j : ℕ) → i < 16 → i < length b.insts → j < 256 → get_or (written c) (160 + i * 256 + j) 0 ≡ get_or (book_words (get_or b.insts i no_inst)) j 0
  book_in i j h l m =
      let e : 160 + (i * 256 + j) ≡ 160 + i * 256 + j = omega arith in
      rw e at (past_records (i * 256 + j) ∙ before books (slots ++ zeros 96) 4096 (i * 256 + j) length_books (omega arith)
      ∙ rows_in book_words 256 length_book 16 b.insts i j no_inst h l m)

  pub slot_in : (i j : ℕ) (d : Queued) → i < 256 → i < length b.queue → j < 11 → get_or (written c) (4256 + i * 11 + j) 0 ≡ get_or (slot_words (get_or b.queue i d)) j 0
  slot_in i j d h l m =
      let e : 4256 + (i * 11 + j) ≡ 4256 + i * 11 + j = omega arith in
      rw e at (past_books (i * 11 + j) ∙ before slots (zeros 96) 2816 (i * 11 + j) length_slots (omega arith)
      ∙ rows_in slot_words 11 length_slot 256 b.queue i j d h l m)

  -- behind the records, the books and the slots
  pub records_zero : (k : ℕ) → 32 + length b.insts * 8 ≤ k → k < 160 → get_or (written c) k 0 ≡ 0
  records_zero k h l =
      let e : 32 + (k - 32) ≡ k = omega arith in
      rw e at (past_spare (k - 32) ∙ before records (books ++ (slots ++ zeros 96)) 128 (k - 32) length_records (omega arith)
      ∙ rows_out record_words 8 length_record 16 b.insts (k - 32) (omega arith))

  pub books_zero : (k : ℕ) → 160 + length b.insts * 256 ≤ k → k < 4256 → get_or (written c) k 0 ≡ 0
  books_zero k h l =
      let e : 160 + (k - 160) ≡ k = omega arith in
      rw e at (past_records (k - 160) ∙ before books (slots ++ zeros 96) 4096 (k - 160) length_books (omega arith)
      ∙ rows_out book_words 256 length_book 16 b.insts (k - 160) (omega arith))

  pub slots_zero : (k : ℕ) → length b.queue ≤ 256 → 4256 + length b.queue * 11 ≤ k → k < 7168 → get_or (written c) k 0 ≡ 0
  slots_zero k r h l =
      let e : 4256 + (k - 4256) ≡ k = omega arith in
      rw e at (past_books (k - 4256)
      ∙ below_or (k - 4256) 2816
      (λ p. before slots (zeros 96) 2816 (k - 4256) length_slots p ∙ rows_out slot_words 11 length_slot 256 b.queue (k - 4256) (omega arith))
      (λ p.
      let f : 2816 + (k - 4256 - 2816) ≡ k - 4256 = omega arith in
      rw f at (behind slots (zeros 96) 2816 (k - 4256 - 2816) length_slots ∙ get_d_zeros 96 (k - 4256 - 2816))))
