-- A store that holds the numbers of a channel is read as that channel, and what it doesn't use is zero.
use mathlib.Core.Path.{◌≡◌, sym, ap, ◌∙◌}
use mathlib.Core.Bool.{false}
use mathlib.Core.List.{List, []}
use Prim.Native.Nat.{ℕ, zero, suc, ◌+◌, ◌*◌, ◌/◌, ◌%◌, ◌≤◌, ◌<◌}
use native.Mathlib.Nat.{add-zero}
use native.Mathlib.Omega.{arith}
use lib.ListN.{length, get_or}
use lib.Seq.{ext_get_or}
use Rattle.book.specs.declared.Entry.{Entry}
use Rattle.book.specs.Rules.{Lists, most_places}
use Rattle.book.specs.Canonical.{side_of, lists_in, book_of}
use Rattle.book.proofs.Canon.{held_of, kept_book_of}
use Rattle.book.proofs.Padding.{length_pad}
use Rattle.cells.specs.Cells.{tab, side_at, side_words, update_at}
use Rattle.cells.proofs.Tables.{length_tab, get_d_tab, get_d_zeros}
use Rattle.cells.proofs.Windows.{side_ext, side_words_lem, update_ext, update_words_lem}
use Rattle.heading.specs.declared.Heading.{Heading}
use Rattle.board.specs.Board.{Inst, Queued, Board, no_inst, any_waiting}
use Rattle.board.specs.Sound.{SoundInst, Sound}
use Rattle.board.proofs.Each.{each_at}
use Rattle.loops.specs.Channel.{Channel}
use Rattle.store.specs.Layout.{layout_number, id_of, reason_of, bids_of, offers_of, slot_of}
use Rattle.store.specs.Meaning.{heading_at, heading_of, loop_at, loop_words, channel_at, book_at, inst_at, queued_at, board_of, board_at, record_words, slot_words, marks_of, loaded, written}
use Rattle.store.specs.Canon.{Formed, Canon}
use Rattle.store.proofs.Decode.{inst_is, queue_length}
use borrow.Author.Tests.{eq-eqb}
use Rattle.store.proofs.Marked.{any_board}
use Rattle.sound.proofs.Marks.{marked_waits, marks_lt}
use Rattle.sound.proofs.Zeros.{Zeros, spare_of}
use Rattle.sound.proofs.Numbers.{bids_in, offers_in, spare_in, loop_in, heading_zero, record_in, book_in, slot_in, records_zero, books_zero, slots_zero}

-- the store holds the channel's numbers
abbrev pub Holds : List ℕ → Channel → Type 0
Holds xs c = (k : ℕ) → k < 7168 → get_or xs k 0 ≡ get_or (written c) k 0

abbrev pub no_queued : Queued
no_queued = record { number = 0; update = update_at [] 0 }

-- a list by its values
pub tab_is : {A : Type 0} (d : A) (f : ℕ → A) (l : List A) → ((i : ℕ) → i < length l → f i ≡ get_or l i d) → tab f (length l) ≡ l
tab_is d f l h =
    ext_get_or d (tab f (length l)) l (length_tab f (length l)) (λ i q.
    let p : i < length l = omega (arith, length_tab f (length l)) in
    get_d_tab d f (length l) i p ∙ h i p)

module _ (xs : List ℕ) (c : Channel) (h : Holds xs c) (few : length c.board.insts ≤ 16) (room : length c.board.queue ≤ 256) where
  abbrev b : Board
  b = c.board

  pub heading_back : heading_at xs ≡ heading_of b
  unfolding written
  heading_back =
      rw (h 1 (omega arith), h 2 (omega arith), h 3 (omega arith), h 4 (omega arith), h 5 (omega arith), h 6 (omega arith), h 7 (omega arith))

  pub loop_back : loop_at xs ≡ c.loop
  loop_back =
      let g : (k : ℕ) → k < 4 → get_or xs (8 + k) 0 ≡ get_or (loop_words c.loop) k 0 = λ k l. h (8 + k) (omega arith) ∙ loop_in c k l in
      rw (g 0 (omega arith), g 1 (omega arith), g 2 (omega arith), g 3 (omega arith))

  pub layout_back : get_or xs 0 0 ≡ layout_number
  unfolding written
  layout_back = h 0 (omega arith)

  module _ (i : ℕ) (l : i < length b.insts) where
    pub id_back : get_or xs (id_of i) 0 ≡ (get_or b.insts i no_inst).id
    id_back = h (id_of i) (omega arith) ∙ rw add-zero at (record_in c i 0 (omega arith) l (omega arith))

    pub reason_back : get_or xs (reason_of i) 0 ≡ (get_or b.insts i no_inst).reason
    reason_back =
        let e : 32 + i * 8 + 1 ≡ reason_of i = omega arith in
        h (reason_of i) (omega arith) ∙ rw e at (record_in c i 1 (omega arith) l (omega arith))

    pub bids_back : side_at xs (bids_of i) ≡ side_of (get_or b.insts i no_inst).book.bids
    bids_back =
        let s = side_of (get_or b.insts i no_inst).book.bids in
        side_ext xs (bids_of i) (side_words s) 0 (λ k m.
        let e : 0 + k ≡ k = omega arith in
        h (bids_of i + k) (omega arith) ∙ book_in c i k (omega arith) l (omega arith) ∙ bids_in (get_or b.insts i no_inst) k m ∙ ap (λ (t : ℕ). get_or (side_words s) t 0) (sym e))
        ∙ side_words_lem s (length_pad most_places _)

    pub offers_back : side_at xs (offers_of i) ≡ side_of (get_or b.insts i no_inst).book.offers
    offers_back =
        let s = side_of (get_or b.insts i no_inst).book.offers in
        side_ext xs (offers_of i) (side_words s) 0 (λ k m.
        let e : 0 + k ≡ k = omega arith in
        let f : 160 + i * 256 + (128 + k) ≡ offers_of i + k = omega arith in
        h (offers_of i + k) (omega arith) ∙ rw f at (book_in c i (128 + k) (omega arith) l (omega arith)) ∙ offers_in (get_or b.insts i no_inst) k m ∙ ap (λ (t : ℕ). get_or (side_words s) t 0) (sym e))
        ∙ side_words_lem s (length_pad most_places _)

    pub book_back : book_at xs i ≡ book_of (get_or b.insts i no_inst).book
    book_back = rw (bids_back, offers_back)

  pub queued_back : (i : ℕ) → i < length b.queue → queued_at xs i ≡ get_or b.queue i no_queued
  unfolding queued_at
  queued_back i l =
      let q = get_or b.queue i no_queued in
      let n : get_or xs (slot_of i) 0 ≡ q.number = h (slot_of i) (omega arith) ∙ rw add-zero at (slot_in c i 0 no_queued (omega arith) l (omega arith)) in
      let u : update_at xs (slot_of i + 1) ≡ q.update =
      update_ext xs (slot_of i + 1) (slot_words q) 1 (λ k m.
      let e : 4256 + i * 11 + (1 + k) ≡ slot_of i + 1 + k = omega arith in
      h (slot_of i + 1 + k) (omega arith) ∙ rw e at (slot_in c i (1 + k) no_queued (omega arith) l (omega arith)))
      ∙ update_words_lem q.update in
      rw (n, u)

  pub zeros_back : Zeros (length b.insts) (length b.queue) xs
  zeros_back = record {
    heading = λ k l m. h k (omega arith) ∙ heading_zero c k l m;
    in_record = λ i j l m n. h (32 + i * 8 + j) (omega arith) ∙ record_in c i j (omega arith) l n ∙ record_rest (get_or b.insts i no_inst) j m n;
    records = λ k l m. h k (omega arith) ∙ records_zero c k l m;
    in_side = λ i j l m n.
        let e : 160 + i / 2 * 256 + (i % 2 * 128 + j) ≡ 160 + i * 128 + j = omega arith in
        h (160 + i * 128 + j) (omega arith)
        ∙ rw e at (book_in c (i / 2) (i % 2 * 128 + j) (omega arith) (omega arith) (omega arith) ∙ spare_in (get_or b.insts (i / 2) no_inst) (i % 2) j (omega arith) m n);
    sides = λ k l m. h k (omega arith) ∙ books_zero c k l m;
    in_slot = λ i l. h (4256 + i * 11 + 10) (omega arith) ∙ slot_in c i 10 no_queued (omega arith) l (omega arith);
    queue = λ k l m. h k m ∙ slots_zero c k room l m;
  }
    where
      record_rest : (x : Inst) (j : ℕ) → 2 ≤ j → j < 8 → get_or (record_words x) j 0 ≡ 0
      record_rest x zero l m = absurd (omega arith)
      record_rest x (suc zero) l m = absurd (omega arith)
      record_rest x (suc (suc j)) l m = get_d_zeros 6 j

-- ---- a channel whose board is sound

lists_by : {k l m n : List Entry} → k ≡ l → m ≡ n → ◌≡◌ {A = Lists} (record { bids = k; offers = m }) (record { bids = l; offers = n })
lists_by p q = cc

module _ (xs : List ℕ) (c : Channel) (h : Holds xs c) (s : Sound c.board) where
  lists_back : (i : ℕ) → i < length c.board.insts → lists_in (book_of (get_or c.board.insts i no_inst).book) ≡ (get_or c.board.insts i no_inst).book
  lists_back i l =
      let t : SoundInst c.board.depth (get_or c.board.insts i no_inst) = each_at (SoundInst c.board.depth) c.board.insts i no_inst s.each l in
      let x = get_or c.board.insts i no_inst in
      let p : (lists_in (book_of x.book)).bids ≡ x.book.bids = held_of x.book.bids t.bids.room in
      let q : (lists_in (book_of x.book)).offers ≡ x.book.offers = held_of x.book.offers t.offers.room in
      lists_by p q

  inst_back : (i : ℕ) → i < length c.board.insts → inst_at (marks_of 0 c.board.insts) xs i ≡ get_or c.board.insts i no_inst
  inst_back i l =
      let x = get_or c.board.insts i no_inst in
      inst_is (marks_of 0 c.board.insts) xs i x.id x.reason x.waiting (book_of x.book)
      (id_back xs c h s.few s.short i l) (marked_waits c.board.insts i l) (reason_back xs c h s.few s.short i l) (book_back xs c h s.few s.short i l)
      ∙ ap (λ (k : Lists). record { id = x.id; waiting = x.waiting; reason = x.reason; book = k }) (lists_back i l)

  -- the board comes back, and the channel
  pub board_back : board_at xs ≡ c.board
  unfolding board_of
  board_back =
      ap (λ (g : Heading). board_of g xs) (heading_back xs c h s.few s.short)
      ∙ rw (
        tab_is no_inst (inst_at (marks_of 0 c.board.insts) xs) c.board.insts inst_back,
        tab_is no_queued (queued_at xs) c.board.queue (queued_back xs c h s.few s.short),
      )

  pub channel_back : channel_at xs ≡ c
  channel_back = rw (board_back, loop_back xs c h s.few s.short)

  -- and the store is one that crate store's calls may find
  formed_back : 7168 ≤ length xs → Formed (loaded xs)
  formed_back l =
      rw (heading_back xs c h s.few s.short) (record {
        long = l;
        layout = layout_back xs c h s.few s.short;
        some = s.some;
        few = s.few;
        marks = marks_lt c.board.insts;
        room = s.short;
        books = λ i q. rw (book_back xs c h s.few s.short i q) (kept_book_of (get_or c.board.insts i no_inst).book (each_at (SoundInst c.board.depth) c.board.insts i no_inst s.each q).bids.room (each_at (SoundInst c.board.depth) c.board.insts i no_inst s.each q).offers.room);
        spare = spare_of (length c.board.insts) (length c.board.queue) xs s.few s.short (zeros_back xs c h s.few s.short);
      })

-- the queue of a sound board is empty where none waits
pub canon_of : (xs : List ℕ) → Formed (loaded xs) → Sound (board_at xs) → Canon (loaded xs)
canon_of xs f s = record {
  formed = f;
  idle = λ z.
      let w : any_waiting (board_at xs).insts ≡ false = any_board (loaded xs) f.marks ∙ rw (eq-eqb (get_or xs 6 0) 0 z) in
      sym (queue_length (loaded xs)) ∙ ap length (s.rest w).0;
}

pub canon_back : (xs : List ℕ) (c : Channel) → Holds xs c → Sound c.board → 7168 ≤ length xs → Canon (loaded xs)
canon_back xs c h s l = canon_of xs (formed_back xs c h s l) (rw (board_back xs c h s) s)
