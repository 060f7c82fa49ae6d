-- What opening writes is the opened channel's numbers.
use mathlib.Core.Path.{◌≡◌, refl, sym, ap, ◌∙◌}
use mathlib.Core.Bool.{true}
use mathlib.Core.List.{List, [], ◌∷◌, ◌++◌, map}
use Prim.Native.Nat.{ℕ, zero, suc, ◌+◌, ◌*◌, ◌-◌, ◌≤◌, ◌<◌}
use native.Mathlib.Nat.{le_of_suc-le-suc}
use native.Mathlib.Omega.{arith}
use lib.Dec.{leb}
use lib.ListN.{length, get_or, take, drop, set, length-set, length-map, length-drop, take-append-drop, get_or-map}
use lib.Seq.{sets, length-sets, get_or-set_same, get_or-set_other, get_or-take, get_or-drop, length-take-le, ext_get_or}
use borrow.Author.Tests.{lt-ltb}
use Rattle.book.specs.Sides.{no_book}
use Rattle.book.proofs.Canon.{kept_no_book}
use Rattle.cells.specs.Cells.{tab, zeros, side_at, side_size}
use Rattle.cells.proofs.Stores.{below_or, before_sets, behind_sets, in_sets}
use Rattle.cells.proofs.Tables.{length_zeros, in_zeros}
use Rattle.cells.proofs.Windows.{side_ext, no_side_at}
use Rattle.heading.specs.declared.Heading.{Heading}
use Rattle.heading.specs.Marks.{all_marks}
use Rattle.heading.proofs.Bits.{marked_all, all_lt}
use Rattle.board.specs.Board.{no_inst, fresh, opened}
use Rattle.board.specs.Ranges.{within, all, id_fine}
use Rattle.board.specs.Sound.{distinct, opens}
use Rattle.board.proofs.Tested.{four, within_true}
use Rattle.loops.specs.Loops.{no_loop}
use Rattle.loops.specs.Calls.{opened_channel}
use Rattle.store.specs.Layout.{id_of, reason_of, bids_of, offers_of, layout_number}
use Rattle.store.specs.Meaning.{heading_at, head_words, book_at, inst_at, board_of, board_at, loop_at, channel_at, loaded, written}
use Rattle.store.specs.Canon.{Formed}
use Rattle.store.proofs.Decode.{inst_is}
use Rattle.scan.specs.Scan.{spread}
use Rattle.sound.proofs.Numbers.{length_written}
use Rattle.sound.proofs.Back.{Holds, tab_is}
use Rattle.sound.proofs.Whole.{whole}
use Rattle.opening.specs.Steps.{fresh_heading, ids_in, headed_store, opened_store}

-- ---- the SecurityIDs

pub length_ids : (xs : List ℕ) (i : ℕ) (ds : List ℕ) → length (ids_in xs i ds) ≡ length xs
length_ids xs i [] = refl
length_ids xs i (d ∷ ds) = length_ids (set xs (id_of i) d) (suc i) ds ∙ length-set xs (id_of i) d

ids_other : (xs : List ℕ) (i : ℕ) (ds : List ℕ) (k : ℕ) → ((j : ℕ) → j < length ds → k ≡ id_of (i + j) → ⊥) → get_or (ids_in xs i ds) k 0 ≡ get_or xs k 0
ids_other xs i [] k h = refl
ids_other xs i (d ∷ ds) k h =
    ids_other (set xs (id_of i) d) (suc i) ds k (λ j l e. h (suc j) (omega arith) (omega arith))
    ∙ get_or-set_other xs (id_of i) k d 0 (λ e. h 0 (omega arith) (omega arith))

ids_at : (xs : List ℕ) (i : ℕ) (ds : List ℕ) (j : ℕ) → j < length ds → id_of (i + j) < length xs → get_or (ids_in xs i ds) (id_of (i + j)) 0 ≡ get_or ds j 0
ids_at xs i [] j h l = absurd (omega arith)
ids_at xs i (d ∷ ds) zero h l =
    let e : id_of (i + 0) ≡ id_of i = omega arith in
    rw e (ids_other (set xs (id_of i) d) (suc i) ds (id_of i) (λ j o q. omega arith) ∙ get_or-set_same xs (id_of i) d 0 (omega arith))
ids_at xs i (d ∷ ds) (suc j) h l =
    let e : id_of (suc i + j) ≡ id_of (i + suc j) = omega arith in
    rw e at (ids_at (set xs (id_of i) d) (suc i) ds j (le_of_suc-le-suc h) (omega (arith, length-set xs (id_of i) d)))

-- ---- the numbers of an opened store

module _ (depth : ℕ) (ids xs : List ℕ) (long : 7168 ≤ length xs) (some : 1 ≤ length ids) (few : length ids ≤ 16) where
  abbrev n : ℕ
  n = length ids

  abbrev zeroed : List ℕ
  zeroed = set (sets xs 0 (zeros 7168)) 0 layout_number

  abbrev ws : List ℕ
  ws = headed_store depth n xs

  abbrev zs : List ℕ
  zs = opened_store depth ids xs

  length_zeroed : length zeroed ≡ length xs
  length_zeroed = length-set (sets xs 0 (zeros 7168)) 0 layout_number ∙ length-sets xs 0 (zeros 7168)

  length_ws : length ws ≡ length xs
  length_ws = length-sets zeroed 1 (head_words (fresh_heading depth n)) ∙ length_zeroed

  length_zs : length zs ≡ length xs
  length_zs = length_ids ws 0 ids ∙ length_ws

  -- a number of the heading
  in_heading : (k : ℕ) → k < 32 → get_or zs k 0 ≡ get_or ws k 0
  in_heading k h = ids_other ws 0 ids k (λ j l e. omega arith)

  layout_is : get_or zs 0 0 ≡ layout_number
  layout_is =
      in_heading 0 (omega arith) ∙ before_sets 0 zeroed 1 (head_words (fresh_heading depth n)) 0 (omega arith)
      ∙ get_or-set_same (sets xs 0 (zeros 7168)) 0 layout_number 0 (omega (arith, length-sets xs 0 (zeros 7168)))

  heading_is : heading_at zs ≡ fresh_heading depth n
  heading_is =
      let g : (j : ℕ) → j < 7 → get_or zs (1 + j) 0 ≡ get_or (head_words (fresh_heading depth n)) j 0 =
      λ j l. in_heading (1 + j) (omega arith) ∙ in_sets 0 zeroed 1 (head_words (fresh_heading depth n)) j l (omega (arith, length_zeroed)) in
      rw (g 0 (omega arith), g 1 (omega arith), g 2 (omega arith), g 3 (omega arith), g 4 (omega arith), g 5 (omega arith), g 6 (omega arith))

  -- a SecurityID
  id_is : (i : ℕ) → i < n → get_or zs (id_of i) 0 ≡ get_or ids i 0
  id_is i h =
      let e : id_of (0 + i) ≡ id_of i = omega arith in
      rw e at (ids_at ws 0 ids i h (omega (arith, length_ws)))

  -- all others are zero
  zero_is : (k : ℕ) → 8 ≤ k → k < 7168 → ((i : ℕ) → i < n → k ≡ id_of i → ⊥) → get_or zs k 0 ≡ 0
  zero_is k h l u =
      ids_other ws 0 ids k (λ j o e. u j o (omega arith))
      ∙ behind_sets 0 zeroed 1 (head_words (fresh_heading depth n)) k (omega arith)
      ∙ get_or-set_other (sets xs 0 (zeros 7168)) 0 k layout_number 0 (λ e. omega arith)
      ∙ in_zeros xs 0 7168 k (omega arith) (omega arith) (omega arith)

  -- and what lies beyond is as it was
  beyond_is : (k : ℕ) → 7168 ≤ k → get_or zs k 0 ≡ get_or xs k 0
  beyond_is k h =
      ids_other ws 0 ids k (λ j o e. omega arith)
      ∙ behind_sets 0 zeroed 1 (head_words (fresh_heading depth n)) k (omega arith)
      ∙ get_or-set_other (sets xs 0 (zeros 7168)) 0 k layout_number 0 (λ e. omega arith)
      ∙ behind_sets 0 xs 0 (zeros 7168) k (omega (arith, length_zeros 7168))

  -- ---- the board

  side_is : (a : ℕ) → 160 ≤ a → a + side_size ≤ 4256 → side_at zs a ≡ side_at [] 0
  side_is a h l = side_ext zs a [] 0 (λ k m. zero_is (a + k) (omega arith) (omega arith) (λ i o e. omega arith))

  book_is : (i : ℕ) → i < n → book_at zs i ≡ no_book
  book_is i h =
      let e = side_is (bids_of i) (omega arith) (omega arith) ∙ no_side_at in
      let f = side_is (offers_of i) (omega arith) (omega arith) ∙ no_side_at in
      rw (e, f)

  inst_opened : (i : ℕ) → i < n → inst_at (all_marks n) zs i ≡ fresh (get_or ids i 0)
  inst_opened i h =
      inst_is (all_marks n) zs i (get_or ids i 0) 0 true no_book (id_is i h) (marked_all n i few (omega arith) ∙ lt-ltb i n h)
      (zero_is (reason_of i) (omega arith) (omega arith) (λ j o e. omega arith)) (book_is i h)

  insts_opened : tab (inst_at (all_marks n) zs) n ≡ map fresh ids
  insts_opened =
      let l : length (map fresh ids) ≡ n = length-map ids fresh in
      ap (tab (inst_at (all_marks n) zs)) (sym l)
      ∙ tab_is no_inst (inst_at (all_marks n) zs) (map fresh ids) (λ i h. inst_opened i (omega arith) ∙ sym (get_or-map fresh ids i 0))

  pub board_is : board_at zs ≡ opened depth ids
  unfolding board_of tab
  board_is = ap (λ (h : Heading). board_of h zs) heading_is ∙ rw insts_opened

  -- and no loop runs
  loop_is : loop_at zs ≡ no_loop
  loop_is =
      let z : (k : ℕ) → 8 ≤ k → k < 12 → get_or zs k 0 ≡ 0 = λ k h l. zero_is k h (omega arith) (λ i o e. omega arith) in
      rw (z 8 (omega arith) (omega arith), z 9 (omega arith) (omega arith), z 10 (omega arith) (omega arith), z 11 (omega arith) (omega arith))

  channel_is : channel_at zs ≡ opened_channel depth ids
  channel_is = rw (board_is, loop_is)

  formed_is : Formed (loaded zs)
  formed_is =
      rw heading_is (record {
        long = omega (arith, length_zs);
        layout = layout_is;
        some = some;
        few = few;
        marks = all_lt n few;
        room = omega arith;
        books = λ i h. rw (book_is i h) kept_no_book;
        spare = λ k l u. zero_is k (below_or k 8 (λ p. absurd (u.head (omega arith))) (λ p. p)) l (λ i h e. u.record_of i h (omega arith) (omega arith));
      })

  -- ---- the whole

  pub opened_is : opened_store depth ids xs ≡ written (opened_channel depth ids) ++ drop 7168 xs
  opened_is =
      let h : Holds zs (opened_channel depth ids) = rw channel_is at (whole zs formed_is) in
      let a : take 7168 zs ≡ written (opened_channel depth ids) =
      ext_get_or 0 (take 7168 zs) (written (opened_channel depth ids)) (length-take-le 7168 zs (omega (arith, length_zs)) ∙ sym (length_written (opened_channel depth ids))) (λ k l.
      let p : k < 7168 = omega (arith, length-take-le 7168 zs (omega (arith, length_zs))) in
      get_or-take 7168 zs k 0 p ∙ h k p) in
      let b : drop 7168 zs ≡ drop 7168 xs =
      ext_get_or 0 (drop 7168 zs) (drop 7168 xs) (length-drop 7168 zs ∙ ap (λ (m : ℕ). m - 7168) length_zs ∙ sym (length-drop 7168 xs)) (λ k l.
      get_or-drop 7168 zs k 0 ∙ beyond_is (7168 + k) (omega arith) ∙ sym (get_or-drop 7168 xs k 0)) in
      sym (take-append-drop 7168 zs) ∙ rw (a, b)

-- what opening takes, in numbers
pub opens_some : (depth : ℕ) (ids : List ℕ) → opens depth ids ≡ true → (1 ≤ length ids) × (length ids ≤ 16)
opens_some depth ids e =
    let p = four (leb depth 1) (within 1 16 (length ids)) (distinct ids) (all id_fine ids) e in
    within_true 1 16 (length ids) p.1

-- numbers that stand side by side are the list itself
pub spread_all : (ids : List ℕ) → spread ids 0 1 (length ids) ≡ ids
spread_all ids =
    tab_is 0 (λ (i : ℕ). get_or ids (0 + i * 1) 0) ids (λ i h.
    let e : 0 + i * 1 ≡ i = omega arith in
    ap (λ (k : ℕ). get_or ids k 0) e)

pub apart_all : (ids : List ℕ) → distinct (spread ids 0 1 (length ids)) ≡ distinct ids
apart_all ids = ap distinct (spread_all ids)
