-- What the scan tests, as facts by position, both ways.
use mathlib.Core.Path.{◌≡◌, sym, ◌∙◌}
use mathlib.Core.Bool.{Bool, true, false, cond, ◌&&◌}
use mathlib.Core.List.{List}
use Prim.Native.Nat.{ℕ, ◌+◌, ◌*◌, ◌-◌, ◌/◌, ◌%◌, ◌≤◌, ◌<◌}
use native.Mathlib.Omega.{arith}
use lib.Dec.{leb, ltb, eqb}
use lib.ListN.{length, get_or}
use borrow.Author.Tests.{leb-true, ltb-true, eqb-true, le-leb, lt-ltb, eq-eqb}
use Rattle.cells.specs.Cells.{update_at}
use Rattle.cells.proofs.Stores.{below_or}
use Rattle.heading.specs.Marks.{marked}
use Rattle.board.specs.Ranges.{within, id_fine, update_fine}
use Rattle.board.specs.Sound.{distinct}
use Rattle.board.proofs.Tested.{both, three, four, and_true, within_true, is_within}
use Rattle.loops.specs.Sound.{sound_loop}
use Rattle.store.specs.Layout.{store_size, at_depth, at_followed, at_number, at_marks, at_queued, heading_used, heading_spare, id_of, reason_of, bids_of, offers_of, slot_of}
use Rattle.store.specs.Meaning.{loop_at}
use Rattle.sides.specs.Side.{each, all_zero, side_scan, room_of}
use Rattle.scan.specs.Scan.{heading_scan, record_scan, spread, records_scan, most_of, full_of, book_scan, books_scan, update_scan, slot_scan, low_of, queue_scan, rest_scan, scan}
use Rattle.sides.proofs.Each.{each_at, each_of, zero_at, zero_of}
use Rattle.scan.proofs.Headings.{Headed, headed, heading_of_lem}
use Rattle.sound.proofs.Zeros.{Zeros}
use Rattle.sound.proofs.Ranges.{update_test}
use Rattle.sound.proofs.Sides.{SideFacts, side_facts, facts_side}

-- ---- a record, a book and a slot

pub record RecordFacts (xs : List ℕ) (i : ℕ) : Type 0 where
  pub id : id_fine (get_or xs (id_of i) 0) ≡ true
  pub reason : get_or xs (reason_of i) 0 ≤ 2
  pub spare : (j : ℕ) → 2 ≤ j → j < 8 → get_or xs (32 + i * 8 + j) 0 ≡ 0

pub record SlotFacts (xs : List ℕ) (i : ℕ) : Type 0 where
  pub low : low_of xs i ≤ get_or xs (slot_of i) 0
  pub high : get_or xs (slot_of i) 0 ≤ get_or xs at_number 0
  pub who : get_or xs (slot_of i + 1) 0 < get_or xs at_followed 0
  pub update : update_fine (get_or xs at_depth 0) (update_at xs (slot_of i + 1)) ≡ true
  pub spare : get_or xs (4256 + i * 11 + 10) 0 ≡ 0

pub room_small : (m i : ℕ) → room_of m i ≤ 20
unfolding room_of
room_small m i = go (marked m i)
  where
    go : (w : Bool) → cond w 0 20 ≤ 20
    go true = omega arith
    go false = omega arith

module _ (xs : List ℕ) (i : ℕ) where
  abbrev depth : ℕ
  depth = get_or xs at_depth 0

  abbrev room : ℕ
  room = room_of (get_or xs at_marks 0) i

  next : id_of i + 1 ≡ reason_of i
  next = omega arith

  record_facts : record_scan xs (id_of i) ≡ true → RecordFacts xs i
  unfolding record_scan
  record_facts e =
      let p = both (id_fine (get_or xs (id_of i) 0) && leb (get_or xs (id_of i + 1) 0) 2) (all_zero xs (id_of i + 2) 6) e in
      let q = both (id_fine (get_or xs (id_of i) 0)) (leb (get_or xs (id_of i + 1) 0) 2) p.0 in
      record {
        id = q.0;
        reason = rw next at (leb-true (get_or xs (id_of i + 1) 0) 2 q.1);
        spare = λ j l m.
            let o : id_of i + 2 + (j - 2) ≡ 32 + i * 8 + j = omega arith in
            rw o at (zero_at xs (id_of i + 2) 6 (j - 2) p.1 (omega arith));
      }

  facts_record : RecordFacts xs i → record_scan xs (id_of i) ≡ true
  unfolding record_scan
  facts_record r =
      and_true (and_true r.id (le-leb (get_or xs (id_of i + 1) 0) 2 (rw next r.reason)))
      (zero_of xs (id_of i + 2) 6 (λ k l.
      let o : 32 + i * 8 + (2 + k) ≡ id_of i + 2 + k = omega arith in
      rw o at (r.spare (2 + k) (omega arith) (omega arith))))

  behind : bids_of i + 128 ≡ offers_of i
  behind = omega arith

  book_facts : book_scan room (most_of depth) (full_of depth) xs (bids_of i) ≡ true → SideFacts depth room xs (bids_of i) × SideFacts depth room xs (offers_of i)
  unfolding book_scan
  book_facts e =
      let p = both (side_scan room (most_of depth) (full_of depth) xs (bids_of i)) (side_scan room (most_of depth) (full_of depth) xs (bids_of i + 128)) e in (
        side_facts depth room xs (bids_of i) (room_small (get_or xs at_marks 0) i) p.0,
        rw behind at (side_facts depth room xs (bids_of i + 128) (room_small (get_or xs at_marks 0) i) p.1),
      )

  facts_book : SideFacts depth room xs (bids_of i) → SideFacts depth room xs (offers_of i) → book_scan room (most_of depth) (full_of depth) xs (bids_of i) ≡ true
  unfolding book_scan
  facts_book s o =
      and_true (facts_side depth room xs (bids_of i) (room_small (get_or xs at_marks 0) i) s)
      (facts_side depth room xs (bids_of i + 128) (room_small (get_or xs at_marks 0) i) (rw behind o))

  update_at_lem : update_scan (most_of depth) (full_of depth) xs (slot_of i + 1) ≡ update_fine depth (update_at xs (slot_of i + 1))
  update_at_lem = update_test depth xs (slot_of i + 1)

  abbrev slot_test : Bool
  slot_test = slot_scan (low_of xs i) (get_or xs at_number 0) (get_or xs at_followed 0) (most_of depth) (full_of depth) xs (slot_of i)

  slot_facts : slot_test ≡ true → SlotFacts xs i
  unfolding slot_scan
  slot_facts e =
      let p = four (within (low_of xs i) (get_or xs at_number 0) (get_or xs (slot_of i) 0)) (ltb (get_or xs (slot_of i + 1) 0) (get_or xs at_followed 0)) (update_scan (most_of depth) (full_of depth) xs (slot_of i + 1)) (eqb (get_or xs (slot_of i + 10) 0) 0) e in
      let q = within_true (low_of xs i) (get_or xs at_number 0) (get_or xs (slot_of i) 0) p.0 in
      record {
        low = q.0;
        high = q.1;
        who = ltb-true (get_or xs (slot_of i + 1) 0) (get_or xs at_followed 0) p.1;
        update = sym update_at_lem ∙ p.2;
        spare = eqb-true (get_or xs (slot_of i + 10) 0) 0 p.3;
      }

  facts_slot : SlotFacts xs i → slot_test ≡ true
  unfolding slot_scan
  facts_slot s =
      and_true (is_within (low_of xs i) (get_or xs at_number 0) (get_or xs (slot_of i) 0) s.low s.high)
      (and_true (lt-ltb (get_or xs (slot_of i + 1) 0) (get_or xs at_followed 0) s.who) (and_true (update_at_lem ∙ s.update) (eq-eqb (get_or xs (slot_of i + 10) 0) 0 s.spare)))

-- ---- the whole

pub record Scanned (xs : List ℕ) : Type 0 where
  pub long : store_size ≤ length xs
  pub head : Headed xs
  pub loop : sound_loop (get_or xs at_followed 0) (loop_at xs) ≡ true
  pub zeros : Zeros (get_or xs at_followed 0) (get_or xs at_queued 0) xs
  pub records : (i : ℕ) → i < get_or xs at_followed 0 → RecordFacts xs i
  pub apart : distinct (spread xs 32 8 (get_or xs at_followed 0)) ≡ true
  pub bids : (i : ℕ) → i < get_or xs at_followed 0 → SideFacts (get_or xs at_depth 0) (room_of (get_or xs at_marks 0) i) xs (bids_of i)
  pub offers : (i : ℕ) → i < get_or xs at_followed 0 → SideFacts (get_or xs at_depth 0) (room_of (get_or xs at_marks 0) i) xs (offers_of i)
  pub slots : (i : ℕ) → i < get_or xs at_queued 0 → SlotFacts xs i

module _ (xs : List ℕ) where
  abbrev n : ℕ
  n = get_or xs at_followed 0

  abbrev q : ℕ
  q = get_or xs at_queued 0

  abbrev most : ℕ
  most = most_of (get_or xs at_depth 0)

  abbrev full : ℕ
  full = full_of (get_or xs at_depth 0)

  abbrev record_tests : ℕ → Bool
  record_tests i = record_scan xs (id_of i)

  abbrev book_tests : ℕ → Bool
  book_tests i = book_scan (room_of (get_or xs at_marks 0) i) most full xs (bids_of i)

  abbrev slot_tests : ℕ → Bool
  slot_tests i = slot_scan (low_of xs i) (get_or xs at_number 0) n most full xs (slot_of i)

  -- a run of zeros up to an end
  run : (a m k : ℕ) → all_zero xs a m ≡ true → a ≤ k → k < a + m → get_or xs k 0 ≡ 0
  run a m k e h l =
      let o : a + (k - a) ≡ k = omega arith in
      rw o at (zero_at xs a m (k - a) e (omega arith))

  pub scanned : scan xs ≡ true → Scanned xs
  unfolding scan records_scan rest_scan books_scan queue_scan
  scanned e =
      let p = four (leb store_size (length xs)) (heading_scan xs) (records_scan xs n) (rest_scan xs) e in
      let h = headed xs p.1 in
      let few : n ≤ 16 = h.few in
      let room : q ≤ 256 = h.room in
      let r = four (all_zero xs heading_used heading_spare) (each record_tests n) (all_zero xs (32 + n * 8) (128 - n * 8)) (distinct (spread xs 32 8 n)) p.2 in
      let s = three (sound_loop n (loop_at xs)) (books_scan most full xs) (queue_scan most full xs) p.3 in
      let t = both (each book_tests n) (all_zero xs (160 + n * 256) (4096 - n * 256)) s.1 in
      let u = both (each slot_tests q) (all_zero xs (4256 + q * 11) (2912 - q * 11)) s.2 in
      let rec : (i : ℕ) → i < n → RecordFacts xs i = λ i l. record_facts xs i (each_at record_tests n i r.1 l) in
      let book : (i : ℕ) → i < n → SideFacts (get_or xs at_depth 0) (room_of (get_or xs at_marks 0) i) xs (bids_of i) × SideFacts (get_or xs at_depth 0) (room_of (get_or xs at_marks 0) i) xs (offers_of i) =
      λ i l. book_facts xs i (each_at book_tests n i t.0 l) in
      let slot : (i : ℕ) → i < q → SlotFacts xs i = λ i l. slot_facts xs i (each_at slot_tests q i u.0 l) in
      record {
        long = leb-true store_size (length xs) p.0;
        head = h;
        loop = s.0;
        zeros = record {
          heading = λ k l m. run heading_used heading_spare k r.0 l (omega arith);
          in_record = λ i j l m o. (rec i l).spare j m o;
          records = λ k l m. run (32 + n * 8) (128 - n * 8) k r.2 l (omega arith);
          in_side = λ i j l m o.
              below_or (i % 2) 1
              (λ g.
              let y : bids_of (i / 2) + j ≡ 160 + i * 128 + j = omega arith in
              rw y at ((book (i / 2) (omega arith)).0.spare j m o))
              (λ g.
              let y : offers_of (i / 2) + j ≡ 160 + i * 128 + j = omega arith in
              rw y at ((book (i / 2) (omega arith)).1.spare j m o));
          sides = λ k l m. run (160 + n * 256) (4096 - n * 256) k t.1 l (omega arith);
          in_slot = λ i l. (slot i l).spare;
          queue = λ k l m. run (4256 + q * 11) (2912 - q * 11) k u.1 l (omega arith);
        };
        records = rec;
        apart = r.3;
        bids = λ i l. (book i l).0;
        offers = λ i l. (book i l).1;
        slots = slot;
      }

  pub scan_of : Scanned xs → scan xs ≡ true
  unfolding scan records_scan rest_scan books_scan queue_scan
  scan_of s =
      let h = s.head in
      let few : n ≤ 16 = h.few in
      let room : q ≤ 256 = h.room in
      and_true (le-leb store_size (length xs) s.long)
      (and_true (heading_of_lem xs h)
      (and_true
      (and_true (zero_of xs heading_used heading_spare (λ k l. s.zeros.heading (heading_used + k) (omega arith) (omega arith)))
      (and_true (each_of record_tests n (λ i l. facts_record xs i (s.records i l)))
      (and_true (zero_of xs (32 + n * 8) (128 - n * 8) (λ k l. s.zeros.records (32 + n * 8 + k) (omega arith) (omega arith))) s.apart)))
      (and_true s.loop
      (and_true
      (and_true (each_of book_tests n (λ i l. facts_book xs i (s.bids i l) (s.offers i l)))
      (zero_of xs (160 + n * 256) (4096 - n * 256) (λ k l. s.zeros.sides (160 + n * 256 + k) (omega arith) (omega arith))))
      (and_true (each_of slot_tests q (λ i l. facts_slot xs i (s.slots i l)))
      (zero_of xs (4256 + q * 11) (2912 - q * 11) (λ k l. s.zeros.queue (4256 + q * 11 + k) (omega arith) (omega arith))))))))
