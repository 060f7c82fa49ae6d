-- The facts of the scan are that the store is one that crate store's calls may find, and that its board and its loop are sound.
use mathlib.Core.Path.{◌≡◌, refl, sym, ap, ◌∙◌}
use mathlib.Core.Bool.{Bool, true, false, cond}
use mathlib.Core.List.{List, [], ◌∷◌}
use Prim.Native.Nat.{ℕ, zero, suc, ◌+◌, ◌*◌, ◌≤◌, ◌<◌}
use native.Mathlib.Omega.{arith}
use lib.Dec.{eqb}
use lib.ListN.{length, get_or, take}
use borrow.Author.Tests.{eqb-true, eq-eqb, not-false}
use Rattle.book.specs.declared.Entry.{Entry}
use Rattle.book.specs.Rules.{Lists}
use Rattle.book.specs.Canonical.{Kept, held_in}
use Rattle.book.proofs.Canon.{length_held}
use Rattle.cells.specs.Cells.{tab, side_at}
use Rattle.cells.proofs.Tables.{length_tab, get_d_tab, map_tab}
use Rattle.heading.specs.Marks.{marked}
use Rattle.board.specs.Board.{Inst, ids_of, no_inst, any_waiting}
use Rattle.board.specs.Sound.{Each, SoundInst, SoundQueued, Sound}
use Rattle.board.proofs.Each.{each_append, each_at}
use Rattle.store.specs.Layout.{at_depth, at_followed, at_number, at_marks, at_queued, bids_of, offers_of}
use Rattle.store.specs.Meaning.{inst_at, queued_at, board_of, board_at, loaded}
use Rattle.store.specs.Canon.{Formed, Canon}
use Rattle.store.proofs.Decode.{insts_length}
use Rattle.store.proofs.Marked.{any_board}
use Rattle.sides.specs.Side.{room_of}
use Rattle.scan.specs.Scan.{spread}
use Rattle.scan.proofs.Headings.{Headed}
use Rattle.sound.specs.Laws.{LoopSound}
use Rattle.sound.proofs.Zeros.{Zeros, zeros_of, spare_of}
use Rattle.sound.proofs.Back.{no_queued, canon_of}
use Rattle.sound.proofs.Sides.{SideFacts, side_kept, side_sound, facts_of}
use Rattle.sound.proofs.Rising.{numbers_rise, rise_numbers}
use Rattle.sound.proofs.Scanned.{RecordFacts, SlotFacts, Scanned, room_small}

-- each of a table
each_tab : {A : Type 0} (P : A → Type 0) (f : ℕ → A) (n : ℕ) → ((i : ℕ) → i < n → P (f i)) → Each P (tab f n)
unfolding tab
each_tab P f zero h = tt
each_tab P f (suc n) h = each_append P (tab f n) (f n ∷ []) (each_tab P f n (λ i l. h i (omega arith))) (h n (omega arith), tt)

tab_each : {A : Type 0} (P : A → Type 0) (d : A) (f : ℕ → A) (n : ℕ) → Each P (tab f n) → (i : ℕ) → i < n → P (f i)
tab_each P d f n e i h = rw (get_d_tab d f n i h) at (each_at P (tab f n) i d e (omega (arith, length_tab f n)))

lists_by : {k l m n : List Entry} → k ≡ l → m ≡ n → ◌≡◌ {A = Lists} (record { bids = k; offers = m }) (record { bids = l; offers = n })
lists_by p q = cc

-- a Waiting one has no room
no_room_lem : (m i : ℕ) → marked m i ≡ true → room_of m i ≡ 0
unfolding room_of
no_room_lem m i e = rw e

module _ (xs : List ℕ) where
  abbrev n : ℕ
  n = get_or xs at_followed 0

  abbrev m : ℕ
  m = get_or xs at_marks 0

  abbrev q : ℕ
  q = get_or xs at_queued 0

  abbrev depth : ℕ
  depth = get_or xs at_depth 0

  -- the SecurityIDs of the board
  ids_is : ids_of (tab (inst_at m xs) n) ≡ spread xs 32 8 n
  unfolding inst_at
  ids_is = map_tab (λ (x : Inst). x.id) (inst_at m xs) n

  -- ---- from the facts

  module _ (s : Scanned xs) where
    formed_of : Formed (loaded xs)
    formed_of = record {
      long = s.long;
      layout = s.head.layout;
      some = s.head.some;
      few = s.head.few;
      marks = s.head.marks;
      room = s.head.room;
      books = λ i l. record {
        bids = side_kept depth (room_of m i) xs (bids_of i) (room_small m i) (s.bids i l);
        offers = side_kept depth (room_of m i) xs (offers_of i) (room_small m i) (s.offers i l);
      };
      spare = spare_of n q xs s.head.few s.head.room s.zeros;
    }

    bare : (at i : ℕ) → SideFacts depth (room_of m i) xs at → marked m i ≡ true → held_in (side_at xs at) ≡ []
    bare at i f w = let z : get_or xs at 0 ≡ 0 = omega (arith, f.held, no_room_lem m i w) in ap (λ (k : ℕ). take k (side_at xs at).places) z

    inst_sound : (i : ℕ) → i < n → SoundInst depth (inst_at m xs i)
    unfolding inst_at
    inst_sound i l = record {
      id = (s.records i l).id;
      why = (s.records i l).reason;
      bare = λ w. lists_by (bare (bids_of i) i (s.bids i l) w) (bare (offers_of i) i (s.offers i l) w);
      bids = side_sound depth (room_of m i) xs (bids_of i) (room_small m i) (s.bids i l);
      offers = side_sound depth (room_of m i) xs (offers_of i) (room_small m i) (s.offers i l);
    }

    queued_sound : (i : ℕ) → i < q → SoundQueued depth n (queued_at xs i)
    unfolding queued_at
    queued_sound i l = record { who = (s.slots i l).who; update = (s.slots i l).update }

    rest_sound : any_waiting (board_at xs).insts ≡ false → ((board_at xs).queue ≡ []) × ((board_at xs).B ≡ (board_at xs).H)
    unfolding board_of tab
    rest_sound w =
        let z : m ≡ 0 = eqb-true m 0 (not-false (eqb m 0) (sym (any_board (loaded xs) s.head.marks) ∙ w)) in
        let r = s.head.rest z in
        (ap (λ (k : ℕ). tab (queued_at xs) k) r.0, r.1)

    sound_of : Sound (board_at xs)
    unfolding board_of
    sound_of =
        let a = length_tab (inst_at m xs) n in
        let c = length_tab (queued_at xs) q in
        record {
          kind = s.head.kind;
          last = s.head.last;
          base = s.head.base;
          heard = s.head.heard;
          some = omega (arith, a, s.head.some);
          few = omega (arith, a, s.head.few);
          apart = rw ids_is s.apart;
          each = each_tab (SoundInst depth) (inst_at m xs) n inst_sound;
          short = omega (arith, c, s.head.room);
          rise = numbers_rise xs (get_or xs at_number 0) q (λ k l. ((s.slots k l).low, (s.slots k l).high));
          entries = rw a (each_tab (SoundQueued depth n) (queued_at xs) q queued_sound);
          rest = rest_sound;
        }

    pub scanned_sound : Canon (loaded xs) × Sound (board_at xs) × LoopSound xs
    scanned_sound = (canon_of xs formed_of sound_of, sound_of, rw (insts_length (loaded xs)) s.loop)

  -- ---- and to them

  module _ (f : Formed (loaded xs)) (s : Sound (board_at xs)) (o : LoopSound xs) where
    zeros : Zeros n q xs
    zeros = zeros_of n q xs f.few f.room f.spare

    inst_at_lem : (i : ℕ) → i < n → SoundInst depth (inst_at m xs i)
    unfolding board_of
    inst_at_lem i l = tab_each (SoundInst depth) no_inst (inst_at m xs) n s.each i l

    queued_at_lem : (i : ℕ) → i < q → SoundQueued depth n (queued_at xs i)
    unfolding board_of
    queued_at_lem i l = tab_each (SoundQueued depth n) no_queued (queued_at xs) q (rw (length_tab (inst_at m xs) n) at s.entries) i l

    head_of : Headed xs
    unfolding board_of tab
    head_of = record {
      layout = f.layout;
      kind = s.kind;
      some = f.some;
      few = f.few;
      last = s.last;
      base = s.base;
      heard = s.heard;
      marks = f.marks;
      room = f.room;
      rest = λ z.
          let w : any_waiting (board_at xs).insts ≡ false = any_board (loaded xs) f.marks ∙ rw (eq-eqb m 0 z) in
          let r = s.rest w in
          (sym (length_tab (queued_at xs) q) ∙ ap length r.0, r.1);
    }

    -- places held, within the room
    room_held : (at i : ℕ) → Kept (side_at xs at) → (marked m i ≡ true → held_in (side_at xs at) ≡ []) → get_or xs at 0 ≤ room_of m i
    unfolding room_of
    room_held at i k b = go (marked m i) b
      where
        go : (w : Bool) → (w ≡ true → held_in (side_at xs at) ≡ []) → get_or xs at 0 ≤ cond w 0 20
        go true b = omega (arith, length_held (side_at xs at) k, ap length (b refl))
        go false b = k.room

    bids_of_lem : (i : ℕ) → i < n → SideFacts depth (room_of m i) xs (bids_of i)
    unfolding inst_at
    bids_of_lem i l =
        let k = (f.books i l).bids in
        let x = inst_at_lem i l in
        facts_of depth (room_of m i) xs (bids_of i) (room_small m i) k x.bids (room_held (bids_of i) i k (λ w. ap (λ (b : Lists). b.bids) (x.bare w)))
        (λ j g h. let e : 160 + i * 2 * 128 + j ≡ bids_of i + j = omega arith in rw e at (zeros.in_side (i * 2) j (omega arith) g h))

    offers_of_lem : (i : ℕ) → i < n → SideFacts depth (room_of m i) xs (offers_of i)
    unfolding inst_at
    offers_of_lem i l =
        let k = (f.books i l).offers in
        let x = inst_at_lem i l in
        facts_of depth (room_of m i) xs (offers_of i) (room_small m i) k x.offers (room_held (offers_of i) i k (λ w. ap (λ (b : Lists). b.offers) (x.bare w)))
        (λ j g h. let e : 160 + (i * 2 + 1) * 128 + j ≡ offers_of i + j = omega arith in rw e at (zeros.in_side (i * 2 + 1) j (omega arith) g h))

    record_of : (i : ℕ) → i < n → RecordFacts xs i
    unfolding inst_at
    record_of i l = let x = inst_at_lem i l in record { id = x.id; reason = x.why; spare = λ j g h. zeros.in_record i j l g h }

    slot_of : (i : ℕ) → i < q → SlotFacts xs i
    unfolding board_of queued_at
    slot_of i l =
        let p = rise_numbers xs (get_or xs at_number 0) q s.rise i l in
        let x = queued_at_lem i l in
        record { low = p.0; high = p.1; who = x.who; update = x.update; spare = zeros.in_slot i l }

    pub sound_scanned : Scanned xs
    unfolding board_of
    sound_scanned = record {
      long = f.long;
      head = head_of;
      loop = rw (insts_length (loaded xs)) at o;
      zeros = zeros;
      records = record_of;
      apart = rw ids_is at s.apart;
      bids = bids_of_lem;
      offers = offers_of_lem;
      slots = slot_of;
    }
