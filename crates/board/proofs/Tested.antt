-- A board is sound as the tests say it exactly where it is sound as the facts say it.
use mathlib.Core.Path.{◌≡◌, refl, ◌∙◌, ap, sym}
use mathlib.Core.Bool.{Bool, true, false, ◌&&◌, ◌||◌, true≢false, false≢true}
use mathlib.Core.List.{List, [], ◌∷◌}
use Prim.Native.Nat.{ℕ, ◌+◌, ◌≤◌}
use native.Mathlib.Omega.{arith}
use lib.Dec.{ltb, leb, eqb}
use lib.IntN.{nat_abs}
use lib.ListN.{length}
use borrow.Author.Tests.{leb-true, ltb-true, eqb-true, le-leb, lt-ltb, eq-eqb}
use Rattle.holding.specs.Prices.{top}
use Rattle.holding.specs.Moments.{moments}
use Rattle.book.specs.Rules.{Lists, most_places}
use Rattle.book.specs.Canonical.{All}
use Rattle.book.specs.declared.Entry.{Entry}
use Rattle.board.specs.Board.{Inst, Queued, Board, ids_of, any_waiting}
use Rattle.board.specs.Count.{most_queued}
use Rattle.board.specs.Ranges.{all, within, most_number, most_size, id_fine, price_fine, size_fine, moment_fine, by_fine, entry_fine, update_fine}
use Rattle.board.specs.Sound.{most_insts, distinct, side_fine, book_fine, inst_fine, rising, queued_fine, heard_fine, sound_numbers, sound_insts, sound_queue, sound_rest, sound_board, Each, SoundEntry, SoundSide, SoundInst, Rising, SoundQueued, Sound}

-- Both tests of a pair

pub both : (a b : Bool) → a && b ≡ true → (a ≡ true) × (b ≡ true)
both true b e = (refl, e)
both false b e = absurd (false≢true e)

pub three : (a b c : Bool) → a && (b && c) ≡ true → (a ≡ true) × (b ≡ true) × (c ≡ true)
three a b c e = let p = both a (b && c) e in let q = both b c p.1 in (p.0, q.0, q.1)

pub four : (a b c d : Bool) → a && (b && (c && d)) ≡ true → (a ≡ true) × (b ≡ true) × (c ≡ true) × (d ≡ true)
four a b c d e = let p = both a (b && (c && d)) e in let q = three b c d p.1 in (p.0, q.0, q.1, q.2)

pub and_true : {a b : Bool} → a ≡ true → b ≡ true → a && b ≡ true
and_true p q = rw (p, q)

pub within_true : (lo hi n : ℕ) → within lo hi n ≡ true → (lo ≤ n) × (n ≤ hi)
within_true lo hi n e = let q = both (leb lo n) (leb n hi) e in (leb-true lo n q.0, leb-true n hi q.1)

pub is_within : (lo hi n : ℕ) → lo ≤ n → n ≤ hi → within lo hi n ≡ true
is_within lo hi n p q = and_true (le-leb lo n p) (le-leb n hi q)

-- A test of each of a list

pub all_each : {A : Type 0} (f : A → Bool) (P : A → Type 0) → ((x : A) → f x ≡ true → P x) → (xs : List A) → all f xs ≡ true → Each P xs
all_each f P h [] e = tt
all_each f P h (x ∷ xs) e = let q = both (f x) (all f xs) e in (h x q.0, all_each f P h xs q.1)

pub each_all : {A : Type 0} (f : A → Bool) (P : A → Type 0) → ((x : A) → P x → f x ≡ true) → (xs : List A) → Each P xs → all f xs ≡ true
each_all f P h [] e = refl
each_all f P h (x ∷ xs) e = and_true (h x e.0) (each_all f P h xs e.1)

-- the same over the entries of a side, as crate book says it
pub entries_all : (P : Entry → Type 0) (l : List Entry) → Each P l → All P l
entries_all P [] h = tt
entries_all P (e ∷ l) h = (h.0, entries_all P l h.1)

pub all_entries : (P : Entry → Type 0) (l : List Entry) → All P l → Each P l
all_entries P [] h = tt
all_entries P (e ∷ l) h = (h.0, all_entries P l h.1)

-- Entries, sides, instruments

pub entry_sound : (depth : ℕ) (e : Entry) → entry_fine depth e ≡ true → SoundEntry depth e
unfolding entry_fine
entry_sound depth e h =
    let p = four (price_fine e.price) (size_fine e.size) (moment_fine e.moment) (by_fine depth e.by e.more) h in
    let s = within_true 1 most_size e.size p.1 in
    record {
      price = ltb-true (nat_abs e.price) top p.0;
      size_low = s.0;
      size_high = s.1;
      moment = ltb-true e.moment moments p.2;
      by = p.3;
    }

pub side_sound : (depth : ℕ) (l : List Entry) → side_fine depth l ≡ true → SoundSide depth l
unfolding side_fine
side_sound depth l e =
    let q = both (leb (length l) most_places) (all (entry_fine depth) l) e in
    record {
      room = leb-true (length l) most_places q.0;
      entries = entries_all _ l (all_each (entry_fine depth) _ (λ x h. h) l q.1);
    }

sound_side : (depth : ℕ) (l : List Entry) → SoundSide depth l → side_fine depth l ≡ true
unfolding side_fine
sound_side depth l s =
    and_true (le-leb (length l) most_places s.room) (each_all (entry_fine depth) _ (λ x h. h) l (all_entries _ l s.entries))

pub empty_side : (depth : ℕ) → SoundSide depth []
empty_side depth = record { room = omega arith; entries = tt }

pub length_nil : {A : Type 0} (l : List A) → length l ≡ 0 → l ≡ []
length_nil [] e = refl
length_nil (x ∷ l) e = absurd (omega arith)

lists_by : {a b c d : List Entry} → a ≡ b → c ≡ d → ◌≡◌ {A = Lists} (record { bids = a; offers = c }) (record { bids = b; offers = d })
lists_by p q = cc

inst_sound : (depth : ℕ) (x : Inst) → inst_fine depth x ≡ true → SoundInst depth x
unfolding inst_fine
inst_sound depth x e =
    let p = both (id_fine x.id) (leb x.reason 2 && book_fine depth x.waiting x.book) e in
    let q = both (leb x.reason 2) (book_fine depth x.waiting x.book) p.1 in
    go x.waiting refl p.0 (leb-true x.reason 2 q.0) q.1
  where
    go : (w : Bool) → x.waiting ≡ w → id_fine x.id ≡ true → x.reason ≤ 2 → book_fine depth w x.book ≡ true → SoundInst depth x
    go true w i r b =
        let q = both (eqb (length x.book.bids) 0) (eqb (length x.book.offers) 0) b in
        let s : x.book.bids ≡ [] = length_nil x.book.bids (eqb-true _ 0 q.0) in
        let o : x.book.offers ≡ [] = length_nil x.book.offers (eqb-true _ 0 q.1) in
        record { id = i; why = r; bare = λ _. lists_by s o; bids = rw s (empty_side depth); offers = rw o (empty_side depth) }
    go false w i r b =
        let q = both (side_fine depth x.book.bids) (side_fine depth x.book.offers) b in
        record {
          id = i;
          why = r;
          bare = λ v. absurd (true≢false (sym v ∙ w));
          bids = side_sound depth x.book.bids q.0;
          offers = side_sound depth x.book.offers q.1;
        }

sound_inst : (depth : ℕ) (x : Inst) → SoundInst depth x → inst_fine depth x ≡ true
unfolding inst_fine
sound_inst depth x s = and_true s.id (and_true (le-leb x.reason 2 s.why) (go x.waiting refl))
  where
    go : (w : Bool) → x.waiting ≡ w → book_fine depth w x.book ≡ true
    go true w =
        and_true (eq-eqb _ 0 (ap (λ (b : Lists). length b.bids) (s.bare w))) (eq-eqb _ 0 (ap (λ (b : Lists). length b.offers) (s.bare w)))
    go false w = and_true (sound_side depth x.book.bids s.bids) (sound_side depth x.book.offers s.offers)

-- The queue

rising_rises : (from to : ℕ) (qs : List Queued) → rising from to qs ≡ true → Rising from to qs
unfolding rising
rising_rises from to [] e = tt
rising_rises from to (q ∷ qs) e =
    let p = both (within from to q.number) (rising q.number to qs) e in
    let n = within_true from to q.number p.0 in
    (n.0, n.1, rising_rises q.number to qs p.1)

rises_rising : (from to : ℕ) (qs : List Queued) → Rising from to qs → rising from to qs ≡ true
unfolding rising
rises_rising from to [] r = refl
rises_rising from to (q ∷ qs) r = and_true (is_within from to q.number r.0 r.1) (rises_rising q.number to qs r.2)

queued_sound : (depth k : ℕ) (q : Queued) → queued_fine depth k q ≡ true → SoundQueued depth k q
unfolding queued_fine
queued_sound depth k q e =
    let p = both (ltb q.update.who k) (update_fine depth q.update) e in
    record { who = ltb-true q.update.who k p.0; update = p.1 }

sound_queued : (depth k : ℕ) (q : Queued) → SoundQueued depth k q → queued_fine depth k q ≡ true
unfolding queued_fine
sound_queued depth k q s = and_true (lt-ltb q.update.who k s.who) s.update

-- The board

rest_holds : (b : Board) → sound_rest b ≡ true → any_waiting b.insts ≡ false → (b.queue ≡ []) × (b.B ≡ b.H)
rest_holds b e w = go (any_waiting b.insts) w e
  where
    go : (t : Bool) → t ≡ false → t || (eqb (length b.queue) 0 && eqb b.B b.H) ≡ true → (b.queue ≡ []) × (b.B ≡ b.H)
    go true w e = absurd (true≢false w)
    go false w e =
        let q = both (eqb (length b.queue) 0) (eqb b.B b.H) e in
        (length_nil b.queue (eqb-true (length b.queue) 0 q.0), eqb-true b.B b.H q.1)

holds_rest : (b : Board) → (any_waiting b.insts ≡ false → (b.queue ≡ []) × (b.B ≡ b.H)) → sound_rest b ≡ true
holds_rest b h = go (any_waiting b.insts) h
  where
    go : (t : Bool) → (t ≡ false → (b.queue ≡ []) × (b.B ≡ b.H)) → t || (eqb (length b.queue) 0 && eqb b.B b.H) ≡ true
    go true h = refl
    go false h = let q = h refl in and_true (eq-eqb (length b.queue) 0 (ap length q.0)) (eq-eqb b.B b.H q.1)

pub tested_sound : (b : Board) → sound_board b ≡ true → Sound b
unfolding sound_board
tested_sound b e =
    let p = four (sound_numbers b) (sound_insts b) (sound_queue b) (sound_rest b) e in
    let n = four (leb b.depth 1) (leb b.H most_number) (leb b.B b.H) (heard_fine b.H b.heard) p.0 in
    let i = three (within 1 most_insts k) (distinct (ids_of b.insts)) (all (inst_fine b.depth) b.insts) p.1 in
    let m = within_true 1 most_insts k i.0 in
    let q = three (leb (length b.queue) most_queued) (rising (b.B + 1) b.H b.queue) (all (queued_fine b.depth k) b.queue) p.2 in
    record {
      kind = leb-true b.depth 1 n.0;
      last = leb-true b.H most_number n.1;
      base = leb-true b.B b.H n.2;
      heard = n.3;
      some = m.0;
      few = m.1;
      apart = i.1;
      each = all_each (inst_fine b.depth) (SoundInst b.depth) (inst_sound b.depth) b.insts i.2;
      short = leb-true (length b.queue) most_queued q.0;
      rise = rising_rises (b.B + 1) b.H b.queue q.1;
      entries = all_each (queued_fine b.depth k) (SoundQueued b.depth k) (queued_sound b.depth k) b.queue q.2;
      rest = rest_holds b p.3;
    }
  where
    k : ℕ
    k = length b.insts

pub sound_tested : (b : Board) → Sound b → sound_board b ≡ true
unfolding sound_board
sound_tested b s =
    and_true
    (and_true (le-leb b.depth 1 s.kind) (and_true (le-leb b.H most_number s.last) (and_true (le-leb b.B b.H s.base) s.heard)))
    (and_true
    (and_true (is_within 1 most_insts (length b.insts) s.some s.few)
    (and_true s.apart (each_all (inst_fine b.depth) (SoundInst b.depth) (sound_inst b.depth) b.insts s.each)))
    (and_true
    (and_true (le-leb (length b.queue) most_queued s.short)
    (and_true (rises_rising (b.B + 1) b.H b.queue s.rise)
    (each_all (queued_fine b.depth (length b.insts)) (SoundQueued b.depth (length b.insts)) (sound_queued b.depth (length b.insts)) b.queue s.entries)))
    (holds_rest b s.rest)))
