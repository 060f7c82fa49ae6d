-- Opening makes a sound board, and every call with a message in range keeps it sound.
use mathlib.Core.Path.{◌≡◌, refl, ◌∙◌, ap, sym, subst}
use mathlib.Core.Bool.{Bool, true, false, cond, ◌&&◌, ◌||◌, true≢false}
use mathlib.Core.List.{List, [], ◌∷◌, map}
use Prim.Native.Nat.{ℕ, suc, ◌+◌, ◌-◌, ◌≤◌, ◌<◌}
use native.Mathlib.Omega.{arith}
use lib.Dec.{ltb, leb, eqb}
use lib.ListN.{length, set, length-map}
use borrow.Author.Tests.{ltb-true, ltb-false, leb-true, ne_eqb}
use Rattle.book.specs.Rules.{Lists, empty, Outcome, leaves, breach, most_places, for_all, applied}
use Rattle.book.specs.Canonical.{All}
use Rattle.book.specs.declared.Update.{Update}
use Rattle.message.specs.Message.{Message, numbered, snapshot, refused}
use Rattle.book.proofs.Tests.{by_test}
use Rattle.board.specs.Board.{Inst, Queued, any_waiting, Board, ids_of, fresh, opened, look, no_inst, at, with_insts, with_queue, put, broken, let_go, settled}
use Rattle.board.specs.Count.{most_queued, overflows, count_by, aimed, joining, landed, hit, give, gives, counted, longer, count, clear, cleared, number}
use Rattle.board.specs.Snapshot.{take, snap_by, entries_of, shown, run, after, too_wide, snap}
use Rattle.board.specs.Feed.{feed}
use Rattle.board.specs.Calls.{Call, fed, aside, calls, Throughout}
use Rattle.board.specs.Ranges.{all, within, most_number, id_fine, moment_fine, entry_fine, empty_fine, update_fine, shown_fine, head_fine, said_fine, message_fine}
use Rattle.board.specs.Sound.{most_insts, distinct, opens, heard_fine, Each, SoundSide, SoundInst, Rising, SoundQueued, Sound}
use Rattle.board.specs.Laws.{OpensSound, KeepsSound, InRange, StaysSound}
use Rattle.board.proofs.Finding.{length_ids}
use Rattle.board.proofs.Giving.{ids_put, gives_only, gives_ids}
use Rattle.board.proofs.Staying.{ids_clear}
use Rattle.board.proofs.Tested.{both, three, four, within_true, all_each, empty_side, tested_sound, sound_tested}
use Rattle.board.proofs.Each.{each_map, each_append, each_at, each_set}
use Rattle.board.proofs.Books.{Fine, FineEntry, SoundBook, SoundOutcome, applied_sound, run_sound}
use Rattle.board.proofs.Queued.{rising_longer, rising_more, joining_each, after_each}
use Rattle.board.proofs.Cases.{count_is, number_is, snap_by_lem, take_is}

-- Instruments

waiting_sound : (depth : ℕ) (x : Inst) → id_fine x.id ≡ true → x.reason ≤ 2 → x.book ≡ empty → SoundInst depth x
waiting_sound depth x i r e =
    record {
      id = i;
      why = r;
      bare = λ _. e;
      bids = subst (λ (b : Lists). SoundSide depth b.bids) (sym e) (empty_side depth);
      offers = subst (λ (b : Lists). SoundSide depth b.offers) (sym e) (empty_side depth);
    }

live_sound : (depth : ℕ) (x : Inst) → id_fine x.id ≡ true → x.reason ≤ 2 → x.waiting ≡ false → SoundBook depth x.book → SoundInst depth x
live_sound depth x i r w s = record { id = i; why = r; bare = λ v. absurd (true≢false (sym v ∙ w)); bids = s.bids; offers = s.offers }

hit_sound : (depth : ℕ) (u : Update) (x : Inst) → Fine depth u → SoundInst depth x → SoundInst depth (hit u x)
unfolding hit
hit_sound depth u x f s = go x.waiting refl (applied x.book u) (applied_sound depth x.book u (record { bids = s.bids; offers = s.offers }) f)
  where
    go : (w : Bool) → x.waiting ≡ w → (o : Outcome Lists) → SoundOutcome depth o → SoundInst depth (cond w x (landed x o))
    go true w o k = s
    go false w (leaves b) k = live_sound depth (landed x (leaves b)) s.id s.why w k
    go false w (breach r) k = waiting_sound depth (broken x r) s.id k refl

gives_each : (depth : ℕ) (us : List Update) (b : Board) → Each (Fine depth) us
    → Each (SoundInst depth) b.insts → Each (SoundInst depth) (gives us b).insts
unfolding gives give
gives_each depth [] b f e = e
gives_each depth (u ∷ us) b f e =
    gives_each depth us (give u b) f.1
    (by_test (Each (SoundInst depth)) (for_all u)
    (λ _. each_map (SoundInst depth) (SoundInst depth) (hit u) (λ x. hit_sound depth u x f.0) b.insts e)
    (λ _. each_set (SoundInst depth) b.insts u.who (hit u (at u.who b)) e
    (λ l. hit_sound depth u (at u.who b) f.0 (each_at (SoundInst depth) b.insts u.who no_inst e l))))

-- The two parts of a sound board that a call works on: its instruments, and its queue from B up to the number h
record Insts (depth : ℕ) (xs : List Inst) : Type 0 where
  kind : depth ≤ 1
  some : 1 ≤ length xs
  few : length xs ≤ most_insts
  apart : distinct (ids_of xs) ≡ true
  each : Each (SoundInst depth) xs

record Queue (depth k from h : ℕ) (qs : List Queued) : Type 0 where
  base : from ≤ h
  short : length qs ≤ most_queued
  rise : Rising (from + 1) h qs
  entries : Each (SoundQueued depth k) qs

abbrev QueueOf : ℕ → Board → Type 0
QueueOf h b = Queue b.depth (length b.insts) b.B h b.queue

insts_of : (b : Board) → Sound b → Insts b.depth b.insts
insts_of b s = record { kind = s.kind; some = s.some; few = s.few; apart = s.apart; each = s.each }

queue_of : (b : Board) → Sound b → QueueOf b.H b
queue_of b s = record { base = s.base; short = s.short; rise = s.rise; entries = s.entries }

-- other instruments with the same SecurityIDs
insts_same : (depth : ℕ) (xs ys : List Inst) → ids_of ys ≡ ids_of xs → Insts depth xs → Each (SoundInst depth) ys → Insts depth ys
insts_same depth xs ys e i s =
    let n = length_ids ys xs e in
    record { kind = i.kind; some = rw n i.some; few = rw n i.few; apart = rw e i.apart; each = s }

empty_queue : (depth k h : ℕ) → Queue depth k h h []
empty_queue depth k h = record { base = omega arith; short = omega arith; rise = tt; entries = tt }

-- At the end of a call

sound_of : (b : Board) → Insts b.depth b.insts → QueueOf b.H b → b.H ≤ most_number → heard_fine b.H b.heard ≡ true
    → (any_waiting b.insts ≡ false → (b.queue ≡ []) × (b.B ≡ b.H)) → Sound b
sound_of b i q l t rest =
    record {
      kind = i.kind;
      last = l;
      base = q.base;
      heard = t;
      some = i.some;
      few = i.few;
      apart = i.apart;
      each = i.each;
      short = q.short;
      rise = q.rise;
      entries = q.entries;
      rest = rest;
    }

settled_sound : (w : Bool) (b : Board) → Insts b.depth b.insts → QueueOf b.H b → b.H ≤ most_number → heard_fine b.H b.heard ≡ true
    → Sound (settled w b)
settled_sound false b i q l t = sound_of (let_go b) i (empty_queue b.depth (length b.insts) b.H) l t (λ _. (refl, refl))
settled_sound true b i q l t =
    by_test Sound (any_waiting b.insts) (λ a. sound_of b i q l t (λ f. absurd (true≢false (sym a ∙ f))))
    (λ _. sound_of _ i (empty_queue b.depth (length b.insts) b.H) l t (λ _. (refl, refl)))

-- Live instruments got their entries
given_sound : (w : Bool) (us : List Update) (b : Board) → b.H ≤ most_number → heard_fine b.H b.heard ≡ true → Insts b.depth b.insts
    → Each (Fine b.depth) us → QueueOf b.H b → Sound (settled w (gives us b))
given_sound w us b l t i f q =
    let e = gives_ids us b in
    subst (λ (c : Board). Sound (settled w c)) (sym (gives_only us b))
    (settled_sound w (with_insts (gives us b).insts b)
    (insts_same b.depth b.insts (gives us b).insts e i (gives_each b.depth us b f i.each))
    (rw (length_ids (gives us b).insts b.insts e) q) l t)

-- A counted message
module _ (n heard : ℕ) (us : List Update) (above : 1 ≤ n) (below : n ≤ most_number) (moment : moment_fine heard ≡ true) where
  heard_fine_lem : heard_fine n heard ≡ true
  heard_fine_lem = rw (ne_eqb n 0 (λ z. omega arith)) moment

  count_sound : (a h : ℕ) (b : Board) → n ≡ suc h → Insts b.depth b.insts → QueueOf h b → Each (Fine b.depth) us
      → Sound (count a n heard us b).board
  count_sound a h b next i q f =
      count_is (λ o. Sound o.board) a n heard us b
      (λ _. given_sound false us (counted n heard b) below heard_fine_lem i f
      (record {
        base = omega (arith, q.base);
        short = q.short;
        rise = rising_more (b.B + 1) h n b.queue q.rise (omega arith);
        entries = q.entries;
      }))
      queued
    where
      k : ℕ
      k = length b.insts

      queued : (over : Bool) → overflows n us b ≡ over → Sound (count_by true over a n heard us b).board
      queued true e = given_sound true us (let_go (counted n heard b)) below heard_fine_lem i f (empty_queue b.depth k n)
      queued false e =
          given_sound true us (with_queue (longer n us b) (counted n heard b)) below heard_fine_lem i f
          (record {
            base = omega (arith, q.base);
            short = ltb-false most_queued (length (longer n us b)) e;
            rise = rising_longer (b.B + 1) h n k b.queue us q.rise (omega (arith, q.base)) (omega arith);
            entries = each_append (SoundQueued b.depth k) b.queue (joining n k us) q.entries (joining_each b.depth n k us f);
          })

  cleared_insts : (b : Board) → Insts b.depth b.insts → Insts b.depth (map clear b.insts)
  cleared_insts b i =
      insts_same b.depth b.insts (map clear b.insts) (ids_clear b.insts) i
      (each_map (SoundInst b.depth) (SoundInst b.depth) clear (λ x k. waiting_sound b.depth (clear x) k.id k.why refl) b.insts i.each)

  number_sound : (b : Board) → Sound b → Each (Fine b.depth) us → Sound (number n heard us b).board
  number_sound b s f =
      number_is (λ o. Sound o.board) n heard us b (λ _ _. s)
      (λ e. count_sound 0 b.H b e (insts_of b s) (queue_of b s) f)
      (λ l. count_sound 1 (n - 1) (cleared n b) (omega arith) (cleared_insts b (insts_of b s)) (empty_queue b.depth (length (map clear b.insts)) (n - 1)) f)

-- A snapshot

put_sound : (i : ℕ) (x : Inst) (b : Board) → Sound b → x.id ≡ (at i b).id → SoundInst b.depth x → Sound (settled true (put i x b))
put_sound i x b s e h =
    let p = ids_put i x b e in
    settled_sound true (put i x b)
    (insts_same b.depth b.insts (set b.insts i x) p (insts_of b s) (each_set (SoundInst b.depth) b.insts i x s.each (λ _. h)))
    (rw (length_ids (set b.insts i x) b.insts p) (queue_of b s)) s.last s.heard

entries_of_lem : (depth side : ℕ) (us : List Update) → Each (λ u. shown_fine depth u ≡ true) us → All (FineEntry depth) (entries_of side us)
unfolding entries_of shown_fine
entries_of_lem depth side [] f = tt
entries_of_lem depth side (u ∷ us) f = go (eqb u.what side) (entries_of_lem depth side us f.1)
  where
    go : (t : Bool) → All (FineEntry depth) (entries_of side us) → All (FineEntry depth) (cond t (u.entry ∷ entries_of side us) (entries_of side us))
    go true r = ((three (leb u.what 1) (eqb u.action 0) (entry_fine depth u.entry) f.0).2, r)
    go false r = r

-- no side over 20
fits : (l : Lists) → too_wide l ≡ false → (length l.bids ≤ most_places) × (length l.offers ≤ most_places)
fits l e = go (ltb most_places (length l.bids)) (ltb most_places (length l.offers)) refl refl e
  where
    go : (p q : Bool) → ltb most_places (length l.bids) ≡ p → ltb most_places (length l.offers) ≡ q → p || q ≡ false
        → (length l.bids ≤ most_places) × (length l.offers ≤ most_places)
    go true q p r e = absurd (true≢false e)
    go false true p q e = absurd (true≢false e)
    go false false p q e = (ltb-false most_places (length l.bids) p, ltb-false most_places (length l.offers) q)

snap_sound : (d S : ℕ) (us : List Update) (b : Board) → Sound b → Each (λ u. shown_fine b.depth u ≡ true) us → Sound (snap d S (shown us) b).board
snap_sound d S us b s f = snap_by_lem (λ o. Sound o.board) d S (shown us) b go
  where
    i : ℕ
    i = look d b.insts

    ran : too_wide (shown us) ≡ false → SoundOutcome b.depth (run (after i S b.queue) (shown us))
    ran e =
        let w = fits (shown us) e in
        run_sound b.depth (after i S b.queue) (shown us)
        (record {
          bids = record { room = w.0; entries = entries_of_lem b.depth 0 us f };
          offers = record { room = w.1; entries = entries_of_lem b.depth 1 us f };
        })
        (after_each b.depth (length b.insts) i S b.queue s.entries)

    taken : i < length b.insts → too_wide (shown us) ≡ false → Sound (take i S (shown us) b).board
    taken l e =
        let x = each_at (SoundInst b.depth) b.insts i no_inst s.each l in
        take_is (λ o. Sound o.board) i S (shown us) b
        (λ c q. put_sound i _ b s refl (live_sound b.depth _ x.id (omega arith) refl (subst (SoundOutcome b.depth) q (ran e))))
        (λ r q. put_sound i _ b s refl (waiting_sound b.depth _ x.id (subst (SoundOutcome b.depth) q (ran e)) refl))

    go : (g w below above wide : Bool) → ltb i (length b.insts) ≡ g → ltb S b.B ≡ below → ltb b.H S ≡ above → too_wide (shown us) ≡ wide
        → Sound (snap_by g w below above wide i S (shown us) b).board
    go false w below above wide _ _ _ _ = s
    go true false below above wide _ _ _ _ = s
    go true true true above wide _ _ _ _ = s
    go true true false true wide _ _ _ _ = s
    go true true false false true _ _ _ _ = s
    go true true false false false g _ _ e = taken (ltb-true i (length b.insts) g) e

-- who an entry is for plays no part in its range, and one for all keeps 0
aimed_empty : (xs : List Inst) (u : Update) → empty_fine u.who u.what ≡ true → empty_fine (aimed xs u).who u.what ≡ true
aimed_empty xs u = go (eqb u.what 2) (for_all u) (eqb u.who 0)
  where
    go : (j a z : Bool) → j || (a && z) ≡ true → j || (a && eqb (cond a 0 (look u.who xs)) 0) ≡ true
    go true a z h = refl
    go false true z h = refl
    go false false z h = h

aimed_fine : (depth : ℕ) (xs : List Inst) (u : Update) → Fine depth u → update_fine depth (aimed xs u) ≡ true
unfolding update_fine
aimed_fine depth xs u = go (leb u.what 1) (empty_fine u.who u.what) (empty_fine (aimed xs u).who u.what) _ _ (aimed_empty xs u)
  where
    go : (w p q a r : Bool) → (p ≡ true → q ≡ true) → cond w a (p && r) ≡ true → cond w a (q && r) ≡ true
    go true p q a r k h = h
    go false true q a r k h = rw (k refl) h
    go false false q a r k h = absurd (true≢false (sym h))

pub feed_sound : (m : Message) (b : Board) → Sound b → message_fine b.depth m ≡ true → Sound (feed m b).board
unfolding feed message_fine
feed_sound (numbered n heard us) b s f =
    let p = four (within 1 most_number n) (moment_fine heard) (leb (length us) 64) (all (said_fine b.depth) us) f in
    let q = within_true 1 most_number n p.0 in
    number_sound n heard (map (aimed b.insts) us) q.0 q.1 p.1 b s
    (each_map (Fine b.depth) (Fine b.depth) (aimed b.insts) (aimed_fine b.depth b.insts) us
    (all_each (said_fine b.depth) (Fine b.depth) (λ u h. (both (for_all u || id_fine u.who) (update_fine b.depth u) h).1) us p.3))
feed_sound (snapshot h us) b s f =
    let p = three (head_fine h) (leb (length us) 64) (all (shown_fine b.depth) us) f in
    snap_sound h.id h.last us b s (all_each (shown_fine b.depth) (λ u. shown_fine b.depth u ≡ true) (λ u k. k) us p.2)
feed_sound (refused why) b s f = s

-- Opening takes the depth kind and 1 to 16 distinct SecurityIDs

ids_fresh : (ids : List ℕ) → ids_of (map fresh ids) ≡ ids
ids_fresh [] = refl
ids_fresh (d ∷ ids) = ap (d ∷◌) (ids_fresh ids)

pub opened_sound : (depth : ℕ) (ids : List ℕ) → opens depth ids ≡ true → Sound (opened depth ids)
opened_sound depth ids h =
    let p = four (leb depth 1) (within 1 most_insts (length ids)) (distinct ids) (all id_fine ids) h in
    let q = within_true 1 most_insts (length ids) p.1 in
    let n = length-map ids fresh in
    sound_of (opened depth ids)
    (record {
      kind = leb-true depth 1 p.0;
      some = rw n q.0;
      few = rw n q.1;
      apart = rw (ids_fresh ids) p.2;
      each = each_map (λ d. id_fine d ≡ true) (SoundInst depth) fresh (λ d h. waiting_sound depth (fresh d) h (omega arith) refl) ids
          (all_each id_fine (λ d. id_fine d ≡ true) (λ d h. h) ids p.3);
    })
    (empty_queue depth (length (map fresh ids)) 0) (omega arith) refl (λ _. (refl, refl))

-- Any calls from opening

pub calls_sound : (cs : List Call) (b : Board) → Sound b → Throughout InRange cs b → Sound (calls cs b)
calls_sound [] b s f = s
calls_sound (fed m ∷ cs) b s f = calls_sound cs (feed m b).board (feed_sound m b s f.0) f.1
calls_sound (aside a ∷ cs) b s f = calls_sound cs b s f.1

-- The same in tests

pub opens_sound : OpensSound
opens_sound depth ids h = sound_tested (opened depth ids) (opened_sound depth ids h)

pub keeps_sound : KeepsSound
keeps_sound m b s h = sound_tested (feed m b).board (feed_sound m b (tested_sound b s) h)

pub stays_sound : StaysSound
stays_sound depth ids cs h f = sound_tested (calls cs (opened depth ids)) (calls_sound cs (opened depth ids) (opened_sound depth ids h) f)
