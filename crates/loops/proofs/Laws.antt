-- The laws of loops.
use mathlib.Core.Path.{◌≡◌, refl, sym, ap, ◌∙◌}
use mathlib.Core.Bool.{Bool, true, false, ◌||◌, true≢false, false≢true, and-false}
use mathlib.Core.List.{List, [], ◌∷◌}
use Prim.Native.Nat.{ℕ, zero, suc, ◌+◌, ◌≤◌, ◌<◌}
use native.Mathlib.Nat.{add-zero}
use native.Mathlib.Omega.{arith}
use lib.Dec.{leb, eqb}
use lib.ListN.{length, get_or}
use borrow.Author.Tests.{leb-true, le-leb, ne_eqb}
use Rattle.book.proofs.Tests.{by_test}
use Rattle.message.specs.Message.{Head, most_number, numbered, snapshot, refused}
use Rattle.heading.specs.Marks.{marked}
use Rattle.heading.proofs.Bits.{mark_own}
use Rattle.board.specs.Board.{Inst, Queued, Board, no_inst, look, at, with_insts}
use Rattle.board.specs.Feed.{feed}
use Rattle.board.specs.Calls.{Call, Throughout, is_counted, changes, inst}
use Rattle.board.specs.Laws.{InRange}
use Rattle.board.specs.Ranges.{within, id_fine, head_fine, shown_fine, all, message_fine}
use Rattle.board.specs.Sound.{Each, SoundInst, Sound}
use Rattle.board.proofs.Answers.{refusals_stay, answers_in_table}
use Rattle.board.proofs.Keeping.{feed_sound, calls_sound}
use Rattle.board.proofs.Others.{by_index, none_past, at_settled}
use Rattle.board.proofs.Staying.{same_feed, same_length, same_look}
use Rattle.board.proofs.Tested.{three, within_true}
use Rattle.loops.specs.declared.Loop.{Loop}
use Rattle.loops.specs.Loops.{no_loop, with_name, is_next, in_row, is_whole}
use Rattle.loops.specs.Ending.{at_end, ends, serves, ended}
use Rattle.loops.specs.Channel.{Channel, joined_by, rounded, given}
use Rattle.loops.specs.Sound.{SoundChannel}
use Rattle.loops.specs.Laws.{empty_for, unnamed, NamedStays, LiveStays, OwnStays, KeepsSound, AnswerIsOwn, of_snapshot, touches, RefusedStays, RefusedRounds}
use Rattle.loops.proofs.Joins.{is_named_lem}
use Rattle.loops.proofs.Keeping.{ended_same, rounded_same}
use Rattle.loops.proofs.Sounding.{no_loop_sound, in_row_sound, in_row_low}
use Rattle.loops.proofs.Ending.{end_is_snapshots}

-- ---- instruments that the end does not touch

-- one that stays as the end finds it
ends_stay : (l : Loop) (q : List Queued) (k i : ℕ) (xs : List Inst) → ((x : Inst) → x ≡ get_or xs i no_inst → at_end l q (k + i) x ≡ x)
    → get_or (ends l q k xs) i no_inst ≡ get_or xs i no_inst
unfolding ends
ends_stay l q k i [] h = refl
ends_stay l q k zero (x ∷ xs) h = rw add-zero at (h x refl)
ends_stay l q k (suc i) (x ∷ xs) h =
    ends_stay l q (suc k) i xs (λ y e. let n : suc k + i ≡ k + suc i = omega arith in rw n (h y e))

at_stays : (d : ℕ) (l : Loop) (b : Board) → ((x : Inst) → x ≡ inst d b → at_end l b.queue (look d b.insts) x ≡ x) → inst d (ended l b) ≡ inst d b
unfolding ended
at_stays d l b h =
    let i = look d b.insts in
    let q = b.queue in
    let z : 0 + i ≡ i = omega arith in
    ap (λ (k : ℕ). at k (ended l b)) (same_look d (ended l b) b (ended_same l b))
    ∙ by_test (λ (c : Board). at i c ≡ at i b) (serves l b)
    (λ _. at_settled i true (with_insts (ends l q 0 b.insts) b) b (ends_stay l q 0 i b.insts (rw z h)))
    (λ _. refl)

pub named_stays : NamedStays
unfolding at_end
named_stays d l b m = at_stays d l b (λ x _. rw (m, and-false))

pub live_stays : LiveStays
unfolding at_end
live_stays d l b w = at_stays d l b (λ x e. let v : x.waiting ≡ false = ap (λ (y : Inst). y.waiting) e ∙ w in rw v)

-- the instrument of a W that makes the loop whole is named
in_row_named : (h : Head) (n i : ℕ) (l : Loop) → i < n → n ≤ 16 → is_whole (in_row h n i l) ≡ true → marked (in_row h n i l).named i ≡ true
unfolding in_row is_whole
in_row_named h n i l p few =
    by_test P (eqb h.number 1) (λ _ _. own 0)
    (λ _. by_test P (is_next h l) (λ _ _. own l.named) none)
  where
    P : Loop → Type 0
    P k = is_whole k ≡ true → marked k.named i ≡ true

    own : (m : ℕ) → marked (with_name n i m) i ≡ true
    own m = ap (λ (k : ℕ). marked k i) (is_named_lem n i m p) ∙ mark_own m i (omega arith)

    none : is_next h l ≡ false → P no_loop
    none _ w = absurd (false≢true w)

pub own_stays : OwnStays
own_stays h l b c s few =
    by_index j b (inst d (rounded k c).board ≡ inst d c)
    (λ p. by_test (λ (e : Channel). inst d e.board ≡ inst d c) (is_whole k)
    (λ w. named_stays d k c (rw (same_look d c b s) (in_row_named h n j l p few w))) (λ _. refl))
    (λ p.
    let o = rounded_same k c in
    let q = same_look d (rounded k c).board c o in
    let r : length c.insts ≤ look d c.insts = rw (same_look d c b s, same_length c b s) p in
    ap (λ (i : ℕ). at i (rounded k c).board) q ∙ none_past (look d c.insts) c (rounded k c).board o r)
  where
    d : ℕ
    d = h.id

    n : ℕ
    n = length b.insts

    j : ℕ
    j = look d b.insts

    k : Loop
    k = joined_by h b l

-- ---- soundness

-- an empty snapshot is in range
empty_fine_lem : (depth d S : ℕ) → id_fine d ≡ true → S ≤ most_number → message_fine depth (empty_for d S) ≡ true
unfolding message_fine head_fine
empty_fine_lem depth d S i h = rw (i, le-leb S most_number h)

all_fine : (l : Loop) (i : ℕ) (depth : ℕ) (xs : List Inst) (b : Board) → l.low ≤ most_number → Each (SoundInst depth) xs → Throughout InRange (unnamed l i xs) b
unfolding unnamed
all_fine l i depth [] b h e = tt
all_fine l i depth (x ∷ xs) b h e =
    by_test (λ (cs : List Call). Throughout InRange cs b) (marked l.named i) (λ _. all_fine l (suc i) depth xs b h e.1)
    (λ _. (empty_fine_lem b.depth x.id l.low e.0.id h, all_fine l (suc i) depth xs (feed (empty_for x.id l.low) b).board h e.1))

pub ended_sound : (l : Loop) (b : Board) → Sound b → l.low ≤ most_number → Sound (ended l b)
ended_sound l b s h =
    rw (end_is_snapshots l b s) (calls_sound (unnamed l 0 b.insts) b s (all_fine l 0 b.depth b.insts b h s.each))

pub keeps_sound : KeepsSound
unfolding given message_fine
keeps_sound (numbered n heard us) c s f =
    record {
      board = feed_sound (numbered n heard us) c.board s.board f;
      loop = rw (same_length _ c.board (same_feed (numbered n heard us) c.board)) s.loop;
    }
keeps_sound (refused why) c s f =
    record {
      board = feed_sound (refused why) c.board s.board f;
      loop = rw (same_length _ c.board (same_feed (refused why) c.board)) s.loop;
    }
keeps_sound (snapshot h us) c s f =
    by_test SoundChannel (is_whole k)
    (λ _. record { board = ended_sound k b (feed_sound (snapshot h us) c.board s.board f) (in_row_low n i h c.loop fine s.loop); loop = no_loop_sound (length (ended k b).insts) })
    (λ e. record { board = feed_sound (snapshot h us) c.board s.board f; loop = rw (same_length b c.board (same_feed (snapshot h us) c.board)) (in_row_sound n i h c.loop fine s.loop e) })
  where
    b : Board
    b = (feed (snapshot h us) c.board).board

    n : ℕ
    n = length c.board.insts

    i : ℕ
    i = look h.id c.board.insts

    k : Loop
    k = joined_by h c.board c.loop

    fine : head_fine h ≡ true
    fine = (three (head_fine h) (leb (length us) 64) (all (shown_fine c.board.depth) us) f).0

-- ---- answers

pub answer_is_own : AnswerIsOwn
unfolding given
answer_is_own (numbered n heard us) c = refl
answer_is_own (snapshot h us) c = refl
answer_is_own (refused why) c = refl

-- an answer that is counted, or not
counted_not : (a : ℕ) → touches a ≡ false → is_counted a ≡ false
counted_not a e = go (is_counted a) (of_snapshot a) e
  where
    go : (s t : Bool) → s || t ≡ false → s ≡ false
    go true t e = absurd (true≢false e)
    go false t e = refl

-- of a message that is no W it then changes no board
untouched : (a : ℕ) → touches a ≡ false → (a ≡ 4 → ⊥) → (a ≡ 10 → ⊥) → changes a ≡ false
untouched a e f g = rw (counted_not a e, ne_eqb a 4 f, ne_eqb a 10 g)

refused_five : (a : ℕ) → within 5 9 a ≡ true → changes a ≡ false
refused_five a e =
    let p = within_true 5 9 a e in
    rw (ne_eqb a 0 (λ z. omega (arith, p.0, z)), ne_eqb a 1 (λ z. omega (arith, p.0, z)), ne_eqb a 3 (λ z. omega (arith, p.0, z)), ne_eqb a 4 (λ z. omega (arith, p.0, z)), ne_eqb a 10 (λ z. omega (arith, p.1, z)))

pub refused_stays : RefusedStays
unfolding given
refused_stays (numbered n heard us) c e =
    let a = (feed (numbered n heard us) c.board).answer in
    let l = leb-true a 3 (answers_in_table (numbered n heard us) c.board) in
    let q : (feed (numbered n heard us) c.board).board ≡ c.board = refusals_stay (numbered n heard us) c.board (untouched a e (λ z. omega (arith, z, l)) (λ z. omega (arith, z, l))) in
    rw q
refused_stays (refused why) c e =
    let a = (feed (refused why) c.board).answer in
    let l = (within_true 11 14 a (answers_in_table (refused why) c.board)).0 in
    let q : (feed (refused why) c.board).board ≡ c.board = refusals_stay (refused why) c.board (untouched a e (λ z. omega (arith, z, l)) (λ z. omega (arith, z, l))) in
    rw q
refused_stays (snapshot h us) c e = absurd (go (is_counted a) (answers_in_table (snapshot h us) c.board) e)
  where
    a : ℕ
    a = (feed (snapshot h us) c.board).answer

    go : (s : Bool) → within 4 10 a ≡ true → s || within 4 10 a ≡ false → ⊥
    go true w e = true≢false e
    go false w e = true≢false (sym w ∙ e)

pub refused_rounds : RefusedRounds
unfolding given
refused_rounds h us c e =
    let q : (feed (snapshot h us) c.board).board ≡ c.board = refusals_stay (snapshot h us) c.board (refused_five (feed (snapshot h us) c.board).answer e) in
    rw q
