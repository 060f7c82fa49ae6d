-- A sound channel stays sound: the record of its loop stays in range, and the loop's end is snapshots.
use mathlib.Core.Path.{◌≡◌, refl, ap, ◌∙◌}
use mathlib.Core.Bool.{Bool, true, false, cond, ◌&&◌, true≢false}
use Prim.Native.Nat.{ℕ, ◌+◌, ◌≤◌, ◌<◌, ◌^◌}
use native.Mathlib.Omega.{arith}
use lib.Dec.{leb, ltb, eqb}
use lib.ListN.{length}
use lib.Pow.{pow_pos}
use borrow.Author.Tests.{leb-true, ltb-true, ltb-false, eqb-true, eqb-false, le-leb, lt-ltb, ne_eqb, leb-false}
use Rattle.book.proofs.Tests.{by_test}
use Rattle.message.specs.Message.{Head, most_number}
use Rattle.heading.proofs.Bits.{mark_lt}
use Rattle.board.specs.Ranges.{within, moment_fine, id_fine, head_fine}
use Rattle.board.specs.Sound.{sound_board}
use Rattle.board.proofs.Tested.{both, and_true, within_true, tested_sound, sound_tested}
use Rattle.loops.specs.declared.Loop.{Loop}
use Rattle.loops.specs.Loops.{no_loop, with_name, lower, begun, is_next, grown, in_row, is_whole}
use Rattle.loops.specs.Channel.{Channel}
use Rattle.loops.specs.Sound.{rests_loop, runs_loop, sound_loop, sound_channel, SoundChannel}
use Rattle.loops.proofs.Joins.{next_is}

-- ---- the tests as facts

-- one that runs on a channel of k instruments
pub record Runs (k : ℕ) (l : Loop) : Type 0 where
  pub some : 1 ≤ l.come
  pub fewer : l.come < l.loops
  pub loops : l.loops ≤ most_number
  pub low : l.low ≤ most_number
  pub named : l.named < 2 ^ k

module _ (k : ℕ) (l : Loop) where
  runs_of : runs_loop k l ≡ true → Runs k l
  runs_of e =
      let p = both (leb 1 l.come && ltb l.come l.loops && leb l.loops most_number && leb l.low most_number) (ltb l.named (2 ^ k)) e in
      let q = both (leb 1 l.come && ltb l.come l.loops && leb l.loops most_number) (leb l.low most_number) p.0 in
      let r = both (leb 1 l.come && ltb l.come l.loops) (leb l.loops most_number) q.0 in
      let s = both (leb 1 l.come) (ltb l.come l.loops) r.0 in
      record {
        some = leb-true 1 l.come s.0;
        fewer = ltb-true l.come l.loops s.1;
        loops = leb-true l.loops most_number r.1;
        low = leb-true l.low most_number q.1;
        named = ltb-true l.named (2 ^ k) p.1;
      }

  runs_sound : Runs k l → sound_loop k l ≡ true
  unfolding sound_loop
  runs_sound r =
      rw (ne_eqb l.loops 0 (λ z. omega (arith, r.some, r.fewer, z)))
      (and_true (and_true (and_true (and_true (le-leb _ _ r.some) (lt-ltb _ _ r.fewer)) (le-leb _ _ r.loops)) (le-leb _ _ r.low)) (lt-ltb _ _ r.named))

  -- none runs, or one does
  by_loop : (P : Type 0) → sound_loop k l ≡ true → (l.come ≡ 0 → l.low ≡ 0 → l.named ≡ 0 → P) → (Runs k l → P) → P
  unfolding sound_loop
  by_loop P e none one = go (eqb l.loops 0) e
    where
      go : (t : Bool) → cond t (rests_loop l) (runs_loop k l) ≡ true → P
      go true e =
          let p = both (eqb l.come 0 && eqb l.low 0) (eqb l.named 0) e in
          let q = both (eqb l.come 0) (eqb l.low 0) p.0 in
          none (eqb-true l.come 0 q.0) (eqb-true l.low 0 q.1) (eqb-true l.named 0 p.1)
      go false e = one (runs_of e)

  pub come_below : sound_loop k l ≡ true → l.come ≤ most_number
  come_below e = by_loop (l.come ≤ most_number) e (λ c _ _. omega (arith, c)) (λ r. omega (arith, r.fewer, r.loops))

  pub named_below : sound_loop k l ≡ true → l.named < 2 ^ k
  named_below e = by_loop (l.named < 2 ^ k) e (λ _ _ c. rw c (pow_pos k)) (λ r. r.named)

pub tested_channel : (c : Channel) → sound_channel c ≡ true → SoundChannel c
unfolding sound_channel
tested_channel c e =
    let p = both (sound_board c.board) (sound_loop (length c.board.insts) c.loop) e in
    record { board = tested_sound c.board p.0; loop = p.1 }

pub channel_tested : (c : Channel) → SoundChannel c → sound_channel c ≡ true
unfolding sound_channel
channel_tested c s = and_true (sound_tested c.board s.board) s.loop

-- ---- a W in the row

pub no_loop_sound : (k : ℕ) → sound_loop k no_loop ≡ true
unfolding sound_loop
no_loop_sound k = refl

name_lt : (n i named : ℕ) → named < 2 ^ n → with_name n i named < 2 ^ n
unfolding with_name
name_lt n i named h = by_test (λ (m : ℕ). m < 2 ^ n) (leb n i) (λ _. h) (λ e. mark_lt named i n (leb-false n i e) h)

lower_le : (a b m : ℕ) → a ≤ m → b ≤ m → lower a b ≤ m
unfolding lower
lower_le a b m h g = by_test (λ (k : ℕ). k ≤ m) (ltb a b) (λ _. h) (λ _. g)

-- what a W has in range
record Fine (h : Head) : Type 0 where
  loops_low : 1 ≤ h.loops
  loops : h.loops ≤ most_number
  last : h.last ≤ most_number

fine_of : (h : Head) → head_fine h ≡ true → Fine h
unfolding head_fine
fine_of h e =
    let p = both (within 1 most_number h.number) (moment_fine h.heard && (id_fine h.id && (leb h.last most_number && within 1 most_number h.loops))) e in
    let q = both (moment_fine h.heard) (id_fine h.id && (leb h.last most_number && within 1 most_number h.loops)) p.1 in
    let r = both (id_fine h.id) (leb h.last most_number && within 1 most_number h.loops) q.1 in
    let s = both (leb h.last most_number) (within 1 most_number h.loops) r.1 in
    let w = within_true 1 most_number h.loops s.1 in
    record { loops_low = w.0; loops = w.1; last = leb-true h.last most_number s.0 }

-- a record of a loop of which all or fewer have come, in range; where it is not whole it is sound
record Near (k : ℕ) (l : Loop) : Type 0 where
  some : 1 ≤ l.come
  most : l.come ≤ l.loops
  loops : l.loops ≤ most_number
  low : l.low ≤ most_number
  named : l.named < 2 ^ k

apart : (a b : ℕ) → a ≤ b → (a ≡ b → ⊥) → a < b
apart a b h d = go (ltb a b) refl
  where
    go : (t : Bool) → ltb a b ≡ t → a < b
    go true e = ltb-true a b e
    go false e = absurd (d (omega (arith, ltb-false a b e)))

near_sound : (k : ℕ) (l : Loop) → Near k l → is_whole l ≡ false → sound_loop k l ≡ true
unfolding is_whole
near_sound k l n e = go (ltb 0 l.loops) (eqb l.come l.loops) refl refl e
  where
    go : (s t : Bool) → ltb 0 l.loops ≡ s → eqb l.come l.loops ≡ t → s && t ≡ false → sound_loop k l ≡ true
    go true true p q e = absurd (true≢false e)
    go true false p q e =
        let d = eqb-false l.come l.loops q in
        runs_sound k l (record { some = n.some; fewer = apart l.come l.loops n.most d; loops = n.loops; low = n.low; named = n.named })
    go false t p q e = absurd (omega (arith, ltb-false 0 l.loops p, n.some, n.most))

-- so with one more W it is dropped or near, and its lowest 369 is in range
in_row_near : (k i : ℕ) (h : Head) (l : Loop) → head_fine h ≡ true → sound_loop k l ≡ true → (P : Loop → Type 0) → P no_loop
    → ((m : Loop) → Near k m → P m) → P (in_row h k i l)
unfolding in_row
in_row_near k i h l f s P none near =
    let w = fine_of h f in
    by_test P (eqb h.number 1)
    (λ _. near (begun h k i) (record { some = omega arith; most = w.loops_low; loops = w.loops; low = w.last; named = name_lt k i 0 (pow_pos k) }))
    (λ e. by_test P (is_next h l)
    (λ g. by_loop k l (P (grown h k i l)) s
    (λ c _ _. absurd (eqb-false h.number 1 e ((next_is h l g).0 ∙ ap (λ (n : ℕ). n + 1) c)))
    (λ r. near (grown h k i l) (record {
      some = omega arith;
      most = omega (arith, r.fewer);
      loops = r.loops;
      low = lower_le l.low h.last most_number r.low w.last;
      named = name_lt k i l.named r.named;
    })))
    (λ _. none))

pub in_row_sound : (k i : ℕ) (h : Head) (l : Loop) → head_fine h ≡ true → sound_loop k l ≡ true → is_whole (in_row h k i l) ≡ false
    → sound_loop k (in_row h k i l) ≡ true
in_row_sound k i h l f s = in_row_near k i h l f s (λ m. is_whole m ≡ false → sound_loop k m ≡ true) (λ _. no_loop_sound k) (λ m n. near_sound k m n)

pub in_row_low : (k i : ℕ) (h : Head) (l : Loop) → head_fine h ≡ true → sound_loop k l ≡ true → (in_row h k i l).low ≤ most_number
in_row_low k i h l f s = in_row_near k i h l f s (λ m. m.low ≤ most_number) (omega arith) (λ m n. n.low)
