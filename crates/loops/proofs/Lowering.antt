-- Calls on a channel as calls on its board: a W that ends a loop is that W and the empty snapshots behind it.
use mathlib.Core.Path.{◌≡◌, refl, sym, ap, ◌∙◌}
use mathlib.Core.Bool.{Bool, true, false, cond, not, ◌||◌, true≢false}
use mathlib.Core.List.{List, [], ◌∷◌, ◌++◌}
use Prim.Native.Nat.{ℕ, suc}
use native.Mathlib.Omega.{arith}
use lib.Dec.{ltb, eqb}
use lib.ListN.{length}
use borrow.Author.Tests.{eqb-true, eqb-false, not-true}
use Rattle.book.proofs.Tests.{by_test}
use Rattle.message.specs.Message.{Head, numbered, snapshot, refused}
use Rattle.book.specs.declared.Update.{Update}
use Rattle.heading.specs.Marks.{marked}
use Rattle.board.specs.Board.{Inst, Board, Out, ids_of, look}
use Rattle.board.specs.Feed.{feed}
use Rattle.board.specs.Calls as board
use Rattle.board.specs.Calls.{Call, fed, aside, inst, Live}
use Rattle.board.specs.Laws.{InRange}
use Rattle.board.specs.Snapshot.{shown, too_wide, snap_by, snap}
use Rattle.board.specs.Sound.{among, distinct, Sound}
use Rattle.board.proofs.Keeping.{feed_sound}
use Rattle.board.proofs.Others.{own_snapshot_only}
use Rattle.board.proofs.Taken.{taken_is_live}
use Rattle.board.proofs.Tested.{both}
use Rattle.loops.specs.declared.Loop.{Loop}
use Rattle.loops.specs.Loops.{no_loop, is_whole}
use Rattle.loops.specs.Ending.{ended}
use Rattle.loops.specs.Channel.{Channel, channel, joined_by, given}
use Rattle.loops.specs.Calls.{called, calls, Throughout}
use Rattle.loops.specs.Demand.{AtEnd}
use Rattle.loops.specs.Sound.{SoundChannel}
use Rattle.loops.specs.Laws.{head_for, empty_for, unnamed}
use Rattle.loops.proofs.Ending.{end_is_snapshots}
use Rattle.loops.proofs.Laws.{keeps_sound}

-- neither of two tests
neither : (a b : Bool) → a || b ≡ false → (a ≡ false) × (b ≡ false)
neither true b e = absurd (true≢false e)
neither false b e = (refl, e)

-- ---- one after another

calls_then : (xs ys : List Call) (b : Board) → board.calls (xs ++ ys) b ≡ board.calls ys (board.calls xs b)
calls_then [] ys b = refl
calls_then (x ∷ xs) ys b = calls_then xs ys (board.called x b).board

through_then : (P : Call → Board → Type 0) (xs ys : List Call) (b : Board) → board.Throughout P xs b → board.Throughout P ys (board.calls xs b)
    → board.Throughout P (xs ++ ys) b
through_then P [] ys b p q = q
through_then P (x ∷ xs) ys b p q = (p.0, through_then P xs ys (board.called x b).board p.1 q)

-- ---- the calls on the board

abbrev behind : Loop → Board → List Call
behind l b = cond (is_whole l) (unnamed l 0 b.insts) []

pub lower : Call → Channel → List Call
lower (fed (snapshot h us)) c =
    fed (snapshot h us) ∷ behind (joined_by h c.board c.loop) (feed (snapshot h us) c.board).board
lower (fed (numbered n heard us)) c = fed (numbered n heard us) ∷ []
lower (fed (refused why)) c = fed (refused why) ∷ []
lower (aside a) c = aside a ∷ []

pub lowers : List Call → Channel → List Call
lowers [] c = []
lowers (k ∷ ks) c = lower k c ++ lowers ks (called k c).channel

lower_is : (k : Call) (c : Channel) → SoundChannel c → InRange k c.board → board.calls (lower k c) c.board ≡ (called k c).channel.board
unfolding lower given
lower_is (fed (snapshot h us)) c s f = go (is_whole l)
  where
    l : Loop
    l = joined_by h c.board c.loop

    b : Board
    b = (feed (snapshot h us) c.board).board

    go : (t : Bool) → board.calls (cond t (unnamed l 0 b.insts) []) b ≡ (cond t (channel (ended l b) no_loop) (channel b l)).board
    go true = sym (end_is_snapshots l b (feed_sound (snapshot h us) c.board s.board f))
    go false = refl
lower_is (fed (numbered n heard us)) c s f = refl
lower_is (fed (refused why)) c s f = refl
lower_is (aside a) c s f = refl

-- a call that is in range leaves a sound channel sound
called_sound : (k : Call) (c : Channel) → SoundChannel c → InRange k c.board → SoundChannel (called k c).channel
called_sound (fed m) c s f = keeps_sound m c s f
called_sound (aside a) c s f = s

abbrev pub Ranged : Call → Channel → Type 0
Ranged k c = InRange k c.board

pub lowers_is : (ks : List Call) (c : Channel) → SoundChannel c → Throughout Ranged ks c → board.calls (lowers ks c) c.board ≡ (calls ks c).board
unfolding lowers
lowers_is [] c s f = refl
lowers_is (k ∷ ks) c s f =
    let d = (called k c).channel in
    calls_then (lower k c) (lowers ks d) c.board ∙ ap (board.calls (lowers ks d)) (lower_is k c s f.0) ∙ lowers_is ks d (called_sound k c s f.0) f.1

-- what holds of each call on a channel holds of the calls on its board
pub lowers_through : (P : Call → Board → Type 0) (Q : Call → Channel → Type 0)
    → ((k : Call) (c : Channel) → SoundChannel c → Ranged k c → Q k c → board.Throughout P (lower k c) c.board)
    → (ks : List Call) (c : Channel) → SoundChannel c → Throughout Ranged ks c → Throughout Q ks c → board.Throughout P (lowers ks c) c.board
unfolding lowers
lowers_through P Q h [] c s f q = tt
lowers_through P Q h (k ∷ ks) c s f q =
    let d = (called k c).channel in
    through_then P (lower k c) (lowers ks d) c.board (h k c s f.0 q.0)
    (rw (lower_is k c s f.0) (lowers_through P Q h ks d (called_sound k c s f.0) f.1 q.1))

-- ---- where the end of a loop takes a snapshot for d

-- a W for an instrument that is Live changes nothing and is not taken
record Left (b : Board) (o : Out) : Type 0 where
  same : o.board ≡ b
  not_taken : o.answer ≡ 4 → ⊥

live_left : (h : Head) (us : List Update) (b : Board) → (inst h.id b).waiting ≡ false → Left b (feed (snapshot h us) b)
unfolding feed snap
live_left h us b w = rw w (go (ltb i (length b.insts)))
  where
    i : ℕ
    i = look h.id b.insts

    go : (f : Bool) → Left b (snap_by f false (ltb h.last b.B) (ltb b.H h.last) (too_wide (shown us)) i h.last (shown us) b)
    go false = record { same = refl; not_taken = λ q. omega (arith, q) }
    go true = record { same = refl; not_taken = λ q. omega (arith, q) }

-- so one that waits behind a W waited before it
waited : (d : ℕ) (h : Head) (us : List Update) (b : Board) → (inst d (feed (snapshot h us) b).board).waiting ≡ true → (inst d b).waiting ≡ true
waited d h us b v = go (inst d b).waiting (eqb d h.id) refl refl
  where
    go : (w t : Bool) → (inst d b).waiting ≡ w → eqb d h.id ≡ t → w ≡ true
    go true t p q = refl
    go false true p q =
        let e : d ≡ h.id = eqb-true d h.id q in
        let l = live_left h us b (ap (λ (k : ℕ). (inst k b).waiting) (sym e) ∙ p) in
        sym p ∙ ap (λ (c : Board). (inst d c).waiting) (sym l.same) ∙ v
    go false false p q = sym p ∙ ap (λ (x : Inst). x.waiting) (sym (own_snapshot_only d h us b (eqb-false d h.id q))) ∙ v

-- snapshots for others leave d as it is
others : (d : ℕ) (l : Loop) (i : ℕ) (xs : List Inst) (b : Board) → among d (ids_of xs) ≡ false → inst d (board.calls (unnamed l i xs) b) ≡ inst d b
unfolding unnamed
others d l i [] b e = refl
others d l i (x ∷ xs) b e =
    let p = neither (eqb x.id d) (among d (ids_of xs)) e in
    by_test (λ (cs : List Call). inst d (board.calls cs b) ≡ inst d b) (marked l.named i) (λ _. others d l (suc i) xs b p.1)
    (λ _. others d l (suc i) xs (feed (empty_for x.id l.low) b).board p.1
    ∙ own_snapshot_only d (head_for x.id l.low) [] b (λ q. eqb-false x.id d p.0 (sym q)))

-- what is supposed of d where it waits before the snapshots and is Live behind them is supposed of the one for d that is taken
module _ (P : Call → Board → Type 0) (d : ℕ) (l : Loop) (R : Type 0)
    (f : (e : ℕ) (b : Board) → ((feed (empty_for e l.low) b).answer ≡ 4 → e ≡ d → R) → P (fed (empty_for e l.low)) b) where
  unnamed_through : (i : ℕ) (xs : List Inst) (b : Board) → distinct (ids_of xs) ≡ true
      → ((inst d b).waiting ≡ true → Live d (board.calls (unnamed l i xs) b) → R) → board.Throughout P (unnamed l i xs) b
  unfolding unnamed distinct
  unnamed_through i [] b u g = tt
  unnamed_through i (x ∷ xs) b u g =
      let p = both (not (among x.id (ids_of xs))) (distinct (ids_of xs)) u in
      go (marked l.named i) p.0 (unnamed_through (suc i) xs b p.1) (unnamed_through (suc i) xs after p.1) g
    where
      h : Head
      h = head_for x.id l.low

      after : Board
      after = (feed (empty_for x.id l.low) b).board

      rest : List Call
      rest = unnamed l (suc i) xs

      -- its own is taken: it waited, and no other touches it behind that
      own : not (among x.id (ids_of xs)) ≡ true → ((inst d b).waiting ≡ true → Live d (board.calls rest after) → R)
          → (feed (empty_for x.id l.low) b).answer ≡ 4 → x.id ≡ d → R
      own n g a e = g (go (inst d b).waiting refl) live
        where
          go : (w : Bool) → (inst d b).waiting ≡ w → w ≡ true
          go true q = refl
          go false q = absurd ((live_left h [] b (ap (λ (k : ℕ). (inst k b).waiting) e ∙ q)).not_taken a)

          live : Live d (board.calls rest after)
          live =
              ap (λ (y : Inst). y.waiting) (others d l (suc i) xs after (ap (λ (k : ℕ). among k (ids_of xs)) (sym e) ∙ not-true (among x.id (ids_of xs)) n))
              ∙ ap (λ (k : ℕ). (inst k after).waiting) (sym e) ∙ (taken_is_live h [] b a).0

      go : (m : Bool) → not (among x.id (ids_of xs)) ≡ true
          → (((inst d b).waiting ≡ true → Live d (board.calls rest b) → R) → board.Throughout P rest b)
          → (((inst d after).waiting ≡ true → Live d (board.calls rest after) → R) → board.Throughout P rest after)
          → ((inst d b).waiting ≡ true → Live d (board.calls (cond m rest (fed (empty_for x.id l.low) ∷ rest)) b) → R)
          → board.Throughout P (cond m rest (fed (empty_for x.id l.low) ∷ rest)) b
      go true n here there g = here g
      go false n here there g = (f x.id b (own n g), there (λ w. g (waited d h [] b w)))

-- the calls that a W on a channel is: what is supposed of the W itself, and of the loop's end
pub lower_through : (P : Call → Board → Type 0) (d : ℕ) (R : ℕ → Type 0)
    → ((S e : ℕ) (b : Board) → ((feed (empty_for e S) b).answer ≡ 4 → e ≡ d → R S) → P (fed (empty_for e S)) b)
    → (k : Call) (c : Channel) → SoundChannel c → Ranged k c → P k c.board × AtEnd d R k c → board.Throughout P (lower k c) c.board
unfolding lower
lower_through P d R f (fed (snapshot h us)) c s r q = (q.0, go (is_whole l) refl)
  where
    l : Loop
    l = joined_by h c.board c.loop

    b : Board
    b = (feed (snapshot h us) c.board).board

    t : Sound b
    t = feed_sound (snapshot h us) c.board s.board r

    go : (t : Bool) → is_whole l ≡ t → board.Throughout P (cond t (unnamed l 0 b.insts) []) b
    go false e = tt
    go true e =
        unnamed_through P d l (R l.low) (f l.low) 0 b.insts b t.apart
        (λ w v. q.1 (record { whole = e; waits = w; live = rw (end_is_snapshots l b t) v }))
lower_through P d R f (fed (numbered n heard us)) c s r q = (q.0, tt)
lower_through P d R f (fed (refused why)) c s r q = (q.0, tt)
lower_through P d R f (aside a) c s r q = (q.0, tt)
