-- The end of a loop is snapshots, one after another: though each lets the queue go where none waits, that comes only when all are through.
use mathlib.Core.Path.{◌≡◌, refl, sym, ap, ◌∙◌}
use mathlib.Core.Bool.{Bool, true, false, cond, not, ◌&&◌, ◌||◌, true≢false}
use mathlib.Core.List.{List, [], ◌∷◌, ◌++◌, append_assoc}
use Prim.Native.Nat.{ℕ, suc, ◌<◌}
use native.Mathlib.Numerals.{add-one}
use native.Mathlib.Omega.{arith}
use lib.Dec.{ltb}
use lib.ListN.{length, get_or, set, length-append}
use borrow.Author.Tests.{lt-ltb, le-ltb, ltb-false}
use Rattle.book.specs.Rules.{Lists, empty, Outcome, leaves, breach}
use Rattle.book.proofs.Tests.{by_test}
use Rattle.heading.specs.Marks.{marked}
use Rattle.board.specs.Board.{Inst, Board, ids_of, no_inst, any_waiting, look, at, with_insts, put, let_go, settled}
use Rattle.board.specs.Feed.{feed}
use Rattle.board.specs.Calls.{Call, fed, calls}
use Rattle.board.specs.Ranges.{within}
use Rattle.board.specs.Snapshot.{entries_of, run, after, replayed, take, snap_by, snap}
use Rattle.board.specs.Sound.{distinct, Sound}
use Rattle.board.proofs.Distinct.{look_at}
use Rattle.board.proofs.Tested.{within_true, is_within}
use Rattle.loops.specs.declared.Loop.{Loop}
use Rattle.loops.specs.Ending.{took, empty_after, at_end, ends, serves, ended}
use Rattle.loops.specs.Laws.{empty_for, unnamed, EndIsSnapshots, OutsideStays}
use Rattle.loops.proofs.Keeping.{at_end_id}

-- ---- one empty snapshot

-- a replay that breaks, and one that does not
replayed_took : (i : ℕ) (o : Outcome Lists) (b : Board) → (replayed i o b).board ≡ settled true (put i (took (at i b) o) b)
replayed_took i (leaves l) b = refl
replayed_took i (breach r) b = refl

module _ (b : Board) (S : ℕ) where
  -- the instrument at index i, where its SecurityID finds it
  module _ (i : ℕ) (d : ℕ) (here : look d b.insts ≡ i) (l : i < length b.insts) where
    -- the tests of it
    tests : (feed (empty_for d S) b).board ≡ (snap_by true (at i b).waiting (ltb S b.B) (ltb b.H S) false i S empty b).board
    unfolding feed snap entries_of
    tests = rw (here, lt-ltb i (length b.insts) l)

    -- Live already
    pub is_live : (at i b).waiting ≡ false → (feed (empty_for d S) b).board ≡ b
    is_live w = tests ∙ rw w

    -- taken
    pub is_taken : (at i b).waiting ≡ true → within b.B b.H S ≡ true
        → (feed (empty_for d S) b).board ≡ settled true (put i (took (at i b) (run (after i S b.queue) empty)) b)
    unfolding take
    is_taken w e =
        let p = within_true b.B b.H S e in
        tests ∙ rw (w, le-ltb S b.B p.0, le-ltb b.H S p.1) (replayed_took i (run (after i S b.queue) empty) b)

  -- below B or above H
  outside_one : (d : ℕ) → within b.B b.H S ≡ false → (feed (empty_for d S) b).board ≡ b
  unfolding feed snap entries_of
  outside_one d e = go (ltb i (length b.insts)) (at i b).waiting (ltb S b.B) (ltb b.H S) refl refl
    where
      i : ℕ
      i = look d b.insts

      go : (f w below above : Bool) → ltb S b.B ≡ below → ltb b.H S ≡ above → (snap_by f w below above false i S empty b).board ≡ b
      go false w below above p q = refl
      go true false below above p q = refl
      go true true true above p q = refl
      go true true false true p q = refl
      go true true false false p q = absurd (true≢false (sym (is_within b.B b.H S (ltb-false S b.B p) (ltb-false b.H S q)) ∙ e))

outside_all : (l : Loop) (i : ℕ) (xs : List Inst) (b : Board) → within b.B b.H l.low ≡ false → calls (unnamed l i xs) b ≡ b
unfolding unnamed
outside_all l i [] b e = refl
outside_all l i (x ∷ xs) b e =
    by_test (λ (cs : List Call). calls cs b ≡ b) (marked l.named i) (λ _. outside_all l (suc i) xs b e)
    (λ _. ap (calls (unnamed l (suc i) xs)) (outside_one b l.low x.id e) ∙ outside_all l (suc i) xs b e)

-- ---- instruments before one, and behind it

at_seam : (pre : List Inst) (x : Inst) (xs : List Inst) → get_or (pre ++ x ∷ xs) (length pre) no_inst ≡ x
at_seam [] x xs = refl
at_seam (p ∷ pre) x xs = at_seam pre x xs

set_seam : (pre : List Inst) (x y : Inst) (xs : List Inst) → set (pre ++ x ∷ xs) (length pre) y ≡ pre ++ y ∷ xs
set_seam [] x y xs = refl
set_seam (p ∷ pre) x y xs = ap (p ∷◌) (set_seam pre x y xs)

below_seam : (pre : List Inst) (x : Inst) (xs : List Inst) → length pre < length (pre ++ x ∷ xs)
below_seam pre x xs = omega (arith, length-append pre (x ∷ xs))

ids_seam : (pre : List Inst) (x y : Inst) (xs : List Inst) → y.id ≡ x.id → ids_of (pre ++ y ∷ xs) ≡ ids_of (pre ++ x ∷ xs)
ids_seam [] x y xs e = rw e
ids_seam (p ∷ pre) x y xs e = ap (p.id ∷◌) (ids_seam pre x y xs e)

waits_seam : (pre : List Inst) (x : Inst) (xs : List Inst) → x.waiting ≡ true → any_waiting (pre ++ x ∷ xs) ≡ true
unfolding any_waiting
waits_seam [] x xs e = rw e
waits_seam (p ∷ pre) x xs e = go p.waiting (waits_seam pre x xs e)
  where
    go : (t : Bool) → any_waiting (pre ++ x ∷ xs) ≡ true → t || any_waiting (pre ++ x ∷ xs) ≡ true
    go true h = refl
    go false h = h

-- that the queue is let go touches no instrument
insts_settled : (b : Board) → (settled true b).insts ≡ b.insts
insts_settled b = by_test (λ (c : Board). c.insts ≡ b.insts) (any_waiting b.insts) (λ _. refl) (λ _. refl)

-- ---- all of them, where the lowest 369 lies in B to H

module _ (l : Loop) (b : Board) (e : within b.B b.H l.low ≡ true) where
  abbrev on : List Inst → Board
  on xs = with_insts xs b

  -- the instrument behind pre
  one : (pre : List Inst) (x : Inst) (xs : List Inst) → distinct (ids_of (pre ++ x ∷ xs)) ≡ true
      → calls (unnamed l (length pre) (x ∷ xs)) (settled true (on (pre ++ x ∷ xs)))
      ≡ calls (unnamed l (suc (length pre)) xs) (settled true (on (pre ++ at_end l b.queue (length pre) x ∷ xs)))
  unfolding unnamed at_end
  one pre x xs d = go (marked l.named i) x.waiting refl
    where
      i : ℕ
      i = length pre

      all : List Inst
      all = pre ++ x ∷ xs

      found : look x.id all ≡ i
      found = ap (λ (y : Inst). look y.id all) (sym (at_seam pre x xs)) ∙ look_at all d i (below_seam pre x xs)

      y : Inst
      y = took x (empty_after l b.queue i)

      -- one that waits: as it does, the queue is still there
      waits : x.waiting ≡ true → (feed (empty_for x.id l.low) (settled true (on all))).board ≡ settled true (on (pre ++ y ∷ xs))
      waits w =
          let q : settled true (on all) ≡ on all = rw (waits_seam pre x xs w) in
          let t : at i (on all) ≡ x = at_seam pre x xs in
          rw q (is_taken (on all) l.low i x.id found (below_seam pre x xs) (rw t w) e ∙ rw (t, set_seam pre x y xs))

      -- one that is Live, whether the queue was let go or not
      lives : x.waiting ≡ false → (feed (empty_for x.id l.low) (settled true (on all))).board ≡ settled true (on all)
      lives w =
          let q = insts_settled (on all) in
          is_live (settled true (on all)) l.low i x.id (ap (look x.id) q ∙ found) (rw q (below_seam pre x xs))
          (ap (λ (k : List Inst). (get_or k i no_inst).waiting) q ∙ ap (λ (k : Inst). k.waiting) (at_seam pre x xs) ∙ w)

      go : (m w : Bool) → x.waiting ≡ w
          → calls (cond m (unnamed l (suc i) xs) (fed (empty_for x.id l.low) ∷ unnamed l (suc i) xs)) (settled true (on all))
          ≡ calls (unnamed l (suc i) xs) (settled true (on (pre ++ cond (w && not m) y x ∷ xs)))
      go true true w = refl
      go true false w = refl
      go false true w = ap (calls (unnamed l (suc i) xs)) (waits w)
      go false false w = ap (calls (unnamed l (suc i) xs)) (lives w)

  pub snapshots : (pre xs : List Inst) → distinct (ids_of (pre ++ xs)) ≡ true
      → calls (unnamed l (length pre) xs) (settled true (on (pre ++ xs))) ≡ settled true (on (pre ++ ends l b.queue (length pre) xs))
  unfolding unnamed ends
  snapshots pre [] d = refl
  snapshots pre (x ∷ xs) d =
      let y = at_end l b.queue (length pre) x in
      let n : length (pre ++ y ∷ []) ≡ suc (length pre) = length-append pre (y ∷ []) ∙ add-one (length pre) in
      let s : (zs : List Inst) → (pre ++ y ∷ []) ++ zs ≡ pre ++ y ∷ zs = λ zs. append_assoc pre (y ∷ []) zs in
      one pre x xs d
      ∙ rw (n, s xs, s (ends l b.queue (suc (length pre)) xs)) at
      (snapshots (pre ++ y ∷ []) xs (rw (s xs, ids_seam pre x y xs (at_end_id l b.queue (length pre) x)) d))

-- ---- the laws

pub outside_stays : OutsideStays
unfolding ended
outside_stays l b e = ap (λ (t : Bool). cond t (settled true (with_insts (ends l b.queue 0 b.insts) b)) b) e

-- where none waits on a sound board the queue is let go already
settled_sound : (b : Board) → Sound b → settled true b ≡ b
settled_sound b s = go (any_waiting b.insts) refl
  where
    go : (t : Bool) → any_waiting b.insts ≡ t → cond t b (let_go b) ≡ b
    go true w = refl
    go false w = let r = s.rest w in rw (r.0, r.1)

pub end_is_snapshots : EndIsSnapshots
unfolding ended
end_is_snapshots l b s = go (serves l b) refl
  where
    go : (t : Bool) → serves l b ≡ t
        → cond t (settled true (with_insts (ends l b.queue 0 b.insts) b)) b ≡ calls (unnamed l 0 b.insts) b
    go true e = sym (snapshots l b e [] b.insts s.apart) ∙ ap (calls (unnamed l 0 b.insts)) (settled_sound b s)
    go false e = sym (outside_all l 0 b.insts b e)
