-- The end of a loop in the store, one instrument after another: what is left to do gives what is wanted.
use Rattle.std.specs.Prelude.{Ok}
use mathlib.Core.Path.{◌≡◌, refl, sym, ap, ◌∙◌}
use mathlib.Core.Bool.{true, false}
use mathlib.Core.List.{List, [], ◌∷◌}
use Prim.Native.Nat.{ℕ, zero, suc, ◌+◌, ◌*◌, ◌≤◌, ◌<◌}
use native.Mathlib.Nat.{le_of_suc-le-suc}
use native.Mathlib.Numerals.{add-one}
use native.Mathlib.Omega.{arith}
use lib.ListN.{length, get_or, drop, get_or-map}
use Rattle.cells.specs.Cells.{tab}
use Rattle.cells.specs.Runs.{update_size, updates_in}
use Rattle.heading.specs.Marks.{marked}
use Rattle.message.specs.declared.Reading.{Reading}
use Rattle.message.specs.Message.{told, says}
use Rattle.message.specs.declared.Kind.TheVariants.{Snapshot}
use Rattle.board.specs.Board.{Inst, Out, no_inst}
use Rattle.board.specs.Feed.{feed}
use Rattle.board.specs.Calls.{Call, fed, calls}
use Rattle.board.specs.Laws.{Same}
use Rattle.board.specs.Sound.{Sound}
use Rattle.board.proofs.Staying.{same, same_then, same_feed, same_length}
use Rattle.loops.specs.declared.Loop.{Loop}
use Rattle.loops.specs.Laws.{empty_for, unnamed}
use Rattle.loops.proofs.Ending.{end_is_snapshots}
use Rattle.store.specs.Layout.{id_of}
use Rattle.store.specs.Meaning.{inst_at, State, board_in}
use Rattle.store.specs.Canon.{Canon}
use Rattle.store.proofs.Decode.{insts_length, at_board}
use Rattle.channel.specs.Feeds.{Aims, Around, Feeds}
use Rattle.channel.proofs.Laws.{around_none, around_then, feeds_around, none_aimed}
use Rattle.rounds.specs.Rounds.{Ends}

-- ---- those that are left

drop_turn : (xs : List Inst) (i : ℕ) → i < length xs → drop i xs ≡ get_or xs i no_inst ∷ drop (suc i) xs
drop_turn [] i h = absurd (omega arith)
drop_turn (x ∷ xs) zero h = refl
drop_turn (x ∷ xs) (suc i) h = drop_turn xs i (le_of_suc-le-suc h)

drop_end : (xs : List Inst) → drop (length xs) xs ≡ []
drop_end [] = refl
drop_end (x ∷ xs) = drop_end xs

module _ (l : Loop) (xs : List Inst) where
  abbrev left : ℕ → List Call
  left i = unnamed l i (drop i xs)

  left_named : (i : ℕ) → i < length xs → marked l.named i ≡ true → left i ≡ left (suc i)
  unfolding unnamed
  left_named i h e = rw (drop_turn xs i h, e)

  left_unnamed : (i : ℕ) → i < length xs → marked l.named i ≡ false → left i ≡ fed (empty_for (get_or xs i no_inst).id l.low) ∷ left (suc i)
  unfolding unnamed
  left_unnamed i h e = rw (drop_turn xs i h, e)

  left_none : left (length xs) ≡ []
  unfolding unnamed
  left_none = rw (drop_end xs)

-- ---- the turn of the loop

-- i of the instruments of s are through, and t is left
pub record So (l : Loop) (s : State) (i : ℕ) (t : State) : Type 0 where
  pub canon : Canon t
  pub around : Around s t
  pub same : Same (board_in t) (board_in s)
  pub rest : calls (left l (board_in s).insts i) (board_in t) ≡ calls (unnamed l 0 (board_in s).insts) (board_in s)

pub start : (l : Loop) (s : State) → Canon s → So l s 0 s
start l s k = record { canon = k; around = around_none s; same = same (board_in s); rest = refl }

module _ (l : Loop) (s : State) (i : ℕ) (t : State) (o : So l s i t) where
  n : length (board_in s).insts ≡ s.head.followed
  n = insts_length s

  pub followed : t.head.followed ≡ s.head.followed
  followed = sym (insts_length t) ∙ same_length (board_in t) (board_in s) o.same ∙ n

  -- the SecurityID in the store is the instrument's
  pub id_is : i < s.head.followed → get_or t.store (id_of i) 0 ≡ (get_or (board_in s).insts i no_inst).id
  unfolding inst_at
  id_is h =
      let id : Inst → ℕ = λ (x : Inst). x.id in
      sym (ap id (at_board i t (rw followed h))) ∙ sym (get_or-map id (board_in t).insts i no_inst)
      ∙ ap (λ (ds : List ℕ). get_or ds i 0) o.same.ids ∙ get_or-map id (board_in s).insts i no_inst

  pub named_turn : i < s.head.followed → marked l.named i ≡ true → So l s (i + 1) t
  named_turn h e =
      let q : left l (board_in s).insts (i + 1) ≡ left l (board_in s).insts i =
      rw (add-one i) (sym (left_named l (board_in s).insts i (omega (arith, n)) e)) in
      record { canon = o.canon; around = o.around; same = o.same; rest = ap (λ (cs : List Call). calls cs (board_in t)) q ∙ o.rest }

  fed_turn : (a : ℕ) (u : State) → i < s.head.followed → marked l.named i ≡ false
      → Feeds (empty_for (get_or t.store (id_of i) 0) l.low) t a u → So l s (i + 1) u
  fed_turn a u h e f =
      let d = (get_or (board_in s).insts i no_inst).id in
      let g : Feeds (empty_for d l.low) t a u = rw (id_is h) at f in
      let b : board_in u ≡ (feed (empty_for d l.low) (board_in t)).board = ap (λ (p : Out). p.board) g.means in
      let q = left_unnamed l (board_in s).insts i (omega (arith, n)) e in
      record {
        canon = g.canon;
        around = around_then o.around (feeds_around o.canon.formed g);
        same = rw b (same_then _ (board_in t) (board_in s) (same_feed (empty_for d l.low) (board_in t)) o.same);
        rest = rw (add-one i, b) (ap (λ (cs : List Call). calls cs (board_in t)) (sym q) ∙ o.rest);
      }

  pub all_through : Sound (board_in s) → s.head.followed ≤ i → i ≤ s.head.followed → Ends l s t
  all_through k g h =
      let z : i ≡ length (board_in s).insts = omega (arith, n) in
      let q : left l (board_in s).insts i ≡ [] = rw z (left_none l (board_in s).insts) in
      record {
        means = sym (ap (λ (cs : List Call). calls cs (board_in t)) q) ∙ o.rest ∙ sym (end_is_snapshots l (board_in s) k);
        canon = o.canon;
        around = o.around;
      }

-- one that was not named, by the reading that the code makes, which says an empty snapshot
abbrev empty_reading : ℕ → ℕ → Reading
empty_reading d S = record { kind = Snapshot; number = 1; heard = 0; id = d; last = S; loops = 1; count = 0 }

empty_is : (r : Reading) (d S : ℕ) → Ok r ≡ (told (empty_for d S)).reading → r ≡ empty_reading d S
unfolding told
empty_is r d S e = cc

said_empty : (r : Reading) (run : List ℕ) (d S : ℕ) → Ok r ≡ (told (empty_for d S)).reading → says r (updates_in run r.count) ≡ empty_for d S
unfolding tab
said_empty r run d S e = rw (empty_is r d S e)

pub none_asked : (r : Reading) (d S n : ℕ) → Ok r ≡ (told (empty_for d S)).reading → r.count * update_size ≤ n
none_asked r d S n e = rw (empty_is r d S e) (omega arith)

pub read_turn : (l : Loop) (s : State) (i : ℕ) (t : State) → So l s i t → (r : Reading) (run : List ℕ) (a : ℕ) (u : State) → i < s.head.followed
    → marked l.named i ≡ false → Ok r ≡ (told (empty_for (get_or t.store (id_of i) 0) l.low)).reading
    → Feeds (says r (updates_in run r.count)) t a u → So l s (i + 1) u
read_turn l s i t o r run a u h e q f = fed_turn l s i t o a u h e (rw (said_empty r run (get_or t.store (id_of i) 0) l.low q) at f)

-- and of the run it aims no entry
pub run_stays : (r : Reading) (d S : ℕ) (s : State) (xs ys : List ℕ) → Ok r ≡ (told (empty_for d S)).reading → Aims s r.count xs ys → ys ≡ xs
run_stays r d S s xs ys e a = none_aimed s xs ys (rw (empty_is r d S e) at a)
