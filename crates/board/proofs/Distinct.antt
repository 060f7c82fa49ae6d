-- Where SecurityIDs don't repeat, each instrument is found at its own index; and any is Waiting where their number isn't 0.
use mathlib.Core.Path.{◌≡◌, refl, ◌∙◌, ap, sym}
use mathlib.Core.Bool.{Bool, true, false, cond, not, ◌||◌, true≢false}
use mathlib.Core.List.{List, [], ◌∷◌}
use Prim.Native.Nat.{ℕ, zero, suc, ◌+◌, ◌<◌}
use native.Mathlib.Nat.{le_of_suc-le-suc, zero-add}
use native.Mathlib.Numerals.{add-one}
use native.Mathlib.Omega.{arith}
use lib.Dec.{eqb, ltb}
use lib.ListN.{length, get_or}
use borrow.Author.Tests.{eqb-true, eq-eqb, lt-ltb, not-true}
use Rattle.board.specs.Board.{Inst, ids_of, any_waiting, waiting_in, look, no_inst}
use Rattle.board.specs.Sound.{among, distinct}
use Rattle.board.specs.Laws.{AnyIsSome, FoundAtOwnIndex}
use Rattle.board.proofs.Tested.{both, tested_sound}

-- a SecurityID that stands at an index is among them
among_at : (xs : List Inst) (i : ℕ) → i < length xs → among (get_or xs i no_inst).id (ids_of xs) ≡ true
among_at [] i h = absurd (omega arith)
among_at (x ∷ xs) zero h = rw (eq-eqb x.id x.id refl)
among_at (x ∷ xs) (suc i) h = go (eqb x.id (get_or xs i no_inst).id) (among_at xs i (le_of_suc-le-suc h))
  where
    go : (t : Bool) {u : Bool} → u ≡ true → t || u ≡ true
    go true e = refl
    go false e = e

pub look_at : (xs : List Inst) → distinct (ids_of xs) ≡ true → (i : ℕ) → i < length xs → look (get_or xs i no_inst).id xs ≡ i
unfolding look distinct
look_at [] d i h = absurd (omega arith)
look_at (x ∷ xs) d zero h = rw (eq-eqb x.id x.id refl)
look_at (x ∷ xs) d (suc i) h =
    let p = both (not (among x.id (ids_of xs))) (distinct (ids_of xs)) d in
    go (eqb x.id e) refl (not-true (among x.id (ids_of xs)) p.0) (look_at xs p.1 i (le_of_suc-le-suc h))
  where
    e : ℕ
    e = (get_or xs i no_inst).id

    go : (t : Bool) → eqb x.id e ≡ t → among x.id (ids_of xs) ≡ false → look e xs ≡ i → cond t 0 (look e xs + 1) ≡ suc i
    go true q a l =
        absurd (true≢false (sym (among_at xs i (le_of_suc-le-suc h)) ∙ ap (λ (k : ℕ). among k (ids_of xs)) (sym (eqb-true x.id e q)) ∙ a))
    go false q a l = add-one (look e xs) ∙ ap suc l

pub found_at_own_index : FoundAtOwnIndex
found_at_own_index b s i h = look_at b.insts (tested_sound b s).apart i h

pub any_is_some : AnyIsSome
unfolding any_waiting waiting_in
any_is_some [] = refl
any_is_some (x ∷ xs) = go x.waiting (any_is_some xs)
  where
    go : (w : Bool) → any_waiting xs ≡ ltb 0 (waiting_in xs) → w || any_waiting xs ≡ ltb 0 (cond w 1 0 + waiting_in xs)
    go true h = sym (lt-ltb 0 (1 + waiting_in xs) (omega arith))
    go false h = rw (zero-add (waiting_in xs)) h
