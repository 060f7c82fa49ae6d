-- Walks in any rooms, one after another, give what one walk would. Assumes nothing.
use mathlib.Core.Path.{◌≡◌, refl, sym, ap, ◌∙◌}
use mathlib.Core.List.{List, [], ◌∷◌, ◌++◌}
use mathlib.Core.Bool.{Bool, true, false, cond, not, ◌&&◌}
use Prim.Native.Nat.{ℕ, ◌+◌, ◌-◌, ◌≤◌, ◌<◌}
use native.Mathlib.Omega.{arith}
use native.Mathlib.Nat.{add-zero, add_assoc}
use borrow.Author.Tests.{leb-true, leb-false, le-leb}
use lib.Dec.{leb}
use lib.ListN.{length, drop}
use Rattle.digits.proofs.Width.{both}
use Rattle.salvage.specs.Pieces.{Piece, message, passed, length_of, Walk, done, one, run, pieces, is_run, apart}
use Rattle.salvage.specs.Rooms.{fitting, spanned, given, go_on, reached, link, join, wide}
use Rattle.salvage.specs.Laws.{WalkGetsOn, EndIsReached, WalksJoined}
use Rattle.salvage.proofs.Walking.{taken_some, walk_is, walk_only, walk_apart}
use Rattle.salvage.proofs.Stepping.{pieces_end}

-- what fits comes first
fitting_front : (room : ℕ) (ps : List Piece) → fitting room ps ++ drop (length (fitting room ps)) ps ≡ ps
unfolding fitting
fitting_front room [] = refl
fitting_front room (x ∷ ps) = go (leb 3 room) (fitting_front (room - 3) ps)
  where
    go : (t : Bool) → fitting (room - 3) ps ++ drop (length (fitting (room - 3) ps)) ps ≡ ps
        → cond t (x ∷ fitting (room - 3) ps) [] ++ drop (length (cond t (x ∷ fitting (room - 3) ps) [])) (x ∷ ps) ≡ x ∷ ps
    go true h = ap (λ (r : List Piece). x ∷ r) h
    go false h = refl

-- where no two runs touch, joining is appending
pub join_apart : (ps qs : List Piece) → apart (ps ++ qs) ≡ true → join ps qs ≡ ps ++ qs
join_apart [] qs h = refl
join_apart (x ∷ []) qs h = go x qs h
  where
    go : (x : Piece) (qs : List Piece) → apart (x ∷ qs) ≡ true → link x qs ≡ x ∷ qs
    go (message p n) qs h = refl
    go (passed p n) [] h = refl
    go (passed p n) (message q m ∷ qs) h = refl
    go (passed p n) (passed q m ∷ qs) h = let z : ◌≡◌ {A = ℕ} 0 1 = cc in absurd (omega arith)
join_apart (x ∷ y ∷ ps) qs h = ap (λ (r : List Piece). x ∷ r) (join_apart (y ∷ ps) qs (both (not (is_run x && is_run y)) (apart (y ∷ (ps ++ qs))) h).1)

module _ (rec : List ℕ) where
  tail : {p : ℕ} {x : Piece} {ps : List Piece} → Walk rec p (x ∷ ps) → Walk rec (p + length_of x) ps
  tail (one t w) = w
  tail (run l h f e w) = w

  after : (ps qs : List Piece) {p : ℕ} → Walk rec p (ps ++ qs) → Walk rec (p + spanned ps) qs
  after [] qs w = rw add-zero w
  after (x ∷ ps) qs {p} w = rw (← add_assoc p (length_of x) (spanned ps)) (after ps qs (tail w))

  inside : {p : ℕ} {ps : List Piece} → Walk rec p ps → p ≤ length rec
  inside (done e) = omega arith
  inside (one t w) = let i = inside w in omega arith
  inside (run l h f e w) = let i = inside w in omega arith

  module _ (from room : ℕ) (l : from ≤ length rec) where
    left_walk : Walk rec (go_on rec from room) (drop (length (given rec from room)) (pieces rec from))
    unfolding given go_on
    left_walk =
        let ps = pieces rec from in
        let gs = fitting (room - 2) ps in
        after gs (drop (length gs) ps) (rw (fitting_front (room - 2) ps) (walk_is rec from l))

    -- it goes on inside the recording
    goes_on_inside : go_on rec from room ≤ length rec
    goes_on_inside = inside left_walk

    -- one walk, and the walk from where it says
    appended : given rec from room ++ pieces rec (go_on rec from room) ≡ pieces rec from
    unfolding given
    appended = ap (λ (r : List Piece). given rec from room ++ r) (sym (walk_only rec left_walk)) ∙ fitting_front (room - 2) (pieces rec from)

    joined : join (given rec from room) (pieces rec (go_on rec from room)) ≡ pieces rec from
    joined = join_apart (given rec from room) (pieces rec (go_on rec from room)) (rw appended (walk_apart rec (walk_is rec from l))) ∙ appended

    -- a walk always gets on
    gets_on : 5 ≤ room → from < length rec → from < go_on rec from room
    unfolding given go_on fitting
    gets_on r h = go (pieces rec from) (walk_is rec from l)
      where
        go : (ps : List Piece) → Walk rec from ps → from < from + spanned (fitting (room - 2) ps)
        go [] (done e) = absurd (omega arith)
        go (x ∷ ps) (one {n = n} t w) = rw (le-leb 3 (room - 2) (omega arith)) (omega (arith, taken_some (drop from rec) n t))
        go (x ∷ ps) (run a i f e w) = rw (le-leb 3 (room - 2) (omega arith)) (omega arith)

  -- ---- any number of walks
  -- no room gives more at the end
  stays : (room : ℕ) → go_on rec (length rec) room ≡ length rec
  unfolding go_on given fitting
  stays room = rw (pieces_end rec (length rec) (omega arith), add-zero)

  done_stays : (rooms : List ℕ) → reached rec (length rec) rooms ≡ length rec
  done_stays [] = refl
  done_stays (room ∷ rooms) = rw (stays room) (done_stays rooms)

pub walk_gets_on : WalkGetsOn
walk_gets_on rec from room l = record { inside = goes_on_inside rec from room l; on = gets_on rec from room l }

pub end_is_reached : EndIsReached
end_is_reached rec from [] l w h = omega arith
end_is_reached rec from (room ∷ rooms) l w h =
    go (leb (length rec) from) refl (end_is_reached rec (go_on rec from room) rooms (goes_on_inside rec from room l) d.1)
  where
    d : (leb 5 room ≡ true) × (wide rooms ≡ true)
    d = both (leb 5 room) (wide rooms) w

    go : (t : Bool) → leb (length rec) from ≡ t
        → (length rec ≤ go_on rec from room + length rooms → reached rec (go_on rec from room) rooms ≡ length rec)
        → reached rec (go_on rec from room) rooms ≡ length rec
    go true e i =
        let q : from ≡ length rec = omega (arith, leb-true (length rec) from e) in
        rw q (done_stays rec (room ∷ rooms))
    go false e i = i (omega (arith, gets_on rec from room l (leb-true 5 room d.0) (omega (arith, leb-false (length rec) from e))))

pub walks_joined : WalksJoined
walks_joined rec from [] l e = sym (pieces_end rec from (omega arith))
walks_joined rec from (room ∷ rooms) l e =
    ap (join (given rec from room)) (walks_joined rec (go_on rec from room) rooms (goes_on_inside rec from room l) e) ∙ joined rec from room l
