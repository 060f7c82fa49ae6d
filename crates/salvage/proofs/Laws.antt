-- What is shown of the walk of a recording. Assumes nothing.
use mathlib.Core.Path.{◌≡◌, refl, ap, ◌∙◌}
use mathlib.Core.List.{List, [], ◌∷◌, ◌++◌, map}
use mathlib.Core.Bool.{Bool, true, false, cond}
use Prim.Native.Nat.{ℕ, ◌+◌, ◌-◌, ◌*◌, ◌≤◌}
use native.Mathlib.Omega.{arith}
use borrow.Author.Tests.{leb-true, le-ltb}
use lib.Dec.{leb}
use lib.ListN.{length, get_or, drop, length-append, length-map}
use lib.Seq.{sets-eq, take-append_seam, drop-append_seam, take_at}
use Rattle.digits.proofs.Width.{both}
use Rattle.frame.specs.Frames.{frame_of}
use Rattle.stretch.specs.Stretches.{passes, Taken}
use Rattle.stretch.proofs.Stretching.{taken_stretch}
use Rattle.salvage.specs.Pieces.{Piece, message, passed, walk_of, pieces, laid, end_to_end, all_pass}
use Rattle.salvage.specs.Rooms.{fitting, given, go_on, cells, told, refused, walk_out, walks, wide, said_in, calls}
use Rattle.salvage.specs.Laws.{WalkIsWhole, AllAreFound, RoomSays, CallsJoined}
use Rattle.salvage.proofs.Stepping.{message_of_lem}
use Rattle.salvage.proofs.Walking.{taken_some, walk_is, walk_only, walk_tiles, walk_apart, walk_good, tiles_once}
use Rattle.salvage.proofs.Joining.{walk_gets_on, end_is_reached, walks_joined}

pub walk_is_whole : WalkIsWhole
walk_is_whole rec from l =
    let w = walk_is rec from l in
    let t = walk_tiles rec w in
    record {
      walk = w;
      only = λ ps v. walk_only rec v;
      tiles = t;
      once = λ q a b. tiles_once q from (pieces rec from) (length rec) t a b;
      apart = walk_apart rec w;
      good = walk_good rec w;
    }

-- ---- messages end to end
pub whole_taken : (m r : List ℕ) → passes (frame_of m) ≡ true → Taken (m ++ r) (length m)
whole_taken m r h = record { inside = omega (arith, length-append m r); good = rw (take-append_seam m r) h }

found_all : (ms : List (List ℕ)) (p : ℕ) → all_pass ms ≡ true → walk_of (end_to_end ms) 0 p ≡ laid p ms
unfolding walk_of
found_all [] p h = refl
found_all (m ∷ ms) p h =
    let d = both (passes (frame_of m)) (all_pass ms) h in
    let r = end_to_end ms in
    let t = whole_taken m r d.0 in
    message_of_lem (m ++ r) p (length m) (taken_stretch (m ++ r) (length m) t) (taken_some (m ++ r) (length m) t)
    ∙ rw (drop-append_seam m r) (ap (λ (ps : List Piece). message p (length m) ∷ ps) (found_all ms (p + length m) d.1))

pub all_are_found : AllAreFound
unfolding pieces
all_are_found ms h = found_all ms 0 h

-- ---- the numbers say the pieces
cells_length : (ps : List Piece) → length (cells ps) ≡ 3 * length ps
cells_length [] = refl
cells_length (message p n ∷ ps) = omega (arith, cells_length ps)
cells_length (passed p n ∷ ps) = omega (arith, cells_length ps)

told_cells : (ps : List Piece) → told (cells ps) ≡ ps
told_cells [] = refl
told_cells (message p n ∷ ps) = ap (λ (r : List Piece). message p n ∷ r) (told_cells ps)
told_cells (passed p n ∷ ps) = ap (λ (r : List Piece). passed p n ∷ r) (told_cells ps)

fitting_fits : (room : ℕ) (ps : List Piece) → 3 * length (fitting room ps) ≤ room
unfolding fitting
fitting_fits room [] = omega arith
fitting_fits room (x ∷ ps) = go (leb 3 room) refl (fitting_fits (room - 3) ps)
  where
    go : (t : Bool) → leb 3 room ≡ t → 3 * length (fitting (room - 3) ps) ≤ room - 3 → 3 * length (cond t (x ∷ fitting (room - 3) ps) []) ≤ room
    go true e h = omega (arith, leb-true 3 room e)
    go false e h = omega arith

module _ (rec : List ℕ) (from : ℕ) (out : List ℕ) (l : from ≤ length rec) (h : 5 ≤ length out) where
  abbrev gs : List Piece
  gs = given rec from (length out)

  abbrev next : ℕ
  next = go_on rec from (length out)

  given_fits : 3 * length gs + 2 ≤ length out
  unfolding given
  given_fits = omega (arith, fitting_fits (length out - 2) (pieces rec from))

  -- what is written, and what stays
  walk_leaves : walk_out rec from out ≡ (next ∷ length gs ∷ cells gs) ++ drop (2 + 3 * length gs) out
  unfolding walk_out
  walk_leaves =
      let r : refused rec from (length out) ≡ false = rw (le-ltb (length rec) from l, le-ltb (length out) 5 h) in
      let vs = next ∷ length gs ∷ cells gs in
      let n : 0 + length vs ≡ 2 + 3 * length gs = omega (arith, cells_length gs) in
      rw r (sets-eq vs out 0 (omega (arith, cells_length gs, given_fits)) ∙ ap (λ (k : ℕ). vs ++ drop k out) n)

  walk_tells : said_in (walk_out rec from out) ≡ gs
  walk_tells = rw (walk_leaves) (ap told (take_at (cells gs) (drop (2 + 3 * length gs) out) (3 * length gs) (cells_length gs)) ∙ told_cells gs)

pub room_says : RoomSays
room_says rec from room l h = record { numbers = walk_leaves rec from room l h; says = walk_tells rec from room l h }

calls_walks : (rec : List ℕ) (from : ℕ) (rooms : List (List ℕ)) → from ≤ length rec → wide (map length rooms) ≡ true
    → calls rec from rooms ≡ walks rec from (map length rooms)
calls_walks rec from [] l w = refl
calls_walks rec from (room ∷ rooms) l w =
    let d = both (leb 5 (length room)) (wide (map length rooms)) w in
    let x = room_says rec from room l (leb-true 5 (length room) d.0) in
    let n : get_or (walk_out rec from room) 0 0 ≡ go_on rec from (length room) = ap (λ (o : List ℕ). get_or o 0 0) x.numbers in
    rw (x.says, n, calls_walks rec (go_on rec from (length room)) rooms (walk_gets_on rec from (length room) l).inside d.1)

pub calls_joined : CallsJoined
calls_joined rec from rooms l w h =
    let e = end_is_reached rec from (map length rooms) l w (omega (arith, length-map rooms length)) in
    calls_walks rec from rooms l w ∙ walks_joined rec from (map length rooms) l e
