-- The room filled piece by piece. Assumes nothing.
use Rattle.std.specs.Prelude.{Option, Some, None}
use mathlib.Core.Path.{◌≡◌, refl, ap, ◌∙◌}
use mathlib.Core.List.{List, [], ◌∷◌}
use mathlib.Core.Bool.{false}
use Prim.Native.Nat.{ℕ, suc, ◌+◌, ◌-◌, ◌≤◌, ◌<◌}
use native.Mathlib.Omega.{arith}
use native.Mathlib.Nat.{add-zero}
use borrow.Author.Tests.{le-leb, lt-leb, le-ltb}
use lib.ListN.{length, set, drop}
use lib.Seq.{sets, length-sets, set_comm}
use Rattle.stretch.specs.Stretches.{some_length, stretch_at}
use Rattle.stretch.specs.Runs.{run_of, Ends}
use Rattle.stretch.proofs.Stretching.{length_none, length_some}
use Rattle.salvage.specs.Pieces.{Piece, message, passed, pieces}
use Rattle.salvage.specs.Rooms.{fitting, spanned, given, go_on, cells, refused, walk_out, First, Filled}
use Rattle.salvage.proofs.Stepping.{pieces_end, pieces_message, pieces_run}
use Rattle.salvage.proofs.Walking.{run_here, run_inside, message_inside}

-- ---- the first piece
module _ (rec : List ℕ) (p : ℕ) (l : p < length rec) where
  module _ {m : ℕ} (g : Some m ≡ some_length (stretch_at rec p)) where
    -- its message lies in the recording
    pub first_inside : p + m ≤ length rec
    first_inside = let h = length_some (stretch_at rec p) g in omega (arith, h.0, h.1, message_inside rec p (omega arith))

    pub first_message : (next : Option ℕ) → next ≡ some_length (stretch_at rec (p + m)) → First rec p 1 m next
    first_message next e =
        let h = length_some (stretch_at rec p) g in
        record {
          piece = message p m;
          comes = pieces_message rec p m h.0 (omega (arith, h.0, h.1));
          cell = refl;
          size = refl;
          some = omega (arith, h.0, h.1);
          inside = first_inside;
          after = e;
        }

  pub first_run : (next : Option ℕ) (e : ℕ) → None ≡ some_length (stretch_at rec p) → Ends rec p e next → First rec p 0 (e - p) next
  first_run next e g x =
      let z : stretch_at rec p ≡ 0 = length_none (stretch_at rec p) g in
      let n : run_of (drop p rec) ≡ e - p = omega (arith, x.here) in
      let q : p + (e - p) ≡ e = omega (arith, x.here) in
      record {
        piece = passed p (e - p);
        comes = rw n at (pieces_run rec p z l);
        cell = refl;
        size = refl;
        some = omega (arith, run_here rec p l z);
        inside = omega (arith, run_inside rec p (omega arith));
        after = rw q x.after;
      }

-- ---- what fits
fitting_none : (room : ℕ) → fitting room [] ≡ []
unfolding fitting
fitting_none room = refl

fitting_full : (room : ℕ) (ps : List Piece) → room < 3 → fitting room ps ≡ []
unfolding fitting
fitting_full room [] h = refl
fitting_full room (x ∷ ps) h = rw (lt-leb 3 room h)

fitting_more : (room : ℕ) (x : Piece) (ps : List Piece) → 3 ≤ room → fitting room (x ∷ ps) ≡ x ∷ fitting (room - 3) ps
unfolding fitting
fitting_more room x ps h = rw (le-leb 3 room h)

-- ---- a loop's turn
pub record Going (rec : List ℕ) (from : ℕ) (was is : List ℕ) (i at k : ℕ) : Type 0 where
  pub inside : i ≤ length rec
  pub room : at ≤ length was
  pub long : length is ≡ length was
  pub few : k ≤ at
  pub same : sets is at (cells (fitting (length was - at) (pieces rec i))) ≡ sets was 2 (cells (fitting (length was - 2) (pieces rec from)))
  pub on : i + spanned (fitting (length was - at) (pieces rec i)) ≡ from + spanned (fitting (length was - 2) (pieces rec from))
  pub many : k + length (fitting (length was - at) (pieces rec i)) ≡ length (fitting (length was - 2) (pieces rec from))

module _ (rec : List ℕ) (from : ℕ) (was : List ℕ) where
  pub going_start : from ≤ length rec → 5 ≤ length was → Going rec from was was from 2 0
  going_start l h = record { inside = l; room = omega arith; long = refl; few = omega arith; same = refl; on = refl; many = omega arith }

  module _ (is : List ℕ) (i at k : ℕ) (g : Going rec from was is i at k) where
    none_left : fitting (length was - at) (pieces rec i) ≡ [] → Filled rec from was is i k
    unfolding given go_on
    none_left e = record {
      same = rw e at g.same;
      on = rw (e, add-zero) at g.on;
      many = rw (e, add-zero) at g.many;
    }

    pub going_full : length was - at < 3 → Filled rec from was is i k
    going_full h = none_left (fitting_full (length was - at) (pieces rec i) h)

    pub going_end : length rec ≤ i → Filled rec from was is i k
    going_end h = none_left (rw (pieces_end rec i h) (fitting_none (length was - at)))

    pub going_on : (kind n : ℕ) (next : Option ℕ) (then : List ℕ) → 3 ≤ length was - at → First rec i kind n next → then ≡ sets is at (kind ∷ i ∷ n ∷ [])
        → Going rec from was then (i + n) (at + 3) (k + 1)
    going_on kind n next then h f e =
        let w : length was - at - 3 ≡ length was - (at + 3) = omega arith in
        let r = fitting (length was - (at + 3)) (pieces rec (i + n)) in
        let q : fitting (length was - at) (pieces rec i) ≡ f.piece ∷ r = rw f.comes (fitting_more (length was - at) f.piece (pieces rec (i + n)) h ∙ rw w) in
        let t : at + 3 ≡ suc (suc (suc at)) = omega arith in
        record {
          inside = f.inside;
          room = omega (arith, g.room);
          long = ap length e ∙ length-sets is at (kind ∷ i ∷ n ∷ []) ∙ g.long;
          few = omega (arith, g.few);
          same = ap (λ (m : ℕ). sets then m (cells r)) t ∙ ap (λ (l : List ℕ). sets l (suc (suc (suc at))) (cells r)) e ∙ rw (q, f.cell) at g.same;
          on = omega (arith, rw q at g.on, f.size);
          many = omega (arith, rw q at g.many);
        }

-- ---- the first two numbers
set_before : (vs l : List ℕ) (i j a : ℕ) → j < i → set (sets l i vs) j a ≡ sets (set l j a) i vs
set_before [] l i j a h = refl
set_before (v ∷ vs) l i j a h =
    set_before vs (set l i v) (suc i) j a (omega arith) ∙ ap (λ (m : List ℕ). sets m (suc i) vs) (set_comm l i j v a (λ z. omega arith))

pub filled_out : (rec : List ℕ) (from : ℕ) (was is : List ℕ) (next count : ℕ) → from ≤ length rec → 5 ≤ length was → Filled rec from was is next count
    → set (set is 0 next) 1 count ≡ walk_out rec from was
unfolding walk_out
filled_out rec from was is next count l h f =
    let vs = cells (given rec from (length was)) in
    let r : refused rec from (length was) ≡ false = rw (le-ltb (length rec) from l, le-ltb (length was) 5 h) in
    let a : set is 0 next ≡ sets (set was 0 next) 2 vs = rw f.same (set_before vs was 2 0 next (omega arith)) in
    let b : set (set is 0 next) 1 count ≡ sets (set (set was 0 next) 1 count) 2 vs = rw a (set_before vs (set was 0 next) 2 1 count (omega arith)) in
    rw (r, ← f.on, ← f.many) b
