-- A lot as a run along the places with the sum so far, and the ways a turn of that run can go. Assumes nothing.
use mathlib.Core.Path.{◌≡◌, refl, sym, ap, ◌∙◌}
use mathlib.Core.Bool.{Bool, true, false, cond, ◌&&◌}
use mathlib.Core.List.{List, [], ◌∷◌}
use Prim.Native.Nat.{ℕ, zero, suc, ◌+◌, ◌-◌, ◌≤◌, ◌<◌, min}
use native.Mathlib.Omega.{arith}
use native.Mathlib.Numerals.{add-one}
use lib.ListN.{length, take, drop, get_or, drop_of_length-le}
use lib.Seq.{drop-cons, take_all}
use lib.IntN.{ℤ, pos, ◌+ℤ◌, ◌*ℤ◌, +ℤ_idl, +ℤ_idr, +ℤ_assoc, *ℤ-zero}
use Rattle.std.specs.Prelude.{Option, None, Some}
use Rattle.std.proofs.lemmas.List.{take_min}
use Rattle.book.specs.declared.Entry.{Entry}
use Rattle.book.specs.declared.Side.{Side}
use Rattle.book.specs.Canonical.{held_in}
use Rattle.sums.specs.Sums.{fits, sum_of, level_of}
use Rattle.sums.proofs.Levels.{most, Stands, stands, none}
use Rattle.proceeds.specs.declared.Sale.{Sale}
use Rattle.proceeds.specs.Lots.{units_of, left_of, value_of, sum_over, sum_after, all_fit, lot_of}

-- the sum after a place
abbrev pub next : ℤ → ℕ → Entry → ℤ
next z n e = z +ℤ e.price *ℤ pos (min n e.size)

unfoldable pub run : ℤ → ℕ → List Entry → Option Sale
run z n [] = Some (record { sum = z; left = n })
run z n (e ∷ es) = cond (fits (next z n e)) (run (next z n e) (n - e.size) es) None

-- ---- a run is a lot
unfoldable all_from : ℤ → ℕ → List Entry → ℕ → Bool
all_from z n es zero = true
all_from z n es (suc k) = all_from z n es k && fits (z +ℤ sum_after n es (suc k))

and_true : (a : Bool) → a && true ≡ a
and_true true = refl
and_true false = refl

and_assoc : (a b c : Bool) → (a && b) && c ≡ a && (b && c)
and_assoc true b c = refl
and_assoc false b c = refl

-- the first place comes off in front
front : (z : ℤ) (n : ℕ) (e : Entry) (es : List Entry) (k : ℕ)
    → all_from z n (e ∷ es) (suc k) ≡ fits (next z n e) && all_from (next z n e) (n - e.size) es k
unfolding all_from value_of units_of
front z n e es zero = ap (λ (w : ℤ). fits (z +ℤ w)) (+ℤ_idr (e.price *ℤ pos (min n e.size))) ∙ sym (and_true (fits (next z n e)))
front z n e es (suc k) =
    ap (λ (b : Bool). b && fits (z +ℤ (e.price *ℤ pos (min n e.size) +ℤ sum_after (n - e.size) es (suc k)))) (front z n e es k)
    ∙ ap (λ (w : ℤ). (fits (next z n e) && all_from (next z n e) (n - e.size) es k) && fits w) (sym (+ℤ_assoc z (e.price *ℤ pos (min n e.size)) (sum_after (n - e.size) es (suc k))))
    ∙ and_assoc (fits (next z n e)) (all_from (next z n e) (n - e.size) es k) (fits (next z n e +ℤ sum_after (n - e.size) es (suc k)))

-- the answer of a run
abbrev answer : Bool → ℤ → ℕ → Option Sale
answer b z n = cond b (Some (record { sum = z; left = n })) None

run_is : (z : ℤ) (n : ℕ) (es : List Entry) → run z n es ≡ answer (all_from z n es (length es)) (z +ℤ sum_after n es (length es)) (left_of n es)
unfolding run all_from left_of value_of units_of
run_is z n [] = ap (λ (w : ℤ). Some (record { sum = w; left = n })) (sym (+ℤ_idr z))
run_is z n (e ∷ es) =
    go (fits (next z n e)) (run_is (next z n e) (n - e.size) es)
    ∙ ap (λ (b : Bool). answer b (z +ℤ (e.price *ℤ pos (min n e.size) +ℤ sum_after (n - e.size) es (length es))) (left_of (n - e.size) es)) (sym (front z n e es (length es)))
  where
    go : (b : Bool)
        → run (next z n e) (n - e.size) es ≡ answer (all_from (next z n e) (n - e.size) es (length es)) (next z n e +ℤ sum_after (n - e.size) es (length es)) (left_of (n - e.size) es)
        → cond b (run (next z n e) (n - e.size) es) None
        ≡ answer (b && all_from (next z n e) (n - e.size) es (length es)) (z +ℤ (e.price *ℤ pos (min n e.size) +ℤ sum_after (n - e.size) es (length es))) (left_of (n - e.size) es)
    go true h = h ∙ ap (λ (w : ℤ). answer (all_from (next z n e) (n - e.size) es (length es)) w (left_of (n - e.size) es)) (+ℤ_assoc z (e.price *ℤ pos (min n e.size)) (sum_after (n - e.size) es (length es)))
    go false h = refl

all_from_lem : (n : ℕ) (es : List Entry) (k : ℕ) → all_from (pos 0) n es k ≡ all_fit n es k
unfolding all_from all_fit
all_from_lem n es zero = refl
all_from_lem n es (suc k) = rw (all_from_lem n es k, +ℤ_idl (sum_after n es (suc k)))

pub whole : (n : ℕ) (es : List Entry) → sum_after n es (length es) ≡ sum_over n es
whole n es = rw (take_all (length es) es (omega arith))

pub run_lot : (n : ℕ) (es : List Entry) → run (pos 0) n es ≡ lot_of n es
unfolding lot_of
run_lot n es = run_is (pos 0) n es ∙ rw (all_from_lem n es (length es), +ℤ_idl (sum_after n es (length es)), whole n es)

-- what a side holds: the first of its places, as many as its number says or as there are
pub first_held : (s : Side) (n : ℕ) (xs : List Entry) → xs ≡ s.places → n ≡ min s.held (length xs) → held_in s ≡ take n xs
first_held s n xs e m = rw (m, take_min s.held xs, e)

-- ---- the ways of a turn
pub run_end : (z : ℤ) (n i : ℕ) (es : List Entry) → length es ≤ i → run z n (drop i es) ≡ Some (record { sum = z; left = n })
unfolding run
run_end z n i es h = rw (drop_of_length-le es h)

no_units : (z : ℤ) (e : Entry) → next z 0 e ≡ z
no_units z e = let m : min 0 e.size ≡ 0 = omega arith in rw (m, *ℤ-zero e.price, +ℤ_idr z)

-- with nothing left the sum stays
pub run_sold : (z : ℤ) (es : List Entry) → fits z ≡ true → run z 0 es ≡ Some (record { sum = z; left = 0 })
unfolding run
run_sold z [] h = refl
run_sold z (e ∷ es) h =
    let l : 0 - e.size ≡ 0 = omega arith in
    rw (no_units z e, h, l) (run_sold z es h)

-- with no unit left, whatever places follow
pub run_out : (z : ℤ) (n : ℕ) (es : List Entry) → fits z ≡ true → n ≡ 0 → run z n es ≡ Some (record { sum = z; left = n })
run_out z n es h e = rw e (run_sold z es h)

-- a turn from a level, at the place with the index i: so many units at a price, and the level that was told
module _ (es : List Entry) (i level left : ℕ) (d : Entry) (h : i < length es)
    (price : ℤ) (units : ℕ) (p : price ≡ (get_or es i d).price) (u : units ≡ min left (get_or es i d).size) where
  is_next_lem : sum_of level +ℤ price *ℤ pos units ≡ next (sum_of level) left (get_or es i d)
  is_next_lem = rw (p, u)

  -- the entry at i comes off what is left
  at_place : drop i es ≡ get_or es i d ∷ drop (i + 1) es
  at_place = drop-cons es i d h ∙ rw (add-one i)

  pub turn_out : level_of (sum_of level +ℤ price *ℤ pos units) ≡ None → run (sum_of level) left (drop i es) ≡ None
  unfolding run
  turn_out e = ap (run (sum_of level) left) at_place ∙ rw (none (next (sum_of level) left (get_or es i d)) (ap level_of (sym is_next_lem) ∙ e))

  pub turn_on : (to : ℕ) → level_of (sum_of level +ℤ price *ℤ pos units) ≡ Some to
      → (to ≤ most) × (run (sum_of level) left (drop i es) ≡ run (sum_of to) (left - units) (drop (i + 1) es))
  unfolding run
  turn_on to e =
      let s : Stands (next (sum_of level) left (get_or es i d)) to = stands (next (sum_of level) left (get_or es i d)) to (ap level_of (sym is_next_lem) ∙ e) in
      let m : left - (get_or es i d).size ≡ left - units = omega (arith, u) in
      (s.small, ap (run (sum_of level) left) at_place ∙ rw s.fine (rw (s.sum, m)))
