-- A W in the row, case by case.
use mathlib.Core.Path.{◌≡◌, refl, sym, ap, ◌∙◌}
use mathlib.Core.Bool.{Bool, true, false, cond}
use mathlib.Core.Logic.{⊎_elim, ◌⊎◌}
use Prim.Native.Nat.{ℕ, ◌+◌, ◌≤◌, ◌<◌, min}
use native.Mathlib.Omega.{arith}
use Rattle.std.proofs.Math.Nat.{min-eq_left, min-eq_right}
use lib.Dec.{eqb, ltb}
use borrow.Author.Tests.{eqb-true, eq-eqb, ne_eqb, ltb-true, ltb-false, le-leb, lt-leb}
use Rattle.heading.specs.Marks.{with_mark}
use Rattle.message.specs.Message.{Head}
use Rattle.board.proofs.Tested.{both}
use Rattle.loops.specs.declared.Loop.{Loop}
use Rattle.loops.specs.Loops.{no_loop, with_name, lower, begun, is_next, grown, in_row}

-- the lower of two is std's least
pub lower_min : (a b : ℕ) → lower a b ≡ min a b
unfolding lower
lower_min a b = go (ltb a b) refl
  where
    go : (t : Bool) → ltb a b ≡ t → cond t a b ≡ min a b
    go true e = let h : a ≤ b = omega (arith, ltb-true a b e) in sym (min-eq_left h)
    go false e = sym (min-eq_right (ltb-false a b e))

pub not_named : (n i named : ℕ) → n ≤ i → with_name n i named ≡ named
unfolding with_name
not_named n i named h = rw (le-leb n i h)

pub is_named_lem : (n i named : ℕ) → i < n → with_name n i named ≡ with_mark named i
unfolding with_name
is_named_lem n i named h = rw (lt-leb n i h)

-- the next of the row has the next 34, and the same 911
pub next_is : (h : Head) (l : Loop) → is_next h l ≡ true → (h.number ≡ l.come + 1) × (h.loops ≡ l.loops)
next_is h l e =
    let p = both (eqb h.number (l.come + 1)) (eqb h.loops l.loops) e in
    (eqb-true h.number (l.come + 1) p.0, eqb-true h.loops l.loops p.1)

module _ (h : Head) (n i : ℕ) (l : Loop) where
  pub begins : h.number ≡ 1 → in_row h n i l ≡ begun h n i
  unfolding in_row
  begins e = rw (eq-eqb h.number 1 e)

  -- it is the next, or not
  pub by_next : (h.number ≡ 1 → ⊥) → in_row h n i l ≡ cond (is_next h l) (grown h n i l) no_loop
  unfolding in_row
  by_next e = rw (ne_eqb h.number 1 e)

  pub drops : (h.number ≡ 1 → ⊥) → (h.number ≡ l.come + 1 → ⊥) ⊎ ((h.number ≡ l.come + 1) × (h.loops ≡ l.loops → ⊥)) → in_row h n i l ≡ no_loop
  drops e o = by_next e ∙ go (is_next h l) refl
    where
      go : (t : Bool) → is_next h l ≡ t → cond t (grown h n i l) no_loop ≡ no_loop
      go true q = let p = next_is h l q in absurd (⊎_elim (λ f. f p.0) (λ f. f.1 p.1) o)
      go false q = refl

  -- the code takes its own 34, which is then the next
  pub grows : (h.number ≡ 1 → ⊥) → h.number ≡ l.come + 1 → h.loops ≡ l.loops
      → in_row h n i l ≡ record { loops = l.loops; come = h.number; low = lower l.low h.last; named = with_name n i l.named }
  grows e p q = by_next e ∙ rw (eq-eqb h.number (l.come + 1) p, eq-eqb h.loops l.loops q) (ap (λ (k : ℕ). record { loops = l.loops; come = k; low = lower l.low h.last; named = with_name n i l.named }) (sym p))
