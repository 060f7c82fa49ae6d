-- A run of passed bytes, a byte at a time and whole. Assumes nothing.
use Rattle.std.specs.Prelude.{Some, None}
use mathlib.Core.Path.{◌≡◌, refl, sym, ap, ◌∙◌}
use mathlib.Core.List.{List, [], ◌∷◌}
use mathlib.Core.Bool.{Bool, true, false, cond}
use mathlib.Core.Logic.{◌⊎◌, inl, inr}
use Prim.Native.Nat.{ℕ, zero, suc, ◌+◌, ◌-◌, ◌≤◌, ◌<◌}
use native.Mathlib.Omega.{arith}
use native.Mathlib.Numerals.{add-one}
use borrow.Author.Tests.{eqb-true, eqb-false, ne_eqb}
use lib.Dec.{eqb}
use lib.ListN.{length, take, drop, length-drop, drop_of_length-le}
use lib.Seq.{drop-cons, take_all}
use Rattle.stretch.specs.Stretches.{some_length, stretch_of, stretch_at}
use Rattle.stretch.specs.Runs.{run_of, Ends}
use Rattle.stretch.proofs.Stretching.{length_none, length_some, no_length, too_short}

-- from a place to the end
pub rest_is : (s : List ℕ) (p : ℕ) → take (length s - p) (drop p s) ≡ drop p s
rest_is s p = take_all (length s - p) (drop p s) (rw length-drop (omega arith))

-- ---- a byte at a time
module _ (rec : List ℕ) (p : ℕ) where
  pub run_end : length rec ≤ p → run_of (drop p rec) ≡ 0
  unfolding run_of
  run_end l = rw (drop_of_length-le rec {i = p} l)

  pub run_stop : 1 ≤ stretch_at rec p → run_of (drop p rec) ≡ 0
  unfolding run_of
  run_stop l = go (drop p rec) l
    where
      go : (s : List ℕ) → 1 ≤ stretch_of s → run_of s ≡ 0
      go [] h = refl
      go (b ∷ s) h = rw (ne_eqb (stretch_of (b ∷ s)) 0 (λ z. omega arith))

  pub run_more : p < length rec → stretch_at rec p ≡ 0 → run_of (drop p rec) ≡ run_of (drop (p + 1) rec) + 1
  unfolding run_of
  run_more l e =
      let d : drop p rec ≡ _ ∷ drop (suc p) rec = drop-cons rec p 0 l in
      let z : stretch_of (_ ∷ drop (suc p) rec) ≡ 0 = ap stretch_of (sym d) ∙ e in
      rw (d, z, add-one p)

-- ---- a turn of the code's loop
module _ (rec : List ℕ) (at i : ℕ) (h : at + run_of (drop at rec) ≡ i + run_of (drop i rec)) where
  pub run_done : length rec ≤ i → i ≤ length rec → Ends rec at (length rec) None
  run_done l k = record { here = omega (arith, run_end rec i l); after = no_length (stretch_at rec (length rec)) (too_short (drop (length rec) rec) (rw length-drop (omega arith))) }

  pub run_found : {m : ℕ} → Some m ≡ some_length (stretch_at rec i) → Ends rec at i (Some m)
  run_found e = record { here = omega (arith, run_stop rec i (length_some (stretch_at rec i) e).1); after = e }

  pub run_goes : i < length rec → None ≡ some_length (stretch_at rec i) → at + run_of (drop at rec) ≡ i + 1 + run_of (drop (i + 1) rec)
  run_goes l e = omega (arith, run_more rec i l (length_none (stretch_at rec i) e))

-- ---- whole
pub run_le : (s : List ℕ) → run_of s ≤ length s
unfolding run_of
run_le [] = omega arith
run_le (b ∷ s) = go (eqb (stretch_of (b ∷ s)) 0) (run_le s)
  where
    go : (t : Bool) → run_of s ≤ length s → cond t (run_of s + 1) 0 ≤ suc (length s)
    go true h = omega arith
    go false h = omega arith

-- no message is taken inside
pub run_free : (s : List ℕ) (q : ℕ) → q < run_of s → stretch_of (drop q s) ≡ 0
unfolding run_of
run_free [] q h = absurd (omega arith)
run_free (b ∷ s) q h = go (eqb (stretch_of (b ∷ s)) 0) q refl h (λ j l. run_free s j l)
  where
    go : (t : Bool) (q : ℕ) → eqb (stretch_of (b ∷ s)) 0 ≡ t → q < cond t (run_of s + 1) 0 → ((j : ℕ) → j < run_of s → stretch_of (drop j s) ≡ 0)
        → stretch_of (drop q (b ∷ s)) ≡ 0
    go true zero e h i = eqb-true (stretch_of (b ∷ s)) 0 e
    go true (suc j) e h i = i j (omega arith)
    go false q e h i = absurd (omega arith)

-- and it ends with the bytes, or where one is
pub run_stops : (s : List ℕ) → (run_of s ≡ length s) ⊎ (1 ≤ stretch_of (drop (run_of s) s))
unfolding run_of
run_stops [] = inl refl
run_stops (b ∷ s) = go (eqb (stretch_of (b ∷ s)) 0) refl (run_stops s)
  where
    go : (t : Bool) → eqb (stretch_of (b ∷ s)) 0 ≡ t → (run_of s ≡ length s) ⊎ (1 ≤ stretch_of (drop (run_of s) s))
        → (cond t (run_of s + 1) 0 ≡ suc (length s)) ⊎ (1 ≤ stretch_of (drop (cond t (run_of s + 1) 0) (b ∷ s)))
    go true e (inl h) = inl (omega arith)
    go true e (inr h) = inr (simp add-one h)
    go false e h = inr (omega (arith, eqb-false (stretch_of (b ∷ s)) 0 e))
