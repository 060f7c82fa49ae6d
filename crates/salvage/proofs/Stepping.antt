-- The walk one piece at a time. Assumes nothing.
use mathlib.Core.Path.{◌≡◌, refl, ap, ◌∙◌}
use mathlib.Core.List.{List, [], ◌∷◌}
use mathlib.Core.Bool.{Bool, true, false, cond}
use Prim.Native.Nat.{ℕ, zero, suc, ◌+◌, ◌-◌, ◌≤◌, ◌<◌}
use native.Mathlib.Omega.{arith}
use native.Mathlib.Nat.{add-zero}
use native.Mathlib.Numerals.{add-one}
use borrow.Author.Tests.{ne_eqb}
use lib.Dec.{eqb}
use lib.ListN.{length, drop, length-drop, drop_of_length-le}
use lib.Seq.{drop-nil, drop-drop}
use Rattle.stretch.specs.Stretches.{stretch_of, stretch_at}
use Rattle.stretch.specs.Runs.{run_of}
use Rattle.stretch.proofs.Stretching.{too_short}
use Rattle.salvage.specs.Pieces.{message, passed, pass, walk_of, pieces}

-- the rest of a message
skip : (s : List ℕ) (k p : ℕ) → walk_of s k p ≡ walk_of (drop k s) 0 (p + k)
unfolding walk_of
skip [] k p = rw drop-nil
skip (b ∷ s) zero p = rw add-zero
skip (b ∷ s) (suc k) p = let q : p + 1 + k ≡ p + suc k = omega arith in skip s k (p + 1) ∙ rw q

-- a message
pub message_of_lem : (s : List ℕ) (p n : ℕ) → stretch_of s ≡ n → 1 ≤ n → walk_of s 0 p ≡ message p n ∷ walk_of (drop n s) 0 (p + n)
unfolding walk_of
message_of_lem [] p n e l = absurd (omega (arith, too_short [] (omega arith)))
message_of_lem (b ∷ s) p zero e l = absurd (omega arith)
message_of_lem (b ∷ s) p (suc k) e l =
    let q : suc k - 1 ≡ k = omega arith in
    let r : p + 1 + k ≡ p + suc k = omega arith in
    rw (e, ne_eqb (suc k) 0 (λ z. omega arith), q, skip s k (p + 1), r)

-- a byte passed over, and those after it
passes_of : (s : List ℕ) (p : ℕ) → pass p (walk_of s 0 (p + 1)) ≡ passed p (run_of s + 1) ∷ walk_of (drop (run_of s) s) 0 (p + 1 + run_of s)
unfolding walk_of run_of
passes_of [] p = refl
passes_of (b ∷ s) p = go (eqb (stretch_of (b ∷ s)) 0) refl (passes_of s (p + 1))
  where
    go : (t : Bool) → eqb (stretch_of (b ∷ s)) 0 ≡ t
        → pass (p + 1) (walk_of s 0 (p + 1 + 1)) ≡ passed (p + 1) (run_of s + 1) ∷ walk_of (drop (run_of s) s) 0 (p + 1 + 1 + run_of s)
        → pass p (cond t (pass (p + 1) (walk_of s 0 (p + 1 + 1))) (message (p + 1) (stretch_of (b ∷ s)) ∷ walk_of s (stretch_of (b ∷ s) - 1) (p + 1 + 1)))
        ≡ passed p (cond t (run_of s + 1) 0 + 1) ∷ walk_of (drop (cond t (run_of s + 1) 0) (b ∷ s)) 0 (p + 1 + cond t (run_of s + 1) 0)
    go true e i =
        let q : p + 1 + 1 + run_of s ≡ p + 1 + (run_of s + 1) = omega arith in
        ap (pass p) i ∙ rw q (simp add-one)
    go false e i = rw (add-zero, e)

-- a run
run_of_lem : (s : List ℕ) (p : ℕ) → stretch_of s ≡ 0 → 1 ≤ length s → walk_of s 0 p ≡ passed p (run_of s) ∷ walk_of (drop (run_of s) s) 0 (p + run_of s)
unfolding walk_of run_of
run_of_lem [] p e l = absurd (omega arith)
run_of_lem (b ∷ s) p e l =
    let q : p + 1 + run_of s ≡ p + (run_of s + 1) = omega arith in
    rw (e) (passes_of s p ∙ rw q (simp add-one))

module _ (rec : List ℕ) (p : ℕ) where
  pub pieces_end : length rec ≤ p → pieces rec p ≡ []
  unfolding pieces walk_of
  pieces_end l = rw (drop_of_length-le rec {i = p} l)

  pub pieces_message : (n : ℕ) → stretch_at rec p ≡ n → 1 ≤ n → pieces rec p ≡ message p n ∷ pieces rec (p + n)
  unfolding pieces
  pieces_message n e l = message_of_lem (drop p rec) p n e l ∙ rw (drop-drop n p rec)

  pub pieces_run : stretch_at rec p ≡ 0 → p < length rec → pieces rec p ≡ passed p (run_of (drop p rec)) ∷ pieces rec (p + run_of (drop p rec))
  unfolding pieces
  pieces_run e l = run_of_lem (drop p rec) p e (rw length-drop (omega arith)) ∙ rw (drop-drop (run_of (drop p rec)) p rec)
