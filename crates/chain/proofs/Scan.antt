-- Bytes passed one at a time until one is found. Assumes nothing.
use Rattle.std.specs.Prelude.{Option, Some, None, position}
use Rattle.std.specs.List.{position_or_len}
use mathlib.Core.Path.{◌≡◌, refl, sym, ◌∙◌}
use mathlib.Core.Bool.{Bool, true, false, cond, not}
use mathlib.Core.List.{List, [], ◌∷◌}
use Prim.Native.Nat.{ℕ, ◌+◌, ◌-◌, ◌≤◌, ◌<◌}
use native.Mathlib.Omega.{arith}
use native.Mathlib.Nat.{add-zero}
use native.Mathlib.Numerals.{add-one}
use borrow.Author.Tests.{eq-eqb, ne_eqb, ltb-false}
use lib.Dec.{eqb, ltb}
use lib.ListN.{length, get_or, take, drop, length-drop, drop_of_length-le}
use lib.Seq.{drop-cons, take_all}
use Rattle.chain.specs.Fields.{ahead}
use Rattle.chain.specs.Places.{first_of}
use Rattle.chain.proofs.Ahead.{ahead_le}

-- ---- finding x
module _ (s : List ℕ) (i x : ℕ) where
  pub found : i < length s → get_or s i 0 ≡ x → first_of x s i ≡ i
  found l h = simp (drop-cons s i 0 l, eq-eqb (get_or s i 0) x h, add-zero)

  pub passed : i < length s → (get_or s i 0 ≡ x → ⊥) → first_of x s (i + 1) ≡ first_of x s i
  passed l h = simp (drop-cons s i 0 l, ne_eqb (get_or s i 0) x h, add-one) (omega arith)

  pub unfound : length s ≤ i → first_of x s i ≡ i
  unfound h = rw (drop_of_length-le s h, add-zero)

-- the part of a list from a place to its end
tail : (s : List ℕ) (q : ℕ) → take (length s - q) (drop q s) ≡ drop q s
tail s q = take_all (length s - q) (drop q s) (omega (arith, length-drop q s))

-- ---- where the first x stands among the bytes from a place on
ahead_is : (x : ℕ) (bs : List ℕ) → ahead x bs ≡ position_or_len (λ b. eqb b x) bs
ahead_is x [] = refl
ahead_is x (b ∷ bs) = go (eqb b x) (ahead_is x bs)
  where
    go : (t : Bool) → ahead x bs ≡ position_or_len (λ b. eqb b x) bs → cond t 0 (ahead x bs + 1) ≡ cond (not t) (1 + position_or_len (λ b. eqb b x) bs) 0
    go true e = refl
    go false e = omega arith

module _ (s : List ℕ) (at x : ℕ) (l : at ≤ length s) (r : Option ℕ) (d : r ≡ position (λ b. eqb b x) (take (length s - at) (drop at s))) where
  e : r ≡ position (λ b. eqb b x) (drop at s)
  e = rw tail at d

  pub first_is : (k : ℕ) → r ≡ Some k → at + k ≡ first_of x s at
  first_is k h = go (ltb (position_or_len (λ b. eqb b x) (drop at s)) (length (drop at s))) (sym h ∙ e)
    where
      go : (t : Bool) → Some k ≡ cond t (Some (position_or_len (λ b. eqb b x) (drop at s))) None → at + k ≡ first_of x s at
      go true q = let p : k ≡ position_or_len (λ b. eqb b x) (drop at s) = cc in omega (arith, ahead_is x (drop at s))
      go false q = absurd (cc)

  pub none_first : r ≡ None → length s ≡ first_of x s at
  none_first h = go (ltb (position_or_len (λ b. eqb b x) (drop at s)) (length (drop at s))) refl (sym h ∙ e)
    where
      go : (t : Bool) → ltb (position_or_len (λ b. eqb b x) (drop at s)) (length (drop at s)) ≡ t
          → None ≡ cond t (Some (position_or_len (λ b. eqb b x) (drop at s))) None → length s ≡ first_of x s at
      go true p q = absurd (cc)
      go false p q = omega (arith, ltb-false (position_or_len (λ b. eqb b x) (drop at s)) (length (drop at s)) p, ahead_is x (drop at s), ahead_le x (drop at s), length-drop at s)
