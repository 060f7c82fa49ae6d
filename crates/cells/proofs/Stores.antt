-- Laws of `sets`, a run of numbers written from a place on: what is read before it, in it and behind it.
use mathlib.Core.Path.{◌≡◌, refl, ◌∙◌}
use mathlib.Core.List.{List, [], ◌∷◌, ◌++◌}
use mathlib.Core.Logic.{◌⊎◌, inl, inr, ⊎_elim}
use mathlib.Core.Bool.{Bool, true, false}
use Prim.Native.Nat.{ℕ, zero, suc, ◌+◌, ◌-◌, ◌≤◌, ◌<◌}
use native.Mathlib.Nat.{add-zero, add-suc, suc-add}
use native.Mathlib.Omega.{arith}
use borrow.Author.Tests.{ltb-true, ltb-false}
use lib.Dec.{ltb}
use lib.ListN.{length, take, drop, get_or, set, length-set}
use lib.Seq.{sets, length-sets, take-set-le, drop-set-lt, get_or-set_same, get_or-set_other, ext_get_or}

-- a number is below another, or it is not
pub lt_or_ge : (k n : ℕ) → (k < n) ⊎ (n ≤ k)
lt_or_ge k n = go (ltb k n) refl
  where
    go : (t : Bool) → ltb k n ≡ t → (k < n) ⊎ (n ≤ k)
    go true e = inl (ltb-true k n e)
    go false e = inr (ltb-false k n e)

pub below_or : {A : Type 0} (k n : ℕ) → (k < n → A) → (n ≤ k → A) → A
below_or k n f g = ⊎_elim f g (lt_or_ge k n)

module _ {A : Type 0} where
  pub sets_append : (l : List A) (i : ℕ) (us vs : List A) → sets l i (us ++ vs) ≡ sets (sets l i us) (i + length us) vs
  sets_append l i [] vs = rw add-zero
  sets_append l i (u ∷ us) vs = rw (sets_append (set l i u) (suc i) us vs, add-suc, ← suc-add)

  pub take_sets : (n : ℕ) (l : List A) (i : ℕ) (vs : List A) → n ≤ i → take n (sets l i vs) ≡ take n l
  take_sets n l i [] h = refl
  take_sets n l i (v ∷ vs) h = take_sets n (set l i v) (suc i) vs (omega arith) ∙ take-set-le n l i v h

  pub drop_sets : (n : ℕ) (l : List A) (i : ℕ) (vs : List A) → i + length vs ≤ n → drop n (sets l i vs) ≡ drop n l
  drop_sets n l i [] h = refl
  drop_sets n l i (v ∷ vs) h = drop_sets n (set l i v) (suc i) vs (omega arith) ∙ drop-set-lt n l i v (omega arith)

module _ {A : Type 0} (d : A) where
  pub before_sets : (l : List A) (i : ℕ) (vs : List A) (k : ℕ) → k < i → get_or (sets l i vs) k d ≡ get_or l k d
  before_sets l i [] k h = refl
  before_sets l i (v ∷ vs) k h = before_sets (set l i v) (suc i) vs k (omega arith) ∙ get_or-set_other l i k v d (λ e. omega arith)

  pub behind_sets : (l : List A) (i : ℕ) (vs : List A) (k : ℕ) → i + length vs ≤ k → get_or (sets l i vs) k d ≡ get_or l k d
  behind_sets l i [] k h = refl
  behind_sets l i (v ∷ vs) k h = behind_sets (set l i v) (suc i) vs k (omega arith) ∙ get_or-set_other l i k v d (λ e. omega arith)

  pub in_sets : (l : List A) (i : ℕ) (vs : List A) (k : ℕ) → k < length vs → i + length vs ≤ length l → get_or (sets l i vs) (i + k) d ≡ get_or vs k d
  in_sets l i [] k h b = absurd (omega arith)
  in_sets l i (v ∷ vs) zero h b = rw add-zero (before_sets (set l i v) (suc i) vs i (omega arith) ∙ get_or-set_same l i v d (omega arith))
  in_sets l i (v ∷ vs) (suc k) h b = rw (add-suc, ← suc-add) (in_sets (set l i v) (suc i) vs k (omega arith) (omega (arith, length-set l i v)))

  -- what stands there already, written again
  pub sets_same : (l : List A) (i : ℕ) (vs : List A) → i + length vs ≤ length l → ((k : ℕ) → k < length vs → get_or vs k d ≡ get_or l (i + k) d) → sets l i vs ≡ l
  sets_same l i vs b h =
      ext_get_or d (sets l i vs) l (length-sets l i vs) (λ k _.
      below_or k i (λ q. before_sets l i vs k q) (λ q.
      below_or k (i + length vs) (λ p.
      let e : i + (k - i) ≡ k = omega arith in
      rw e at (in_sets l i vs (k - i) (omega arith) b ∙ h (k - i) (omega arith))) (λ p.
      behind_sets l i vs k p)))
