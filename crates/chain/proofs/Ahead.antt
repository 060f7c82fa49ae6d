-- What stands before the first x, and parts of a list. Assumes nothing.
use mathlib.Core.Path.{◌≡◌, refl, sym, ap, ◌∙◌}
use mathlib.Core.List.{List, [], ◌∷◌, ◌++◌}
use mathlib.Core.Bool.{Bool, true, false, cond, not, ◌&&◌, false≢true}
use Prim.Native.Nat.{ℕ, zero, suc, ◌+◌, ◌-◌, ◌≤◌, ◌<◌, min}
use native.Mathlib.Omega.{arith}
use native.Mathlib.Nat.{sub-zero}
use native.Mathlib.Numerals.{add-one}
use borrow.Author.Tests.{eq-eqb, ne_eqb, eqb-true}
use lib.Dec.{eqb}
use lib.ListN.{length, take, drop}
use lib.Seq.{take-nil}
use Rattle.digits.specs.Digits.{is_digit, all_digits}
use Rattle.digits.proofs.Width.{both}
use Rattle.text.specs.Text.{free}
use Rattle.chain.specs.Fields.{ahead, before}

pub ahead_le : (x : ℕ) (bs : List ℕ) → ahead x bs ≤ length bs
ahead_le x [] = omega arith
ahead_le x (b ∷ bs) = go (eqb b x) (ahead_le x bs)
  where
    go : (t : Bool) → ahead x bs ≤ length bs → cond t 0 (ahead x bs + 1) ≤ suc (length bs)
    go true h = omega arith
    go false h = omega arith

-- in the first k bytes
pub ahead_take : (x k : ℕ) (bs : List ℕ) → ahead x (take k bs) ≡ min k (ahead x bs)
ahead_take x zero bs = omega arith
ahead_take x (suc k) [] = omega arith
ahead_take x (suc k) (b ∷ bs) = go (eqb b x) (ahead_take x k bs)
  where
    go : (t : Bool) → ahead x (take k bs) ≡ min k (ahead x bs) → cond t 0 (ahead x (take k bs) + 1) ≡ min (suc k) (cond t 0 (ahead x bs + 1))
    go true h = omega arith
    go false h = omega arith

-- after j bytes of which none is x
pub ahead_past : (x j : ℕ) (bs : List ℕ) → j ≤ length bs → free x (take j bs) ≡ true → ahead x bs ≡ j + ahead x (drop j bs)
ahead_past x zero bs l h = omega arith
ahead_past x (suc j) [] l h = absurd (omega arith)
ahead_past x (suc j) (b ∷ bs) l h = go (eqb b x) h (λ e. ahead_past x j bs (omega arith) e)
  where
    go : (t : Bool) → not t && free x (take j bs) ≡ true → (free x (take j bs) ≡ true → ahead x bs ≡ j + ahead x (drop j bs))
        → cond t 0 (ahead x bs + 1) ≡ suc j + ahead x (drop j bs)
    go true e r = absurd (false≢true e)
    go false e r = omega (arith, r e)

-- x itself
pub at_ahead : (x : ℕ) (bs : List ℕ) → ahead x bs < length bs → drop (ahead x bs) bs ≡ x ∷ drop (ahead x bs + 1) bs
at_ahead x [] l = absurd (omega arith)
at_ahead x (b ∷ bs) l = go (eqb b x) refl l (λ h. at_ahead x bs h)
  where
    go : (t : Bool) → eqb b x ≡ t → cond t 0 (ahead x bs + 1) < suc (length bs)
        → (ahead x bs < length bs → drop (ahead x bs) bs ≡ x ∷ drop (ahead x bs + 1) bs)
        → drop (cond t 0 (ahead x bs + 1)) (b ∷ bs) ≡ x ∷ drop (cond t 0 (ahead x bs + 1) + 1) (b ∷ bs)
    go true e h r = ap (λ (y : ℕ). y ∷ bs) (eqb-true b x e)
    go false e h r = let k = r (omega arith) in simp add-one (simp add-one at k)

pub before_free : (x : ℕ) (bs : List ℕ) → free x (before x bs) ≡ true
before_free x [] = refl
before_free x (b ∷ bs) = go (eqb b x) refl (before_free x bs)
  where
    go : (t : Bool) → eqb b x ≡ t → free x (before x bs) ≡ true → free x (take (cond t 0 (ahead x bs + 1)) (b ∷ bs)) ≡ true
    go true e h = refl
    go false e h = simp (add-one, e) h

pub ahead_at : (x : ℕ) (a r : List ℕ) → free x a ≡ true → ahead x (a ++ (x ∷ r)) ≡ length a
ahead_at x [] r h = rw (eq-eqb x x refl)
ahead_at x (b ∷ a) r h = go (eqb b x) h (λ e. ahead_at x a r e)
  where
    go : (t : Bool) → not t && free x a ≡ true → (free x a ≡ true → ahead x (a ++ (x ∷ r)) ≡ length a)
        → cond t 0 (ahead x (a ++ (x ∷ r)) + 1) ≡ suc (length a)
    go true e i = absurd (false≢true e)
    go false e i = omega (arith, i e)

-- ---- bytes that are not x
pub digits_free : (x : ℕ) (bs : List ℕ) → is_digit x ≡ false → all_digits bs ≡ true → free x bs ≡ true
digits_free x [] h k = refl
digits_free x (b ∷ bs) h k =
    let d = both (is_digit b) (all_digits bs) k in
    rw (ne_eqb b x (λ e. let z : false ≡ true = sym h ∙ rw (← e) d.0 in absurd (false≢true z)), digits_free x bs h d.1)

pub free_append : (x : ℕ) (a b : List ℕ) → free x a ≡ true → free x b ≡ true → free x (a ++ b) ≡ true
free_append x [] b h k = k
free_append x (c ∷ a) b h k = let d = both (not (eqb c x)) (free x a) h in rw (d.0, free_append x a b d.1 k)

pub free_drop : (x n : ℕ) (bs : List ℕ) → free x bs ≡ true → free x (drop n bs) ≡ true
free_drop x zero bs h = h
free_drop x (suc n) [] h = refl
free_drop x (suc n) (b ∷ bs) h = free_drop x n bs (both (not (eqb b x)) (free x bs) h).1

-- ---- parts
module _ {A : Type 0} where
  pub drop_take : (j k : ℕ) (l : List A) → drop j (take k l) ≡ take (k - j) (drop j l)
  drop_take zero k l = rw sub-zero
  drop_take (suc j) zero l = let q : 0 - suc j ≡ 0 = omega arith in rw q
  drop_take (suc j) (suc k) [] = rw take-nil
  drop_take (suc j) (suc k) (x ∷ l) = let q : suc k - suc j ≡ k - j = omega arith in rw q (drop_take j k l)
