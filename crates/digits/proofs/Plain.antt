-- A number that was read, as a plain number: 2 ^ 64 - 1 stands for none. Assumes nothing.
use Rattle.std.specs.Prelude.{Option, Some, None}
use Rattle.std.specs.Option.{unwrap_or}
use Rattle.std.proofs.Common.{◌≡◌, ℕ, ◌^◌, ◌<◌, Bool, cond, eqb, List, refl, sym, ap, ◌∙◌, arith, eq-eqb, ne_eqb}
use Rattle.digits.specs.Digits.{digits_of}
use Rattle.digits.proofs.Width.{below}

abbrev pub plain : ℕ → Option ℕ
plain r = cond (eqb r 18446744073709551615) None (Some r)

module _ (x : Option ℕ) (r : ℕ) (e : x ≡ plain r) where
  pub is_no : r ≡ 18446744073709551615 → x ≡ None
  is_no h = e ∙ ap (λ (t : Bool). cond t None (Some r)) (eq-eqb r 18446744073709551615 h)

  pub is_number : (r ≡ 18446744073709551615 → ⊥) → x ≡ Some r
  is_number h = e ∙ ap (λ (t : Bool). cond t None (Some r)) (ne_eqb r 18446744073709551615 h)

-- a number of at most 18 digits is told from none
pub as_plain : (s : List ℕ) (x o : Option ℕ) (r : ℕ) → o ≡ digits_of 18 s → digits_of 18 s ≡ x → r ≡ unwrap_or o 18446744073709551615 → x ≡ plain r
as_plain s x o r d e q = sym e ∙ go (digits_of 18 s) refl (q ∙ ap (λ (u : Option ℕ). unwrap_or u 18446744073709551615) d)
  where
    go : (u : Option ℕ) → digits_of 18 s ≡ u → r ≡ unwrap_or u 18446744073709551615 → u ≡ plain r
    go None p h = ap (λ (t : Bool). cond t None (Some r)) (sym (eq-eqb r 18446744073709551615 h))
    go (Some v) p h =
        let l : v < 10 ^ 18 = below 18 s p in
        ap Some (sym h) ∙ ap (λ (t : Bool). cond t None (Some r)) (sym (ne_eqb r 18446744073709551615 (λ z. absurd (omega arith))))
