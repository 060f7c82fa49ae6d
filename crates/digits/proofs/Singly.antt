-- 1 to 3 digits, one after the other. Assumes nothing.
use Rattle.std.specs.Prelude.{Some, None}
use Rattle.std.proofs.Common.{◌≡◌, ℕ, ◌+◌, ◌*◌, ◌<◌, ◌≤◌, List, length, get_or, drop, ap, ◌∙◌, arith}
use lib.Bits.{bit_xor}
use Rattle.digits.specs.Digits.{digits_of}
use Rattle.digits.proofs.Steps.{rest, begun, one, other, done}

module _ (s : List ℕ) (l : 1 ≤ length s) (m : length s ≤ 3) (a : ℕ) (e : a ≡ bit_xor (get_or s 0 0) 48) where
  all : digits_of 18 s ≡ rest 0 s
  all = begun s 18 l (omega arith)

  pub no_first : 9 < a → digits_of 18 s ≡ None
  no_first h = all ∙ other s 0 0 a e l h

  module _ (h : a ≤ 9) where
    first : digits_of 18 s ≡ rest a (drop 1 s)
    first = all ∙ one s 0 0 a e l h ∙ ap (λ (v : ℕ). rest v (drop 1 s)) (omega arith)

    pub is_one : length s ≡ 1 → digits_of 18 s ≡ Some a
    is_one k = first ∙ done s 1 a (omega arith)

    module _ (n : length s ≡ 1 → ⊥) (b : ℕ) (f : b ≡ bit_xor (get_or s 1 0) 48) where
      pub no_second : 9 < b → digits_of 18 s ≡ None
      no_second i = first ∙ other s 1 a b f (omega arith) i

      module _ (i : b ≤ 9) where
        second : digits_of 18 s ≡ rest (a * 10 + b) (drop 2 s)
        second = first ∙ one s 1 a b f (omega arith) i

        pub is_two : length s ≡ 2 → digits_of 18 s ≡ Some (a * 10 + b)
        is_two k = second ∙ done s 2 (a * 10 + b) (omega arith)

        module _ (o : length s ≡ 2 → ⊥) (c : ℕ) (g : c ≡ bit_xor (get_or s 2 0) 48) where
          pub no_third : 9 < c → digits_of 18 s ≡ None
          no_third j = second ∙ other s 2 (a * 10 + b) c g (omega arith) j

          pub is_three : c ≤ 9 → digits_of 18 s ≡ Some ((a * 10 + b) * 10 + c)
          is_three j = second ∙ one s 2 (a * 10 + b) c g (omega arith) j ∙ done s 3 ((a * 10 + b) * 10 + c) m
