-- Digits read in parts of up to four. Assumes nothing.
use Rattle.std.specs.Prelude.{Some, None}
use Rattle.std.proofs.Common.{◌≡◌, ℕ, zero, suc, ◌+◌, ◌-◌, ◌*◌, ◌^◌, ◌<◌, ◌≤◌, Bool, true, false, cond, ◌&&◌, eqb, List, [], ◌∷◌, ◌++◌, map, length, take, drop, replicate, sym, refl, ap, ◌∙◌, append_assoc, zero-add, arith, length-append, length-drop, take-append-drop, length-take-le, take_all, drop-drop, eqb-true}
use mathlib.Core.List.{map-append}
use mathlib.Core.Bool.{false≢true}
use borrow.Author.Tests.{eqb-false}
use lib.ListN.{length-replicate}
use Rattle.digits.specs.Digits.{digits_of, is_digit, all_digits, value}
use Rattle.digits.proofs.Width.{both, cond_is, value_lt}
use Rattle.digits.proofs.Steps.{rest, fit, begun}
use Rattle.digits.proofs.Words.{above, above_both, number, none_both, each_none}
use Rattle.digits.proofs.Fours.{stop, later, bytes, writes, writes_none, again, same, four_at}

-- ---- a part of the digits, and what is left
split : (v : ℕ) (bs cs : List ℕ) → all_digits bs ≡ true → rest v (bs ++ cs) ≡ rest (value v bs) cs
split v [] cs h = refl
split v (b ∷ bs) cs h =
    let d = both (is_digit b) (all_digits bs) h in
    ap (λ (t : Bool). cond (t && all_digits (bs ++ cs)) (Some (value v (b ∷ (bs ++ cs)))) None) d.0 ∙ split (v * 10 + (b - 48)) bs cs d.1

and_more : (p q r : Bool) → p && q ≡ false → (q ≡ false → r ≡ false) → p && r ≡ false
and_more true q r h k = k h
and_more false q r h k = refl

none_of : (bs cs : List ℕ) → all_digits bs ≡ false → all_digits (bs ++ cs) ≡ false
none_of [] cs h = absurd (false≢true (sym h))
none_of (b ∷ bs) cs h = and_more (is_digit b) (all_digits bs) (all_digits (bs ++ cs)) h (none_of bs cs)

is_none : (t : Bool) (x : ℕ) → cond t (Some x) None ≡ None → t ≡ false
is_none true x h = let z : ◌≡◌ {A = ℕ} 0 1 = cc in absurd (omega arith)
is_none false x h = refl

-- zeros in front write nothing
zeros : (j : ℕ) (bs : List ℕ) → rest 0 (replicate j 48 ++ bs) ≡ rest 0 bs
zeros zero bs = refl
zeros (suc j) bs = zeros j bs

-- ---- eight bytes
none_later : (bs cs : List ℕ) → all_digits cs ≡ false → all_digits (bs ++ cs) ≡ false
none_later [] cs h = h
none_later (b ∷ bs) cs h = later b (bs ++ cs) (none_later bs cs h)

all_eight : (a b : ℕ) → digits_of 8 (bytes a ++ bytes b) ≡ rest 0 (bytes a ++ bytes b)
all_eight a b = fit (bytes a ++ bytes b) 8 (omega arith) (omega arith) (omega arith)

module _ (w : ℕ) (l : w < 2 ^ 32) where
  all_four : rest 0 (bytes w) ≡ digits_of 4 (bytes w)
  all_four = sym (fit (bytes w) 4 (omega arith) (omega arith) (omega arith))

  is_four : above w ≡ 0 → (all_digits (bytes w) ≡ true) × (value 0 (bytes w) ≡ number w)
  is_four e = cond_is (all_digits (bytes w)) (value 0 (bytes w)) (number w) (all_four ∙ writes w l e)

  no_four : (above w ≡ 0 → ⊥) → all_digits (bytes w) ≡ false
  no_four n = is_none (all_digits (bytes w)) (value 0 (bytes w)) (all_four ∙ writes_none w l n)

module _ (a b : ℕ) (la : a < 2 ^ 32) (lb : b < 2 ^ 32) where
  pub writes_both : above_both (a + b * 2 ^ 32) ≡ 0 → digits_of 8 (bytes a ++ bytes b) ≡ Some (number a * 10000 + number b)
  writes_both e =
      let z = each_none a b la lb e in
      let x = is_four a la z.0 in
      let y = is_four b lb z.1 in
      let v : value (value 0 (bytes a)) (bytes b) ≡ value 0 (bytes a) * 10000 + value 0 (bytes b) = omega arith in
      all_eight a b ∙ split 0 (bytes a) (bytes b) x.0 ∙ ap (λ (t : Bool). cond t (Some (value (value 0 (bytes a)) (bytes b))) None) y.0 ∙ ap Some (v ∙ ap (λ (u : ℕ). u * 10000 + value 0 (bytes b)) x.1 ∙ ap (λ (u : ℕ). number a * 10000 + u) y.1)

  pub writes_both_none : (above_both (a + b * 2 ^ 32) ≡ 0 → ⊥) → digits_of 8 (bytes a ++ bytes b) ≡ None
  writes_both_none n = all_eight a b ∙ stop 0 (bytes a ++ bytes b) (go (eqb (above a) 0) (eqb (above b) 0) refl refl)
    where
      go : (p q : Bool) → eqb (above a) 0 ≡ p → eqb (above b) 0 ≡ q → all_digits (bytes a ++ bytes b) ≡ false
      go false q e f = none_of (bytes a) (bytes b) (no_four a la (eqb-false (above a) 0 e))
      go true false e f = none_later (bytes a) (bytes b) (no_four b lb (eqb-false (above b) 0 f))
      go true true e f = absurd (n (none_both a b la lb (eqb-true (above a) 0 e) (eqb-true (above b) 0 f)))

-- a text of 4 to 8 bytes as two words: those before the last four, with zeros before them, and the last four
pub two_words : (s : List ℕ) (k a b : ℕ) → 4 ≤ length s → length s ≤ 8 → k + 4 ≡ length s → bytes a ≡ map again (replicate (4 - k) 48 ++ take k s) → bytes b ≡ map again (take 4 (drop k s)) → digits_of 8 (bytes a ++ bytes b) ≡ digits_of 18 s
two_words s k a b l m n e f =
    let t : take 4 (drop k s) ≡ drop k s = take_all 4 (drop k s) (omega (arith, length-drop k s)) in
    all_eight a b
    ∙ ap (λ (x : List ℕ). rest 0 (x ++ bytes b)) e
    ∙ ap (λ (x : List ℕ). rest 0 (map again (replicate (4 - k) 48 ++ take k s) ++ x)) (f ∙ ap (map again) t)
    ∙ ap (rest 0) (sym (map-append again (replicate (4 - k) 48 ++ take k s) (drop k s)))
    ∙ same 0 ((replicate (4 - k) 48 ++ take k s) ++ drop k s)
    ∙ ap (rest 0) (append_assoc (replicate (4 - k) 48) (take k s) (drop k s))
    ∙ zeros (4 - k) (take k s ++ drop k s)
    ∙ ap (rest 0) (take-append-drop k s)
    ∙ sym (begun s 18 (omega arith) (omega arith))

module _ (s : List ℕ) (k : ℕ) (j : k ≤ 4) (l : 4 ≤ length s) where
  pub few_long : length (replicate (4 - k) 48 ++ take k s) ≡ 4
  few_long = length-append (replicate (4 - k) 48) (take k s) ∙ rw (length-replicate {A = ℕ} (4 - k) 48, length-take-le k s (omega arith)) (omega arith)

  first_rest : digits_of 4 (replicate (4 - k) 48 ++ take k s) ≡ rest 0 (take k s)
  first_rest =
      let n = few_long in
      fit (replicate (4 - k) 48 ++ take k s) 4 (omega (arith, n)) (omega (arith, n)) (omega arith) ∙ zeros (4 - k) (take k s)

  pub after_first : {v : ℕ} → digits_of 4 (replicate (4 - k) 48 ++ take k s) ≡ Some v → (rest 0 s ≡ rest v (drop k s)) × (v < 10 ^ k)
  after_first {v} e =
      let d = cond_is (all_digits (take k s)) (value 0 (take k s)) v (sym first_rest ∙ e) in
      let b : value 0 (take k s) < 10 ^ (0 + length (take k s)) = value_lt (take k s) 0 0 d.0 (omega arith) in
      (ap (rest 0) (sym (take-append-drop k s)) ∙ split 0 (take k s) (drop k s) d.0 ∙ ap (λ (x : ℕ). rest x (drop k s)) d.1, rw (← d.1) (rw (zero-add, length-take-le k s (omega arith)) at b))

  pub none_first : digits_of 4 (replicate (4 - k) 48 ++ take k s) ≡ None → rest 0 s ≡ None
  none_first e =
      let d = is_none (all_digits (take k s)) (value 0 (take k s)) (sym first_rest ∙ e) in
      ap (rest 0) (sym (take-append-drop k s)) ∙ stop 0 (take k s ++ drop k s) (none_of (take k s) (drop k s) d)

module _ (s : List ℕ) (i v : ℕ) (l : i + 4 ≤ length s) where
  abbrev part : List ℕ
  part = take 4 (drop i s)

  next_four : digits_of 4 part ≡ rest 0 part
  next_four =
      let n : length part ≡ 4 = length-take-le 4 (drop i s) (omega (arith, length-drop i s)) in
      fit part 4 (omega (arith, n)) (omega (arith, n)) (omega arith)

  as_parts : drop i s ≡ part ++ drop (i + 4) s
  as_parts = sym (take-append-drop 4 (drop i s)) ∙ ap (λ (t : List ℕ). part ++ t) (drop-drop 4 i s)

  pub after_next : {w : ℕ} → digits_of 4 part ≡ Some w → rest v (drop i s) ≡ rest (v * 10000 + w) (drop (i + 4) s)
  after_next {w} e =
      let d = cond_is (all_digits part) (value 0 part) w (sym next_four ∙ e) in
      let f = four_at s i l in
      let x : value v part ≡ v * 10000 + value 0 part = rw f (omega arith) in
      ap (rest v) as_parts ∙ split v part (drop (i + 4) s) d.0 ∙ ap (λ (u : ℕ). rest u (drop (i + 4) s)) (x ∙ ap (λ (u : ℕ). v * 10000 + u) d.1)

  pub none_next : digits_of 4 part ≡ None → rest v (drop i s) ≡ None
  none_next e =
      let d = is_none (all_digits part) (value 0 part) (sym next_four ∙ e) in
      ap (rest v) as_parts ∙ stop v (part ++ drop (i + 4) s) (none_of part (drop (i + 4) s) d)
