-- The parts of a price, and how large each can be. Assumes nothing.
use Rattle.std.specs.Prelude.{Option, Some, None, position}
use Rattle.std.specs.Option.{unwrap_or}
use Rattle.std.specs.List.{position_or_len}
use mathlib.Core.Path.{◌≡◌, refl, ap, ◌∙◌}
use mathlib.Core.List.{List, [], ◌∷◌}
use mathlib.Core.Bool.{Bool, true, false, cond, not}
use Prim.Native.Nat.{ℕ, zero, suc, ◌+◌, ◌-◌, ◌*◌, ◌^◌, ◌≤◌, ◌<◌}
use native.Mathlib.Omega.{arith}
use native.Mathlib.Nat.{add-zero, mul-lt-mul_of_pos_right, one-le-pow}
use native.Mathlib.Numerals.{add-one}
use borrow.Author.Tests.{eq-eqb, ne_eqb, ltb-true, ltb-false}
use lib.Dec.{eqb, ltb}
use lib.Pow.{pow-add}
use lib.IntN.{ℤ, pos, neg_ℤ, nat_abs}
use lib.ListN.{length, get_or, take, drop, length-drop}
use lib.Seq.{drop-cons, drop-length, take_all}
use Rattle.digits.specs.Digits.{digits_of}
use Rattle.digits.proofs.Width.{below, digits_width}
use Rattle.price.specs.Price.{most_wholes, most_decimals, unit, top, ahead, scaled, fraction_of, joined, amount_of, minus, plus, price_of}

-- where the point stands
ahead_is : (x : ℕ) (bs : List ℕ) → ahead x bs ≡ position_or_len (λ b. eqb b x) bs
ahead_is x [] = refl
ahead_is x (b ∷ bs) = go (eqb b x) (ahead_is x bs)
  where
    go : (t : Bool) → ahead x bs ≡ position_or_len (λ b. eqb b x) bs → cond t 0 (ahead x bs + 1) ≡ cond (not t) (1 + position_or_len (λ b. eqb b x) bs) 0
    go true e = refl
    go false e = omega arith

ahead_le : (x : ℕ) (bs : List ℕ) → ahead x bs ≤ length bs
ahead_le x [] = omega arith
ahead_le x (b ∷ bs) = go (eqb b x) (ahead_le x bs)
  where
    go : (t : Bool) → ahead x bs ≤ length bs → cond t 0 (ahead x bs + 1) ≤ suc (length bs)
    go true h = omega arith
    go false h = omega arith

pub find_is : (x : ℕ) (s : List ℕ) (r : Option ℕ) (n : ℕ) → r ≡ position (λ b. eqb b x) s → n ≡ unwrap_or r (length s) → (n ≡ ahead x s) × (n ≤ length s)
find_is x s r n e q = go (ltb (position_or_len (λ b. eqb b x) s) (length s)) refl (q ∙ ap (λ (o : Option ℕ). unwrap_or o (length s)) e)
  where
    go : (t : Bool) → ltb (position_or_len (λ b. eqb b x) s) (length s) ≡ t → n ≡ unwrap_or (cond t (Some (position_or_len (λ b. eqb b x) s)) None) (length s)
        → (n ≡ ahead x s) × (n ≤ length s)
    go true p h = let a = ahead_is x s in (omega arith, omega (arith, ltb-true (position_or_len (λ b. eqb b x) s) (length s) p))
    go false p h = let a = ahead_is x s in (omega (arith, ltb-false (position_or_len (λ b. eqb b x) s) (length s) p, ahead_le x s), omega arith)

-- the part of a list from a place to its end
pub tail : (s : List ℕ) (q : ℕ) → take (length s - q) (drop q s) ≡ drop q s
tail s q = take_all (length s - q) (drop q s) (omega (arith, length-drop q s))

-- what follows the point
pub no_fraction : (s : List ℕ) (p : ℕ) → p ≡ length s → fraction_of (drop p s) ≡ Some 0
unfolding fraction_of
no_fraction s p q = rw (q, drop-length)

pub some_fraction : (s : List ℕ) (p : ℕ) → p < length s → fraction_of (drop p s) ≡ scaled (most_decimals - (length s - (p + 1))) (digits_of most_decimals (drop (p + 1) s))
unfolding fraction_of
some_fraction s p l = simp (drop-cons s p 0 l, add-one, length-drop)

module _ (s : List ℕ) (p : ℕ) (point : p ≡ ahead 46 s) where
  amount_parts : amount_of s ≡ joined (digits_of most_wholes (take p s)) (fraction_of (drop p s))
  unfolding amount_of
  amount_parts = rw point

  pub amount_no : digits_of most_wholes (take p s) ≡ None → amount_of s ≡ None
  amount_no a = rw (amount_parts, a)

  pub amount_whole : (w : ℕ) → digits_of most_wholes (take p s) ≡ Some w → p ≡ length s → amount_of s ≡ Some (w * unit)
  amount_whole w a q = rw (amount_parts, a, no_fraction s p q, add-zero)

  pub amount_half : (w : ℕ) → digits_of most_wholes (take p s) ≡ Some w → p < length s → digits_of most_decimals (drop (p + 1) s) ≡ None → amount_of s ≡ None
  amount_half w a l b = rw (amount_parts, a, some_fraction s p l, b)

  pub amount_both : (w f : ℕ) → digits_of most_wholes (take p s) ≡ Some w → p < length s → digits_of most_decimals (drop (p + 1) s) ≡ Some f
      → amount_of s ≡ Some (w * unit + f * 10 ^ (most_decimals - (length s - (p + 1))))
  amount_both w f a l b = rw (amount_parts, a, some_fraction s p l, b)

-- n digits after the point are below a unit, whatever n
pub scaled_lt : (n f : ℕ) → n ≤ most_decimals → f < 10 ^ n → f * 10 ^ (most_decimals - n) < unit
scaled_lt n f h l =
    let q : n + (most_decimals - n) ≡ most_decimals = omega arith in
    let p : f * 10 ^ (most_decimals - n) < 10 ^ n * 10 ^ (most_decimals - n) = mul-lt-mul_of_pos_right l (one-le-pow (most_decimals - n) 10 (omega arith)) in
    rw (← pow-add 10 n (most_decimals - n), q) at p

pub fraction_lt : (s : List ℕ) (p f m : ℕ) → digits_of most_decimals (drop (p + 1) s) ≡ Some f → m ≡ 10 ^ (most_decimals - (length s - (p + 1))) → f * m < unit
fraction_lt s p f m a q =
    let w = digits_width most_decimals (drop (p + 1) s) a in
    let l : length (drop (p + 1) s) ≡ length s - (p + 1) = length-drop (p + 1) s in
    rw (q, ← l) (scaled_lt (length (drop (p + 1) s)) f w.0 w.1)

-- the parts of a signed price
pub price_none : (s : List ℕ) → length s ≡ 0 → price_of s ≡ None
unfolding price_of
price_none [] h = refl
price_none (b ∷ bs) h = absurd (omega arith)

pub price_minus : (s : List ℕ) → 0 < length s → get_or s 0 0 ≡ 45 → price_of s ≡ minus (amount_of (drop 1 s))
unfolding price_of
price_minus [] l h = absurd (omega arith)
price_minus (b ∷ bs) l h = simp (eq-eqb b 45 h)

pub price_plus : (s : List ℕ) → 0 < length s → (get_or s 0 0 ≡ 45 → ⊥) → price_of s ≡ plus (amount_of s)
unfolding price_of
price_plus [] l h = absurd (omega arith)
price_plus (b ∷ bs) l h = simp (ne_eqb b 45 h)

-- an amount is below `top`, and so is a price from 0
scaled_small : (r : Option ℕ) (n v : ℕ) → ((f : ℕ) → r ≡ Some f → (n ≤ most_decimals) × (f < 10 ^ n)) → scaled (most_decimals - n) r ≡ Some v → v < unit
scaled_small (Some f) n v h q = let a = h f refl in let e : f * 10 ^ (most_decimals - n) ≡ v = cc in omega (arith, scaled_lt n f a.0 a.1)
scaled_small None n v h q = let z : ◌≡◌ {A = ℕ} 0 1 = cc in absurd (omega arith)

fraction_small : (bs : List ℕ) (v : ℕ) → fraction_of bs ≡ Some v → v < unit
unfolding fraction_of
fraction_small [] v q = let e : 0 ≡ v = cc in omega arith
fraction_small (b ∷ bs) v q = scaled_small (digits_of most_decimals bs) (length bs) v (λ f e. digits_width most_decimals bs e) q

joined_small : (a b : Option ℕ) (v : ℕ) → ((f : ℕ) → a ≡ Some f → f < 10 ^ most_wholes) → ((f : ℕ) → b ≡ Some f → f < unit) → joined a b ≡ Some v → v < top
joined_small (Some a) (Some b) v h k q = let e : a * unit + b ≡ v = cc in omega (arith, h a refl, k b refl)
joined_small (Some a) None v h k q = let z : ◌≡◌ {A = ℕ} 0 1 = cc in absurd (omega arith)
joined_small None b v h k q = let z : ◌≡◌ {A = ℕ} 0 1 = cc in absurd (omega arith)

pub amount_small : (bs : List ℕ) (v : ℕ) → amount_of bs ≡ Some v → v < top
unfolding amount_of
amount_small bs v q =
    joined_small (digits_of most_wholes (take (ahead 46 bs) bs)) (fraction_of (drop (ahead 46 bs) bs)) v (λ f e. below most_wholes (take (ahead 46 bs) bs) e) (λ f e. fraction_small (drop (ahead 46 bs) bs) f e) q

abs_neg : (n : ℕ) → nat_abs (neg_ℤ (pos n)) ≡ n
abs_neg zero = refl
abs_neg (suc n) = refl

plus_small : (r : Option ℕ) (p : ℤ) → ((v : ℕ) → r ≡ Some v → v < top) → plus r ≡ Some p → nat_abs p < top
plus_small (Some n) p h q = let e : pos n ≡ p = cc in rw (← e) (h n refl)
plus_small None p h q = let z : ◌≡◌ {A = ℕ} 0 1 = cc in absurd (omega arith)

minus_small : (r : Option ℕ) (p : ℤ) → ((v : ℕ) → r ≡ Some v → v < top) → minus r ≡ Some p → nat_abs p < top
minus_small (Some n) p h q = let e : neg_ℤ (pos n) ≡ p = cc in rw (← e, abs_neg) (h n refl)
minus_small None p h q = let z : ◌≡◌ {A = ℕ} 0 1 = cc in absurd (omega arith)

-- every price that is read is below `top`, and above its negative
pub price_small : (bs : List ℕ) (p : ℤ) → price_of bs ≡ Some p → nat_abs p < top
unfolding price_of
price_small [] p q = let z : ◌≡◌ {A = ℕ} 0 1 = cc in absurd (omega arith)
price_small (b ∷ bs) p q = go (eqb b 45) q
  where
    go : (t : Bool) → cond t (minus (amount_of bs)) (plus (amount_of (b ∷ bs))) ≡ Some p → nat_abs p < top
    go true e = minus_small (amount_of bs) p (λ v. amount_small bs v) e
    go false e = plus_small (amount_of (b ∷ bs)) p (λ v. amount_small (b ∷ bs) v) e
