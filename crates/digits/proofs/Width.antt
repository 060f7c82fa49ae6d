-- The width of digits read is one fact: what w digits write is below ten to the w. Assumes nothing.
use Rattle.std.specs.Prelude.{Some, None}
use Rattle.std.proofs.Common.{◌≡◌, ℕ, suc, ◌+◌, ◌-◌, ◌*◌, ◌^◌, ◌<◌, ◌≤◌, Bool, true, false, cond, ◌&&◌, eqb, leb, List, [], ◌∷◌, length, get_or, refl, add-zero, add-suc, suc-add, pow-suc, zero-add, add-one, arith, pow-add, leb-true}
use mathlib.Core.Bool.{false≢true}
use native.Mathlib.Nat.{pow-le-pow_right}
use Rattle.digits.specs.Digits.{is_digit, all_digits, value, digits_of, whole_of}

-- one digit more
pub push : (k : ℕ) {v d : ℕ} → v < 10 ^ k → d < 10 → v * 10 + d < 10 ^ (k + 1)
push k h l = rw (add-one, pow-suc) (omega arith)

-- four more
pub push_four : (k : ℕ) {v w : ℕ} → v < 10 ^ k → w < 10000 → v * 10000 + w < 10 ^ (k + 4)
push_four k h l = rw (pow-add 10 k 4) (omega arith)

-- at most 18 digits, and one more, fit 64 bits
pub small : {j : ℕ} → j ≤ 18 → 10 ^ j ≤ 1000000000000000000
small h = pow-le-pow_right (omega arith) h

pub both : (a b : Bool) → a && b ≡ true → (a ≡ true) × (b ≡ true)
both true b h = (refl, h)
both false b h = absurd (false≢true h)

-- what digits write after v, which k digits wrote
pub value_lt : (bs : List ℕ) (k v : ℕ) → all_digits bs ≡ true → v < 10 ^ k → value v bs < 10 ^ (k + length bs)
value_lt [] k v h l = rw add-zero l
value_lt (b ∷ bs) k v h l =
    let d = both (is_digit b) (all_digits bs) h in
    let e = both (leb 48 b) (leb b 57) d.0 in
    rw (add-suc, ← suc-add) (value_lt bs (suc k) (v * 10 + (b - 48)) d.1 (rw add-one at (push k {d = b - 48} l (omega (arith, leb-true b 57 e.1)))))

pub cond_is : (t : Bool) (x v : ℕ) → cond t (Some x) None ≡ Some v → (t ≡ true) × (x ≡ v)
cond_is true x v h = (refl, cc)
cond_is false x v h = let z : ◌≡◌ {A = ℕ} 0 1 = cc in absurd (omega arith)

-- the width's law: what is read has at most w digits, and is below ten to their number
pub digits_width : (w : ℕ) (bs : List ℕ) {n : ℕ} → digits_of w bs ≡ Some n → (length bs ≤ w) × (n < 10 ^ length bs)
unfolding digits_of
digits_width w bs {n} h =
    let a = cond_is (leb 1 (length bs) && (leb (length bs) w && (leb w 18 && all_digits bs))) (value 0 bs) n h in
    let b = both (leb 1 (length bs)) (leb (length bs) w && (leb w 18 && all_digits bs)) a.0 in
    let d = both (leb (length bs) w) (leb w 18 && all_digits bs) b.1 in
    let e = both (leb w 18) (all_digits bs) d.1 in
    let l : value 0 bs < 10 ^ (0 + length bs) = value_lt bs 0 0 e.1 (omega arith) in
    (leb-true _ _ d.0, rw (← a.1) (rw zero-add at l))

-- and so below ten to the w
pub below : (w : ℕ) (bs : List ℕ) {n : ℕ} → digits_of w bs ≡ Some n → n < 10 ^ w
below w bs {n} h =
    let a = digits_width w bs h in
    let p : 10 ^ length bs ≤ 10 ^ w = pow-le-pow_right (omega arith) a.0 in
    omega arith

pub whole_is_digits : (w : ℕ) (bs : List ℕ) {n : ℕ} → whole_of w bs ≡ Some n → digits_of w bs ≡ Some n
unfolding whole_of
whole_is_digits w bs {n} = go (leb 2 (length bs) && eqb (get_or bs 0 0) 48)
  where
    go : (t : Bool) → cond t None (digits_of w bs) ≡ Some n → digits_of w bs ≡ Some n
    go true e = let z : ◌≡◌ {A = ℕ} 0 1 = cc in absurd (omega arith)
    go false e = e

pub whole_below : (w : ℕ) (bs : List ℕ) {n : ℕ} → whole_of w bs ≡ Some n → n < 10 ^ w
whole_below w bs e = below w bs (whole_is_digits w bs e)
