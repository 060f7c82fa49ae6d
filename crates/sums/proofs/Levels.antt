-- Sums as levels: what a level takes on or gives away is what the sum takes on or gives away, and a sum fits exactly where
-- its level is a number of 64 bits. Assumes nothing.
use mathlib.Core.Path.{◌≡◌, refl, sym, ap, ◌∙◌}
use mathlib.Core.Bool.{Bool, true, false, false≢true, cond, ◌&&◌}
use Prim.Native.Nat.{ℕ, zero, suc, ◌+◌, ◌-◌, ◌*◌, ◌≤◌, ◌<◌}
use native.Mathlib.Omega.{arith}
use lib.Dec.{leb, ltb}
use lib.IntN.{ℤ, pos, negsuc, neg_ℤ, nat_abs, sub_ℕ, ◌+ℤ◌, ◌*ℤ◌}
use lib.Signed.{lt_z}
use borrow.Author.Tests.{ltb-true, ltb-false, lt-ltb, le-ltb, leb-true, le-leb, lt-leb}
use Rattle.sums.specs.Sums.{most_above, most_below, fits, half, sum_of, level_of}
use Rattle.std.specs.Prelude.{Option, None, Some, ◌^◌}
use Rattle.std.specs.Option.{SomeIff}

-- the highest level
abbrev pub most : ℕ
most = 18446744073709551615

-- ---- differences
sub_below : (a b : ℕ) → a < b → sub_ℕ a b ≡ negsuc (b - suc a)
sub_below a b h = rw (lt-ltb a b h)

sub_above : (a b : ℕ) → b ≤ a → sub_ℕ a b ≡ pos (a - b)
sub_above a b h = rw (le-ltb a b h)

-- a - b and c - d are one number where a + d and c + b are
sub_same : (a b c d : ℕ) → a + d ≡ c + b → sub_ℕ a b ≡ sub_ℕ c d
sub_same a b c d e = go (ltb a b) refl
  where
    go : (t : Bool) → ltb a b ≡ t → sub_ℕ a b ≡ sub_ℕ c d
    go true h =
        let k : a < b = ltb-true a b h in
        sub_below a b k ∙ ap negsuc (omega arith) ∙ sym (sub_below c d (omega arith))
    go false h =
        let k : b ≤ a = ltb-false a b h in
        sub_above a b k ∙ ap pos (omega arith) ∙ sym (sub_above c d (omega arith))

pub sum_below : (l : ℕ) → l < half → sum_of l ≡ negsuc (half - suc l)
unfolding sum_of
sum_below l h = sub_below l half h

pub sum_above : (l : ℕ) → half ≤ l → sum_of l ≡ pos (l - half)
unfolding sum_of
sum_above l h = sub_above l half h

-- ---- up and down
same_sum : (a b l : ℕ) → a + half ≡ l + b → sub_ℕ a b ≡ sum_of l
unfolding sum_of
same_sum a b l e = sub_same a b l half e

plus : (l x : ℕ) → sum_of l +ℤ pos x ≡ sum_of (l + x)
plus l x = go (ltb l half) refl
  where
    go : (t : Bool) → ltb l half ≡ t → sum_of l +ℤ pos x ≡ sum_of (l + x)
    go true h =
        let k : l < half = ltb-true l half h in
        ap (λ (z : ℤ). z +ℤ pos x) (sum_below l k) ∙ same_sum x (suc (half - suc l)) (l + x) (omega arith)
    go false h =
        let k : half ≤ l = ltb-false l half h in
        ap (λ (z : ℤ). z +ℤ pos x) (sum_above l k) ∙ ap pos (omega arith) ∙ sym (sum_above (l + x) (omega arith))

minus : (l x : ℕ) → x ≤ l → sum_of l +ℤ neg_ℤ (pos x) ≡ sum_of (l - x)
minus l zero g = plus l 0 ∙ ap sum_of (omega arith)
minus l (suc y) g = go (ltb l half) refl
  where
    go : (t : Bool) → ltb l half ≡ t → sum_of l +ℤ negsuc y ≡ sum_of (l - suc y)
    go true h =
        let k : l < half = ltb-true l half h in
        ap (λ (z : ℤ). z +ℤ negsuc y) (sum_below l k) ∙ ap negsuc (omega arith) ∙ sym (sum_below (l - suc y) (omega arith))
    go false h =
        let k : half ≤ l = ltb-false l half h in
        ap (λ (z : ℤ). z +ℤ negsuc y) (sum_above l k) ∙ same_sum (l - half) (suc y) (l - suc y) (omega arith)

-- ---- what fits
fits_neg : (n : ℕ) → half ≤ n → fits (negsuc n) ≡ false
unfolding fits
fits_neg n h = rw (lt-leb n most_below (omega arith))

pub fits_sum : (l : ℕ) → l ≤ most → fits (sum_of l) ≡ true
unfolding fits
fits_sum l g = go (ltb l half) refl
  where
    go : (t : Bool) → ltb l half ≡ t → fits (sum_of l) ≡ true
    go true h =
        let k : l < half = ltb-true l half h in
        rw (sum_below l k, le-leb (half - suc l) most_below (omega arith))
    go false h =
        let k : half ≤ l = ltb-false l half h in
        rw (sum_above l k, le-leb (l - half) most_above (omega arith))

past_top : (l : ℕ) → most < l → fits (sum_of l) ≡ false
unfolding fits
past_top l g = rw (sum_above l (omega arith), lt-leb (l - half) most_above (omega arith))

past_bottom : (l x : ℕ) → l < x → fits (sum_of l +ℤ neg_ℤ (pos x)) ≡ false
past_bottom l zero g = absurd (omega arith)
past_bottom l (suc y) g = go (ltb l half) refl
  where
    go : (t : Bool) → ltb l half ≡ t → fits (sum_of l +ℤ negsuc y) ≡ false
    go true h =
        let k : l < half = ltb-true l half h in
        ap (λ (z : ℤ). fits (z +ℤ negsuc y)) (sum_below l k) ∙ fits_neg (suc (half - suc l + y)) (omega arith)
    go false h =
        let k : half ≤ l = ltb-false l half h in
        ap (λ (z : ℤ). fits (z +ℤ negsuc y)) (sum_above l k) ∙ ap fits (sub_below (l - half) (suc y) (omega arith)) ∙ fits_neg (suc y - suc (l - half)) (omega arith)

-- ---- the level of a sum

-- a level's own sum has that level
back : (l : ℕ) → nat_abs (sum_of l +ℤ pos half) ≡ l
back l = ap nat_abs (plus l half ∙ sum_above (l + half) (omega arith)) ∙ (omega arith)

level_at : (z : ℤ) (l : ℕ) → l ≤ most → z ≡ sum_of l → level_of z ≡ Some l
unfolding level_of
level_at z l g e = rw (e, fits_sum l g) (ap Some (back l))

level_out : (z : ℤ) → fits z ≡ false → level_of z ≡ None
unfolding level_of
level_out z h = rw h

-- a level is that of its sum
pub record Stands (z : ℤ) (to : ℕ) : Type 0 where
  pub sum : z ≡ sum_of to
  pub fine : fits z ≡ true
  pub small : to ≤ most

at_same : (a b : ℕ) → Some a ≡ Some b → a ≡ b
at_same a b e = cc

never : (a : ℕ) → Some a ≡ None → ⊥
never a e = let z : ◌≡◌ {A = ℕ} 0 1 = cc in omega arith

-- a sum that fits is the sum at its level
at_level : (z : ℤ) → fits z ≡ true → Stands z (nat_abs (z +ℤ pos half))
unfolding fits
at_level (pos n) h =
    let k = leb-true n most_above h in
    record { sum = sym (sum_above (n + half) (omega arith) ∙ ap pos (omega arith)); fine = h; small = omega arith }
at_level (negsuc n) h = go (leb n most_below) refl h
  where
    go : (t : Bool) → leb n most_below ≡ t → t && true ≡ true → Stands (negsuc n) (nat_abs (negsuc n +ℤ pos half))
    go true q e =
        let k = leb-true n most_below q in
        rw (sub_above half (suc n) (omega arith))
        (record { sum = sym (sum_below (half - suc n) (omega arith) ∙ ap negsuc (omega arith)); fine = h; small = omega arith })
    go false q e = absurd (false≢true e)

pub stands : (z : ℤ) (to : ℕ) → level_of z ≡ Some to → Stands z to
unfolding level_of
stands z to e = go (fits z) refl e
  where
    go : (t : Bool) → fits z ≡ t → cond t (Some (nat_abs (z +ℤ pos half))) None ≡ Some to → Stands z to
    go true h e = rw (at_same (nat_abs (z +ℤ pos half)) to e) at (at_level z h)
    go false h e = absurd (never to (sym e))

-- and one that has none does not fit
pub none : (z : ℤ) → level_of z ≡ None → fits z ≡ false
unfolding level_of
none z e = go (fits z) refl e
  where
    go : (t : Bool) → fits z ≡ t → cond t (Some (nat_abs (z +ℤ pos half))) None ≡ None → fits z ≡ false
    go true h e = absurd (never (nat_abs (z +ℤ pos half)) e)
    go false h e = h

-- ---- a step

-- up, where there is room above
rises : (l x : ℕ) (r : Option ℕ) → l ≤ most → SomeIff r (l + x < 2 ^ 64) (l + x) → r ≡ level_of (sum_of l +ℤ pos x)
rises l x (Some to) g h = sym (level_at (sum_of l +ℤ pos x) to (omega (arith, h.1)) (plus l x ∙ ap sum_of (sym h.1)))
rises l x None g h = sym (level_out (sum_of l +ℤ pos x) (ap fits (plus l x) ∙ past_top (l + x) (go (ltb most (l + x)) refl)))
  where
    go : (t : Bool) → ltb most (l + x) ≡ t → most < l + x
    go true e = ltb-true most (l + x) e
    go false e = absurd (h (omega (arith, ltb-false most (l + x) e)))

-- down, where there is room below
falls : (l x : ℕ) (r : Option ℕ) → l ≤ most → SomeIff r (x ≤ l) (l - x) → r ≡ level_of (sum_of l +ℤ neg_ℤ (pos x))
falls l x (Some to) g h = sym (level_at (sum_of l +ℤ neg_ℤ (pos x)) to (omega (arith, h.1)) (minus l x h.0 ∙ ap sum_of (sym h.1)))
falls l x None g h = sym (level_out (sum_of l +ℤ neg_ℤ (pos x)) (past_bottom l x (go (ltb l x) refl)))
  where
    go : (t : Bool) → ltb l x ≡ t → l < x
    go true e = ltb-true l x e
    go false e = absurd (h (ltb-false l x e))

-- a step at a price, by its distance from 0
pub moved_up : (l u x : ℕ) (p : ℤ) (r : Option ℕ) → l ≤ most → lt_z p (pos 0) ≡ false → x ≡ nat_abs p * u → SomeIff r (l + x < 2 ^ 64) (l + x) → r ≡ level_of (sum_of l +ℤ p *ℤ pos u)
moved_up l u x (pos n) r g s e h = rw e at (rises l x r g h)
moved_up l u x (negsuc n) r g s e h = absurd (false≢true (sym s))

pub moved_down : (l u x : ℕ) (p : ℤ) (r : Option ℕ) → l ≤ most → lt_z p (pos 0) ≡ true → x ≡ nat_abs p * u → SomeIff r (x ≤ l) (l - x) → r ≡ level_of (sum_of l +ℤ p *ℤ pos u)
moved_down l u x (pos n) r g s e h = absurd (omega (arith, ltb-true n 0 s))
moved_down l u x (negsuc n) r g s e h = rw e at (falls l x r g h)

-- no level is 2^64 from another
pub moved_out : (l u : ℕ) (p : ℤ) → l ≤ most → (nat_abs p * u < 2 ^ 64 → ⊥) → None ≡ level_of (sum_of l +ℤ p *ℤ pos u)
moved_out l u (pos n) g h = rises l (n * u) None g (λ k. h (omega arith))
moved_out l u (negsuc n) g h = falls l (suc n * u) None g (λ k. h (omega arith))
