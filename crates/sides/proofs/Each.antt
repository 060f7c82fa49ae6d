-- Laws of `each` and of a run of zeros.
use mathlib.Core.Path.{◌≡◌, refl, sym, ap, ◌∙◌}
use mathlib.Core.Bool.{Bool, true, false, ◌&&◌}
use mathlib.Core.List.{List, [], ◌∷◌, ◌++◌}
use mathlib.Core.Logic.{⊎_elim}
use Prim.Native.Nat.{ℕ, zero, suc, ◌+◌, ◌*◌, ◌-◌, ◌/◌, ◌<◌, ◌≤◌}
use native.Mathlib.Nat.{eq-or-lt_of_le, le_of_suc-le-suc}
use native.Mathlib.Numerals.{add-one}
use native.Mathlib.Omega.{arith}
use lib.Dec.{eqb}
use Rattle.std.specs.List.{list_all, range_with_len}
use Rattle.std.proofs.lemmas.List.Recursion.{and_push}
use lib.Bits.{bit_or, or_zero_l, or_add_and, and_le_r}
use lib.ListN.{length, get_or, take, drop, length-drop}
use lib.Seq.{get_or-take, get_or-drop, length-take-le}
use borrow.Author.Tests.{eqb-true, eqb-false, eq-eqb, ne_eqb}
use Rattle.board.proofs.Tested.{both}
use Rattle.sides.specs.Side.{each, all_zero}

pub each_none : (f : ℕ → Bool) → each f 0 ≡ true
unfolding each
each_none f = refl

-- a turn of a loop that goes on
pub each_more : (f : ℕ → Bool) (i : ℕ) → each f (i + 1) ≡ each f i && f i
unfolding each
each_more f i = rw add-one

and_false : (b : Bool) → b && false ≡ false
and_false true = refl
and_false false = refl

-- one that fails, for a loop that leaves at it
pub each_false : (f : ℕ → Bool) (n k : ℕ) → k < n → f k ≡ false → each f n ≡ false
unfolding each
each_false f zero k h e = absurd (omega arith)
each_false f (suc n) k h e =
    ⊎_elim (λ (q : k ≡ n). rw (← q, e) (and_false (each f k))) (λ (l : k < n). rw (each_false f n k l e)) (eq-or-lt_of_le (le_of_suc-le-suc h))

-- each is one of them, and so for all
pub each_at : (f : ℕ → Bool) (n k : ℕ) → each f n ≡ true → k < n → f k ≡ true
unfolding each
each_at f zero k e h = absurd (omega arith)
each_at f (suc n) k e h =
    ⊎_elim (λ (q : k ≡ n). rw q (both (each f n) (f n) e).1) (λ (l : k < n). each_at f n k (both (each f n) (f n) e).0 l)
    (eq-or-lt_of_le (le_of_suc-le-suc h))

pub each_of : (f : ℕ → Bool) (n : ℕ) → ((k : ℕ) → k < n → f k ≡ true) → each f n ≡ true
unfolding each
each_of f zero h = refl
each_of f (suc n) h = rw (each_of f n (λ k l. h k (omega arith)), h n (omega arith))

-- ---- zeros

pub zero_at : (xs : List ℕ) (at n k : ℕ) → all_zero xs at n ≡ true → k < n → get_or xs (at + k) 0 ≡ 0
unfolding all_zero
zero_at xs at n k e h = eqb-true (get_or xs (at + k) 0) 0 (each_at (λ (j : ℕ). eqb (get_or xs (at + j) 0) 0) n k e h)

pub zero_of : (xs : List ℕ) (at n : ℕ) → ((k : ℕ) → k < n → get_or xs (at + k) 0 ≡ 0) → all_zero xs at n ≡ true
unfolding all_zero
zero_of xs at n h = each_of (λ (j : ℕ). eqb (get_or xs (at + j) 0) 0) n (λ k l. eq-eqb (get_or xs (at + k) 0) 0 (h k l))

pub zero_none : (xs : List ℕ) (at : ℕ) → all_zero xs at 0 ≡ true
unfolding each all_zero
zero_none xs at = refl

pub zero_more : (xs : List ℕ) (at n : ℕ) → all_zero xs at (n + 1) ≡ all_zero xs at n && eqb (get_or xs (at + n) 0) 0
unfolding each all_zero
zero_more xs at n = rw add-one

-- two runs, one behind the other
and_true : (b : Bool) → b && true ≡ b
and_true true = refl
and_true false = refl

and_assoc : (a b c : Bool) → a && b && c ≡ a && (b && c)
and_assoc true b c = refl
and_assoc false b c = refl

pub zero_join : (xs : List ℕ) (at n m : ℕ) → all_zero xs at (n + m) ≡ all_zero xs at n && all_zero xs (at + n) m
zero_join xs at n zero =
    let q : n + 0 ≡ n = omega arith in
    rw (q, zero_none xs (at + n)) (sym (and_true (all_zero xs at n)))
zero_join xs at n (suc m) =
    let q : n + suc m ≡ n + m + 1 = omega arith in
    let p : suc m ≡ m + 1 = omega arith in
    let r : at + (n + m) ≡ at + n + m = omega arith in
    ap (all_zero xs at) q ∙ zero_more xs at (n + m)
    ∙ rw (r, zero_join xs at n m, p, zero_more xs (at + n) m) (and_assoc (all_zero xs at n) (all_zero xs (at + n) m) (eqb (get_or xs (at + n + m) 0) 0))

-- four runs of a quarter each, and what is left
pub quarters : (xs : List ℕ) (at n : ℕ) {p q r s t : Bool} → p ≡ all_zero xs at (n / 4) → q ≡ all_zero xs (at + n / 4) (n / 4) → r ≡ all_zero xs (at + n / 4 + n / 4) (n / 4)
    → s ≡ all_zero xs (at + n / 4 + n / 4 + n / 4) (n / 4) → t ≡ all_zero xs (at + n / 4 + n / 4 + n / 4 + n / 4) (n - 4 * (n / 4))
    → p && q && r && s && t ≡ all_zero xs at n
quarters xs at n ep eq er es et =
    let h = n / 4 in
    let e : n ≡ h + h + h + h + (n - 4 * h) = omega arith in
    let a2 : at + (h + h) ≡ at + h + h = omega arith in
    let a3 : at + (h + h + h) ≡ at + h + h + h = omega arith in
    let a4 : at + (h + h + h + h) ≡ at + h + h + h + h = omega arith in
    let j4 = zero_join xs at (h + h + h + h) (n - 4 * h) in
    let j3 = zero_join xs at (h + h + h) h in
    let j2 = zero_join xs at (h + h) h in
    let j1 = zero_join xs at h h in
    rw (ep, eq, er, es, et) (sym (ap (all_zero xs at) e ∙ (rw a4 at j4) ∙ ap (λ b. b && all_zero xs (at + h + h + h + h) (n - 4 * h)) ((rw a3 at j3) ∙ ap (λ b. b && all_zero xs (at + h + h + h) h) ((rw a2 at j2) ∙ ap (λ b. b && all_zero xs (at + h + h) h) j1))))

-- numbers joined by `|` are zero where each is
join_zero : (a b : ℕ) (s t : Bool) → eqb a 0 ≡ s → eqb b 0 ≡ t → eqb (bit_or a b) 0 ≡ s && t
join_zero a b true t e f = let z : a ≡ 0 = eqb-true a 0 e in rw (z, or_zero_l, f)
join_zero a b false t e f = ne_eqb (bit_or a b) 0 (λ h. eqb-false a 0 e (omega (arith, or_add_and a b, and_le_r a b)))

pub or_zero : (a b : ℕ) → eqb (bit_or a b) 0 ≡ eqb a 0 && eqb b 0
or_zero a b = join_zero a b (eqb a 0) (eqb b 0) refl refl

-- a turn of a loop that joins
pub zero_turn : (xs : List ℕ) (at i a : ℕ) → eqb a 0 ≡ all_zero xs at i → eqb (bit_or a (get_or xs (at + i) 0)) 0 ≡ all_zero xs at (i + 1)
zero_turn xs at i a h =
    or_zero a (get_or xs (at + i) 0) ∙ ap (λ (t : Bool). t && eqb (get_or xs (at + i) 0) 0) h ∙ sym (zero_more xs at i)

-- the same in a walk along the n numbers from `at` on, as the code lends them
pub part_long : (xs : List ℕ) (at n : ℕ) → at + n ≤ length xs → length (take (at + n - at) (drop at xs)) ≡ n
part_long xs at n h =
    let q : at + n - at ≡ n = omega arith in
    rw q (length-take-le n (drop at xs) (omega (arith, length-drop at xs)))

pub part_turn : (xs : List ℕ) (at n i a : ℕ) → i < n → eqb a 0 ≡ all_zero xs at i
    → eqb (bit_or a (get_or (take (at + n - at) (drop at xs)) i 0)) 0 ≡ all_zero xs at (i + 1)
part_turn xs at n i a l h =
    let x : get_or (take (at + n - at) (drop at xs)) i 0 ≡ get_or xs (at + i) 0 =
    get_or-take (at + n - at) (drop at xs) i 0 (omega arith) ∙ get_or-drop at xs i 0 in
    rw x (zero_turn xs at i a h)

-- ---- numbers that `all` walks over

range_more : (a n : ℕ) → range_with_len a (suc n) ≡ range_with_len a n ++ (a + n) ∷ []
range_more a zero = let e : a ≡ a + 0 = omega arith in ap (λ (k : ℕ). k ∷ []) e
range_more a (suc n) =
    let e : a + 1 + n ≡ a + suc n = omega arith in
    ap (λ (xs : List ℕ). a ∷ xs) (rw e at (range_more (a + 1) n))

pub each_range : (f : ℕ → Bool) (n : ℕ) → list_all f (range_with_len 0 n) ≡ each f n
unfolding each
each_range f zero = refl
each_range f (suc n) =
    let e : 0 + n ≡ n = omega arith in
    ap (list_all f) (range_more 0 n) ∙ and_push (list_all f) f refl (λ _ _. refl) (range_with_len 0 n) (0 + n)
    ∙ rw (e, each_range f n) refl
