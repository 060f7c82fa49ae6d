-- Laws of marks. Assumes nothing.
use mathlib.Core.Path.{◌≡◌, refl, sym, ap, ◌∙◌, subst}
use mathlib.Core.Bool.{Bool, true, false, cond, not, ◌&&◌, ◌||◌}
use mathlib.Core.Logic.{⊎_elim}
use Prim.Native.Nat.{ℕ, zero, suc, ◌+◌, ◌*◌, ◌-◌, ◌/◌, ◌%◌, ◌^◌, ◌≤◌, ◌<◌}
use native.Mathlib.Nat.{one-mul, div-one, add_assoc, add_comm, mod-lt, mod-eq_of_lt, zero-lt-suc, zero-mul, zero-add}
use native.Mathlib.Omega.{arith}
use lib.Dec.{lit<, ltb, eqb}
use lib.Bits.{bit_and, bit_or, and_shr, or_shr, and_mod, or_mod, or_lt}
use lib.Count.{ones, ones_in, ones_step}
use lib.Pow.{shl_exact, shr_lt, shr-shr, split, pow_pos, pow-lt, mod-pow-add}
use native.Mathlib.Numerals.{add-one}
use borrow.Author.Tests.{ne_eqb, eq-eqb, eqb-true, eqb-false, ltb-true}
use Rattle.heading.specs.Marks.{bit, marked, marked_in, with_mark, without_mark, all_marks}

-- 1 moved up by i of 16 bits
pub power : (i : ℕ) → i < 16 → 1 * 2 ^ i % 2 ^ 16 ≡ 2 ^ i
power i h = shl_exact 1 i 16 (lit< tt) (omega arith) ∙ one-mul (2 ^ i)

half_lt : (n k : ℕ) → n < 2 ^ suc k → n / 2 < 2 ^ k
half_lt n k h = shr_lt k 1 (subst (λ (x : ℕ). n < 2 ^ x) (sym (native.Mathlib.Numerals.add-one k)) h)

-- the digits of a number below 2 ^ k, counted
pub ones_in_lem : (k n : ℕ) → n < 2 ^ k → ones n ≡ ones_in k n
unfolding ones ones_in
ones_in_lem zero zero h = refl
ones_in_lem zero (suc n) h = absurd (omega arith)
ones_in_lem (suc k) n h = ones_step n ∙ ap (λ (x : ℕ). n % 2 + x) (ones_in_lem k (n / 2) (half_lt n k h))

-- the highest of them last
pub ones_top : (k n : ℕ) → ones_in (suc k) n ≡ ones_in k n + bit n k
unfolding ones_in
ones_top zero n = rw div-one (omega arith)
ones_top (suc k) n =
    let e : n / 2 / 2 ^ k ≡ n / 2 ^ suc k = shr-shr n 1 k ∙ ap (λ (x : ℕ). n / 2 ^ x) (add_comm 1 k ∙ add-one k) in
    rw (ones_top k (n / 2), e) (sym (add_assoc (n % 2) (ones_in k (n / 2)) (bit n (suc k))))

-- a bit is 0 or 1
bool_bit : (d : ℕ) → d < 2 → cond (eqb d 1) 1 0 ≡ d
bool_bit zero h = refl
bool_bit (suc zero) h = refl
bool_bit (suc (suc d)) h = absurd (omega arith)

pub in_marked : (k n : ℕ) → ones_in k n ≡ marked_in n k
unfolding ones_in marked_in marked
in_marked zero n = refl
in_marked (suc k) n = ones_top k n ∙ rw (in_marked k n, bool_bit (bit n k) (mod-lt (n / 2 ^ k) (zero-lt-suc 1)))

-- the ones of the marks are the instruments that are marked
pub ones_marked : (k n : ℕ) → n < 2 ^ k → ones n ≡ marked_in n k
ones_marked k n h = ones_in_lem k n h ∙ in_marked k n

-- bit j of a join and of a meet
pub or_bit : (a b j : ℕ) → bit (bit_or a b) j ≡ bit_or (bit a j) (bit b j)
or_bit a b j = ap (λ (x : ℕ). x % 2) (or_shr a b j) ∙ or_mod (a / 2 ^ j) (b / 2 ^ j) 1

pub and_bit : (a b j : ℕ) → bit (bit_and a b) j ≡ bit_and (bit a j) (bit b j)
and_bit a b j = ap (λ (x : ℕ). x % 2) (and_shr a b j) ∙ and_mod (a / 2 ^ j) (b / 2 ^ j) 1

-- f holds of each number below n, by a test that computes
unfoldable all : (ℕ → Bool) → ℕ → Bool
all f zero = true
all f (suc n) = all f n && f n

both : (a b : Bool) → (a && b) ≡ true → (a ≡ true) × (b ≡ true)
both true true e = (refl, refl)
both true false e = (refl, e)
both false b e = (e, absurd (native.Mathlib.Nat.lt_irrefl 0 (let z : ◌≡◌ {A = ℕ} 0 1 = cc in omega arith)))

all_at : (f : ℕ → Bool) (n k : ℕ) → all f n ≡ true → k < n → f k ≡ true
unfolding all
all_at f zero k e h = absurd (omega arith)
all_at f (suc n) k e h =
    ⊎_elim (λ (q : k ≡ n). rw q (both (all f n) (f n) e).1) (λ (l : k < n). all_at f n k (both (all f n) (f n) e).0 l)
    (native.Mathlib.Nat.eq-or-lt_of_le (native.Mathlib.Nat.le_of_suc-le-suc h))

-- the 256 cases, computed
one_bit : (i j : ℕ) → i < 16 → j < 16 → eqb (bit (2 ^ i) j) (cond (eqb i j) 1 0) ≡ true
unfolding all
one_bit i j h l =
    all_at (λ (b : ℕ). eqb (bit (2 ^ i) b) (cond (eqb i b) 1 0)) 16 j
    (all_at (λ (a : ℕ). all (λ (b : ℕ). eqb (bit (2 ^ a) b) (cond (eqb a b) 1 0)) 16) 16 i refl h) l

but_bit : (i j : ℕ) → i < 16 → j < 16 → eqb (bit (65535 - 2 ^ i) j) (cond (eqb i j) 0 1) ≡ true
unfolding all
but_bit i j h l =
    all_at (λ (b : ℕ). eqb (bit (65535 - 2 ^ i) b) (cond (eqb i b) 0 1)) 16 j
    (all_at (λ (a : ℕ). all (λ (b : ℕ). eqb (bit (65535 - 2 ^ a) b) (cond (eqb a b) 0 1)) 16) 16 i refl h) l

all_bit : (n j : ℕ) → n < 17 → j < 16 → eqb (bit (65535 / 2 ^ (16 - n)) j) (cond (ltb j n) 1 0) ≡ true
unfolding all
all_bit n j h l =
    all_at (λ (b : ℕ). eqb (bit (65535 / 2 ^ (16 - n)) b) (cond (ltb b n) 1 0)) 16 j
    (all_at (λ (a : ℕ). all (λ (b : ℕ). eqb (bit (65535 / 2 ^ (16 - a)) b) (cond (ltb b a) 1 0)) 16) 17 n refl h) l

or_one : (d : ℕ) (t : Bool) → d < 2 → eqb (bit_or d (cond t 1 0)) 1 ≡ t || eqb d 1
or_one zero true h = refl
or_one zero false h = refl
or_one (suc zero) true h = refl
or_one (suc zero) false h = refl
or_one (suc (suc d)) t h = absurd (omega arith)

and_one : (d : ℕ) (t : Bool) → d < 2 → eqb (bit_and d (cond t 0 1)) 1 ≡ not t && eqb d 1
and_one zero true h = refl
and_one zero false h = refl
and_one (suc zero) true h = refl
and_one (suc zero) false h = refl
and_one (suc (suc d)) t h = absurd (omega arith)

is_one : (t : Bool) → eqb (cond t 1 0) 1 ≡ t
is_one true = refl
is_one false = refl

pub marked_with : (m i j : ℕ) → i < 16 → j < 16 → marked (with_mark m i) j ≡ (eqb i j || marked m j)
unfolding marked with_mark
marked_with m i j h l =
    ap (λ (x : ℕ). eqb x 1) (or_bit m (2 ^ i) j ∙ ap (bit_or (bit m j)) (eqb-true _ _ (one_bit i j h l)))
    ∙ or_one (bit m j) (eqb i j) (mod-lt (m / 2 ^ j) (zero-lt-suc 1))

-- the mark that is set, and marks that stay below a power of 2
pub mark_own : (m i : ℕ) → i < 16 → marked (with_mark m i) i ≡ true
mark_own m i h = marked_with m i i h h ∙ rw (eq-eqb i i refl)

pub mark_lt : (m i k : ℕ) → i < k → m < 2 ^ k → with_mark m i < 2 ^ k
unfolding with_mark
mark_lt m i k h l = or_lt k m (2 ^ i) l (pow-lt h)

pub marked_without_mark : (m i j : ℕ) → i < 16 → j < 16 → marked (without_mark m i) j ≡ (not (eqb i j) && marked m j)
unfolding marked without_mark
marked_without_mark m i j h l =
    ap (λ (x : ℕ). eqb x 1) (and_bit m (65535 - 2 ^ i) j ∙ ap (bit_and (bit m j)) (eqb-true _ _ (but_bit i j h l)))
    ∙ and_one (bit m j) (eqb i j) (mod-lt (m / 2 ^ j) (zero-lt-suc 1))

pub marked_all : (n j : ℕ) → n ≤ 16 → j < 16 → marked (all_marks n) j ≡ ltb j n
unfolding marked all_marks
marked_all n j h l = ap (λ (x : ℕ). eqb x 1) (eqb-true (bit (65535 / 2 ^ (16 - n)) j) (cond (ltb j n) 1 0) (all_bit n j (omega arith) l)) ∙ is_one (ltb j n)

-- a number below 2 ^ (k + 1) whose bit k is not set is below 2 ^ k
pub below_top : (m k : ℕ) → m < 2 ^ suc k → marked m k ≡ false → m < 2 ^ k
unfolding marked
below_top m k h e =
    let d : m / 2 ^ k < 2 = shr_lt 1 k (subst (λ (x : ℕ). m < 2 ^ x) (sym (add_comm 1 k ∙ add-one k)) h) in
    let f : m / 2 ^ k % 2 ≡ m / 2 ^ k = mod-eq_of_lt d in
    let n : bit m k ≡ 1 → ⊥ = eqb-false (bit m k) 1 e in
    let z : m / 2 ^ k ≡ 0 = omega (arith, n, f) in
    let r : m % 2 ^ k ≡ m = sym (zero-add (m % 2 ^ k)) ∙ ap (λ (x : ℕ). x + m % 2 ^ k) (sym (zero-mul (2 ^ k)) ∙ ap (λ (x : ℕ). x * 2 ^ k) (sym z)) ∙ split m k in
    subst (λ (x : ℕ). x < 2 ^ k) r (mod-lt m (pow_pos k))

-- a marked number is not 0
pub not_zero : (m k : ℕ) → marked m k ≡ true → eqb m 0 ≡ false
unfolding marked
not_zero m k e =
    let d : bit m k ≡ 1 = eqb-true (bit m k) 1 e in
    ne_eqb m 0 (λ z. let q : bit 0 k ≡ 1 = ap (λ (x : ℕ). bit x k) (sym z) ∙ d in omega (arith, q, native.Mathlib.Nat.zero-div (2 ^ k)))

pub all_lt : (n : ℕ) → n ≤ 16 → all_marks n < 2 ^ n
unfolding all_marks all
all_lt n h = ltb-true _ _ (all_at (λ (a : ℕ). ltb (65535 / 2 ^ (16 - a)) (2 ^ a)) 17 n refl (omega arith))

-- marks are their digits
bit_is : (m i : ℕ) → bit m i ≡ cond (marked m i) 1 0
unfolding marked
bit_is m i = sym (bool_bit (bit m i) (mod-lt (m / 2 ^ i) (zero-lt-suc 1)))

marks_mod : (m w k : ℕ) → ((i : ℕ) → i < k → marked m i ≡ marked w i) → m % 2 ^ k ≡ w % 2 ^ k
marks_mod m w zero h = omega arith
marks_mod m w (suc k) h =
    let e : 1 + k ≡ suc k = omega arith in
    let d : bit m k ≡ bit w k = bit_is m k ∙ ap (λ (b : Bool). cond b 1 0) (h k (omega arith)) ∙ sym (bit_is w k) in
    let r : m % 2 ^ k ≡ w % 2 ^ k = marks_mod m w k (λ i l. h i (omega arith)) in
    subst (λ (x : ℕ). m % 2 ^ x ≡ w % 2 ^ x) e (mod-pow-add m 1 k ∙ rw (d, r) (sym (mod-pow-add w 1 k)))

pub marks_ext : (m w k : ℕ) → m < 2 ^ k → w < 2 ^ k → ((i : ℕ) → i < k → marked m i ≡ marked w i) → m ≡ w
marks_ext m w k a b h = sym (mod-eq_of_lt a) ∙ marks_mod m w k h ∙ mod-eq_of_lt b

-- a number with no bit at or above k
pub no_bit : (m k : ℕ) → m / 2 ^ k ≡ 0 → m < 2 ^ k
no_bit m k e = let s : 0 * 2 ^ k + m % 2 ^ k ≡ m = rw e at (split m k) in omega (arith, s, mod-lt m (pow_pos k))
