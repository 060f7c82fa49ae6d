-- What the first three fields, the trailer and the type say of their places. Assumes nothing.
use Rattle.std.specs.Prelude.{Option, Some, None, Ok, Err}
use Rattle.std.proofs.Common.{◌≡◌, ℕ, ◌+◌, ◌-◌, ◌<◌, ◌≤◌, Bool, true, false, cond, ◌&&◌, eqb, leb, List, [], ◌∷◌, length, get_or, take, refl, ap, ◌∙◌, arith, length-take, eq-eqb, eqb-true, leb-true}
use Rattle.digits.specs.Digits.{whole_of}
use Rattle.digits.proofs.Width.{both, whole_below}
use Rattle.frame.specs.Frames.{of_type, equal, is_type, typed}
use Rattle.chain.specs.Places.{step, part, field_at}
use Rattle.frame.specs.ByPlace.{opening, shape, tagged, preamble, third_of, count_of, second_of, head_of, trailer_of, sum_read, parts_in, parts_of}
use Rattle.chain.specs.declared.Step.{Step}
use Rattle.frame.specs.declared.Opening.{Opening}
use Rattle.frame.specs.declared.Shape.{Shape}
use Rattle.frame.specs.declared.FrameError.{FrameError}
use Rattle.chain.proofs.Walk.{Found, found}

-- ---- the same bytes
pub equal_is : (a b : List ℕ) → equal a b ≡ true → a ≡ b
equal_is [] [] h = refl
equal_is [] (y ∷ b) h = let z : ◌≡◌ {A = ℕ} 0 1 = cc in absurd (omega arith)
equal_is (x ∷ a) [] h = let z : ◌≡◌ {A = ℕ} 0 1 = cc in absurd (omega arith)
equal_is (x ∷ a) (y ∷ b) h =
    let d = both (eqb x y) (equal a b) h in
    ap (λ (u : ℕ). u ∷ a) (eqb-true x y d.0) ∙ ap (λ (u : List ℕ). y ∷ u) (equal_is a b d.1)

pub equal_same : (a : List ℕ) → equal a a ≡ true
equal_same [] = refl
equal_same (x ∷ a) = rw (eq-eqb x x refl, equal_same a)

-- too few bytes
pub too_short : (s : List ℕ) → length s < 10 → equal (take 10 s) preamble ≡ false
too_short s h = go (equal (take 10 s) preamble) refl
  where
    go : (t : Bool) → equal (take 10 s) preamble ≡ t → t ≡ false
    go true e = absurd (omega (arith, ap length (equal_is (take 10 s) preamble e), length-take 10 s))
    go false e = refl

-- ---- the type
pub no_type : (v : List ℕ) (from : ℕ) → (length v ≡ 1 → ⊥) → typed v from ≡ Err FrameError.BadType
no_type [] from h = refl
no_type (k ∷ []) from h = absurd (h refl)
no_type (k ∷ l ∷ v) from h = refl

pub a_type : (v : List ℕ) (from : ℕ) → length v ≡ 1 → typed v from ≡ cond (is_type (get_or v 0 0)) (Ok (of_type (get_or v 0 0) from)) (Err FrameError.BadType)
a_type [] from h = absurd (omega arith)
a_type (k ∷ []) from h = refl
a_type (k ∷ l ∷ v) from h = absurd (omega arith)

-- ---- the first three fields
pub tagged_is : (t : ℕ) (o : Option Step) {f : Step} → tagged t o ≡ Some f → o ≡ Some (step t f.from f.to)
tagged_is t None e = absurd (cc)
tagged_is t (Some g) {f} e = go (eqb g.tag t) refl e
  where
    go : (z : Bool) → eqb g.tag t ≡ z → cond z (Some g) None ≡ Some f → Some g ≡ Some (step t f.from f.to)
    go true p h =
        let i : g ≡ f = cc in
        let q : g.tag ≡ t = eqb-true g.tag t p in
        ap (λ (u : ℕ). Some (step u g.from g.to)) q ∙ ap (λ (x : Step). Some (step t x.from x.to)) i
    go false p h = absurd (cc)

pub tagged_found : (t : ℕ) (s : List ℕ) (at : ℕ) {f : Step} → tagged t (field_at s at) ≡ Some f → Found s at t f.from f.to
tagged_found t s at e = found s at (tagged_is t (field_at s at) e)

-- 8, 9 whose value at low..high says v, then 35 at a place, whose value stands at from..to
pub record Opened (s : List ℕ) (v at from to : ℕ) : Type 0 where
  pub begin : take 10 s ≡ preamble
  pub low : ℕ
  pub high : ℕ
  pub nine : field_at s 10 ≡ Some (step 9 low high)
  pub count : whole_of 5 (part low high s) ≡ Some v
  pub next : high + 1 ≡ at
  pub third : field_at s at ≡ Some (step 35 from to)

pub opened : (s : List ℕ) {v at from to : ℕ} → head_of s ≡ Some (opening v at from to) → Opened s v at from to
unfolding head_of
opened s {v} {at} {from} {to} e = begun (equal (take 10 s) preamble) refl e
  where
    thirded : (n p low high : ℕ) (x : Option Step) → tagged 35 (field_at s p) ≡ x → take 10 s ≡ preamble → field_at s 10 ≡ Some (step 9 low high)
        → whole_of 5 (part low high s) ≡ Some n → high + 1 ≡ p
        → third_of n p x ≡ Some (opening v at from to) → Opened s v at from to
    thirded n p low high None y b f w q h = let z : ◌≡◌ {A = ℕ} 0 1 = cc in absurd (omega arith)
    thirded n p low high (Some x) y b f w q h =
        let z : opening n p x.from x.to ≡ opening v at from to = cc in
        let g : n ≡ v = ap (λ (o : Opening). o.count) z in
        let i : p ≡ at = ap (λ (o : Opening). o.at) z in
        let j : x.from ≡ from = ap (λ (o : Opening). o.from) z in
        let k : x.to ≡ to = ap (λ (o : Opening). o.to) z in
        record { begin = b; low = low; high = high; nine = f; count = w ∙ ap Some g; next = q ∙ i; third = rw (i, j, k) at (tagged_is 35 (field_at s p) y) }

    counted : (low high : ℕ) (r : Option ℕ) → whole_of 5 (part low high s) ≡ r → take 10 s ≡ preamble → field_at s 10 ≡ Some (step 9 low high)
        → count_of s (high + 1) r ≡ Some (opening v at from to) → Opened s v at from to
    counted low high None w b f h = let z : ◌≡◌ {A = ℕ} 0 1 = cc in absurd (omega arith)
    counted low high (Some n) w b f h = thirded n (high + 1) low high (tagged 35 (field_at s (high + 1))) refl b f w refl h

    nined : (x : Option Step) → tagged 9 (field_at s 10) ≡ x → take 10 s ≡ preamble → second_of s x ≡ Some (opening v at from to) → Opened s v at from to
    nined None y b h = let z : ◌≡◌ {A = ℕ} 0 1 = cc in absurd (omega arith)
    nined (Some x) y b h = counted x.from x.to (whole_of 5 (part x.from x.to s)) refl b (tagged_is 9 (field_at s 10) y) h

    begun : (t : Bool) → equal (take 10 s) preamble ≡ t → cond t (second_of s (tagged 9 (field_at s 10))) None ≡ Some (opening v at from to)
        → Opened s v at from to
    begun true p h = nined (tagged 9 (field_at s 10)) refl (equal_is (take 10 s) preamble p) h
    begun false p h = let z : ◌≡◌ {A = ℕ} 0 1 = cc in absurd (omega arith)

-- the places of an opening
pub record Inside (s : List ℕ) (v at from to : ℕ) : Type 0 where
  pub small : v < 100000
  pub low : at < from
  pub some : from < to
  pub high : to < length s

pub opened_inside : (s : List ℕ) {v at from to : ℕ} → head_of s ≡ Some (opening v at from to) → Inside s v at from to
opened_inside s e =
    let o = opened s e in
    let f = found s _ o.third in
    record { small = whole_below 5 _ o.count; low = f.low; some = f.some; high = f.high }

-- ---- the shape
pub record Shaped (s : List ℕ) (from to v : ℕ) : Type 0 where
  pub short : length s ≤ 8192
  pub count : ℕ
  pub at : ℕ
  pub head : head_of s ≡ Some (opening count at from to)
  pub counts : at + count + 7 ≡ length s
  pub order : to + 1 ≤ length s - 7
  pub trailer : trailer_of (part (length s - 7) (length s) s) ≡ Some v

pub shaped : (s : List ℕ) {from to v : ℕ} → parts_of s ≡ Some (shape from to v) → Shaped s from to v
unfolding parts_of
shaped s {from} {to} {v} e = go (leb (length s) 8192) (head_of s) refl refl e
  where
    read : (n at a c : ℕ) (r : Option ℕ) → length s ≤ 8192 → head_of s ≡ Some (opening n at a c) → at + n + 7 ≡ length s → c + 1 ≤ length s - 7
        → trailer_of (part (length s - 7) (length s) s) ≡ r → sum_read a c r ≡ Some (shape from to v) → Shaped s from to v
    read n at a c None l h p q t x = let z : ◌≡◌ {A = ℕ} 0 1 = cc in absurd (omega arith)
    read n at a c (Some u) l h p q t x =
        let z : shape a c u ≡ shape from to v = cc in
        let i : a ≡ from = ap (λ (x : Shape). x.from) z in
        let j : c ≡ to = ap (λ (x : Shape). x.to) z in
        let k : u ≡ v = ap (λ (x : Shape). x.sum) z in
        rw (← i, ← j, ← k) (record { short = l; count = n; at = at; head = h; counts = p; order = q; trailer = t })

    tested : (n at a c : ℕ) (x y : Bool) → length s ≤ 8192 → head_of s ≡ Some (opening n at a c)
        → eqb (at + n + 7) (length s) ≡ x → leb (c + 1) (length s - 7) ≡ y
        → cond (x && y) (sum_read a c (trailer_of (part (length s - 7) (length s) s))) None ≡ Some (shape from to v) → Shaped s from to v
    tested n at a c true true l h p q t = read n at a c (trailer_of (part (length s - 7) (length s) s)) l h (eqb-true (at + n + 7) (length s) p) (leb-true (c + 1) (length s - 7) q) refl t
    tested n at a c true false l h p q t = let z : ◌≡◌ {A = ℕ} 0 1 = cc in absurd (omega arith)
    tested n at a c false y l h p q t = let z : ◌≡◌ {A = ℕ} 0 1 = cc in absurd (omega arith)

    go : (t : Bool) (o : Option Opening) → leb (length s) 8192 ≡ t → head_of s ≡ o → cond t (parts_in s o) None ≡ Some (shape from to v) → Shaped s from to v
    go true None p h x = let z : ◌≡◌ {A = ℕ} 0 1 = cc in absurd (omega arith)
    go true (Some o) p h x = tested o.count o.at o.from o.to (eqb (o.at + o.count + 7) (length s)) (leb (o.to + 1) (length s - 7)) (leb-true (length s) 8192 p) h refl refl x
    go false o p h x = let z : ◌≡◌ {A = ℕ} 0 1 = cc in absurd (omega arith)
