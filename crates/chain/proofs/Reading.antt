-- The field at a place, by the places of its '=' and its SOH. Assumes nothing.
use Rattle.std.specs.Prelude.{Option, Some, None}
use mathlib.Core.Path.{◌≡◌, refl, ap, ◌∙◌}
use mathlib.Core.List.{List, [], ◌∷◌}
use mathlib.Core.Bool.{Bool, true, false, cond}
use Prim.Native.Nat.{ℕ, ◌+◌, ◌-◌, ◌≤◌, ◌<◌}
use native.Mathlib.Omega.{arith}
use borrow.Author.Tests.{leb-true, leb-false, lt-ltb, le-ltb}
use lib.Dec.{leb, ltb}
use lib.ListN.{length, take, drop, length-take, length-drop, drop_of_length-le}
use lib.Seq.{take-take, drop-drop}
use Rattle.digits.specs.Digits.{ranged_of}
use Rattle.text.specs.Text.{free}
use Rattle.chain.specs.Fields.{field, ahead, before, named, field_of}
use Rattle.chain.specs.Places.{step, part, first_of, placed, field_at}
use Rattle.chain.specs.declared.Step.{Step}
use Rattle.chain.proofs.Ahead.{ahead_le, ahead_take, ahead_past, at_ahead, digits_free, drop_take}
use Rattle.chain.proofs.Shortest.{tag_digits}

-- ---- a value
no_value : (r : Option ℕ) → named r [] ≡ None
no_value None = refl
no_value (Some t) = refl

pub a_value : (t : ℕ) (v : List ℕ) → 1 ≤ length v → named (Some t) v ≡ Some (field t v)
a_value t [] l = absurd (omega arith)
a_value t (b ∷ v) l = refl

module _ (s : List ℕ) (at : ℕ) where
  abbrev rest : List ℕ
  rest = drop at s

  abbrev m : ℕ
  m = ahead 61 rest

  abbrev k : ℕ
  k = ahead 1 rest

  -- SOH comes before '='
  late : k ≤ m → field_of (before 1 rest) ≡ None
  unfolding field_of
  late h =
      let q : ahead 61 (take k rest) ≡ k = ahead_take 61 k rest ∙ omega arith in
      let e : drop (k + 1) (take k rest) ≡ [] = drop_of_length-le (take k rest) {i = k + 1} (rw length-take (omega arith)) in
      rw (q, e) (no_value (ranged_of 5 1 99999 (take k (take k rest))))

  -- '=' comes before SOH
  early : m < k → field_of (before 1 rest) ≡ named (ranged_of 5 1 99999 (take m rest)) (take (k - (m + 1)) (drop (m + 1) rest))
  unfolding field_of
  early h =
      let q : ahead 61 (take k rest) ≡ m = ahead_take 61 k rest ∙ omega arith in
      rw (q, take-take m k rest (omega arith), drop_take (m + 1) k rest)

  none_no : field_of (before 1 rest) ≡ None → field_at s at ≡ None
  unfolding field_at
  none_no e = rw e (go (ltb (first_of 1 s at) (length s)))
    where
      go : (t : Bool) → cond {A = Option Step} t None None ≡ None
      go true = refl
      go false = refl

  -- there is no '='
  pub no_equals : (mid : ℕ) → mid ≡ first_of 61 s at → length s ≤ mid → field_at s at ≡ None
  no_equals mid q h = none_no (late (omega (arith, ahead_le 1 rest, length-drop at s)))

  -- there is no tag before it
  pub no_tag : (mid : ℕ) → mid ≡ first_of 61 s at → ranged_of 5 1 99999 (part at mid s) ≡ None → field_at s at ≡ None
  no_tag mid q r =
      let w : mid - at ≡ m = omega arith in
      let u : ranged_of 5 1 99999 (take m rest) ≡ None = rw w at r in
      none_no (go (leb k m) refl u)
    where
      go : (t : Bool) → leb k m ≡ t → ranged_of 5 1 99999 (take m rest) ≡ None → field_of (before 1 rest) ≡ None
      go true e u = late (leb-true k m e)
      go false e u = early (leb-false k m e) ∙ rw u

  module _ (mid t to : ℕ) (equals : mid ≡ first_of 61 s at) (in_s : mid < length s)
      (tag : ranged_of 5 1 99999 (part at mid s) ≡ Some t) (soh : to ≡ first_of 1 s (mid + 1)) where
    width : mid - at ≡ m
    width = omega arith

    tag_read : ranged_of 5 1 99999 (take m rest) ≡ Some t
    tag_read = rw width at tag

    -- no SOH stands before the value
    past : k ≡ m + 1 + ahead 1 (drop (m + 1) rest)
    past =
        let l : m < length rest = rw length-drop (omega arith) in
        let f : free 1 (take m rest) ≡ true = digits_free 1 (take m rest) refl (tag_digits (take m rest) tag_read) in
        let p : k ≡ m + ahead 1 (drop m rest) = ahead_past 1 m rest (omega arith) f in
        let q : ahead 1 (drop m rest) ≡ ahead 1 (drop (m + 1) rest) + 1 = rw (at_ahead 61 rest l) in
        omega arith

    value_at : drop (m + 1) rest ≡ drop (mid + 1) s
    value_at = let q : at + (m + 1) ≡ mid + 1 = omega arith in rw (drop-drop (m + 1) at s, q)

    ends_at : first_of 1 s at ≡ to
    ends_at = let e : ahead 1 (drop (m + 1) rest) ≡ ahead 1 (drop (mid + 1) s) = ap (ahead 1) value_at in omega (arith, past)

    by_parts : field_at s at ≡ cond (ltb to (length s)) (placed to (named (Some t) (part (mid + 1) to s))) None
    unfolding field_at
    by_parts =
        let l : m < k = omega (arith, past) in
        let w : k - (m + 1) ≡ to - (mid + 1) = omega (arith, ends_at) in
        rw (ends_at, early l, tag_read, value_at, w)

    -- no SOH ends it
    pub no_end : length s ≤ to → field_at s at ≡ None
    no_end h = by_parts ∙ rw (le-ltb to (length s) h)

    -- its value is empty
    pub no_text : to < length s → to ≡ mid + 1 → field_at s at ≡ None
    no_text h q =
        let z : to - (mid + 1) ≡ 0 = omega arith in
        by_parts ∙ rw (lt-ltb to (length s) h, z)

    pub a_field : to < length s → (to ≡ mid + 1 → ⊥) → field_at s at ≡ Some (step t (mid + 1) to)
    a_field h q =
        let e : mid + 1 ≤ to = omega arith in
        let l : length (part (mid + 1) to s) ≡ to - (mid + 1) = rw (length-take, length-drop) (omega arith) in
        let z : to - (to - (mid + 1)) ≡ mid + 1 = omega arith in
        by_parts ∙ rw (lt-ltb to (length s) h, a_value t (part (mid + 1) to s) (omega arith), l, z)
