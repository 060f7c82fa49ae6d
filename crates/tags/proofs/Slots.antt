-- The slot of a tag, and the tags of a run of slots. Assumes nothing.
use mathlib.Core.Path.{◌≡◌, refl, sym, ap, ◌∙◌}
use mathlib.Core.List.{List, [], ◌∷◌}
use mathlib.Core.Bool.{Bool, true, false, cond, ◌&&◌, ◌||◌, and-false}
use Prim.Native.Nat.{ℕ, zero, suc, ◌+◌, ◌-◌, ◌≤◌, ◌<◌}
use native.Mathlib.Omega.{arith}
use native.Mathlib.Nat.{sub-zero}
use native.Mathlib.Numerals.{add-one}
use borrow.Author.Tests.{ltb-true, ltb-false, lt-ltb, le-ltb, le-leb, lt-leb, leb-true, leb-false, eqb-true}
use lib.Dec.{leb, ltb, eqb, leb-zero}
use lib.ListN.{length, get_or, take, drop}
use lib.Seq.{take-nil}
use Rattle.digits.proofs.Width.{both}
use Rattle.chain.specs.Fields.{ahead}
use Rattle.tags.specs.Tags.{named_tags, has}
use Rattle.tags.specs.Slots.{slot_of, below, between}

-- ---- numbers one higher
ltb_suc : (a n : ℕ) → ltb (a + 1) (suc n) ≡ ltb a n
ltb_suc a n = go (ltb a n) refl
  where
    go : (z : Bool) → ltb a n ≡ z → ltb (a + 1) (suc n) ≡ z
    go true e = lt-ltb (a + 1) (suc n) (omega (arith, ltb-true a n e))
    go false e = le-ltb (a + 1) (suc n) (omega (arith, ltb-false a n e))

leb_suc : (n a : ℕ) → leb (suc n) (a + 1) ≡ leb n a
leb_suc n a = go (leb n a) refl
  where
    go : (z : Bool) → leb n a ≡ z → leb (suc n) (a + 1) ≡ z
    go true e = le-leb (suc n) (a + 1) (omega (arith, leb-true n a e))
    go false e = lt-leb (suc n) (a + 1) (omega (arith, leb-false n a e))

-- ---- the place of a tag in a list
module _ (t : ℕ) where
  -- what stands there
  ahead_get : (ts : List ℕ) → ahead t ts < length ts → get_or ts (ahead t ts) 0 ≡ t
  ahead_get [] l = absurd (omega arith)
  ahead_get (u ∷ us) l = go (eqb u t) refl l (λ k. ahead_get us k)
    where
      go : (z : Bool) → eqb u t ≡ z → cond z 0 (ahead t us + 1) < suc (length us) → (ahead t us < length us → get_or us (ahead t us) 0 ≡ t)
          → get_or (u ∷ us) (cond z 0 (ahead t us + 1)) 0 ≡ t
      go true e k i = eqb-true u t e
      go false e k i = rw add-one (i (omega arith))

  -- among the first n
  has_take : (n : ℕ) (ts : List ℕ) → n ≤ length ts → has t (take n ts) ≡ ltb (ahead t ts) n
  unfolding has
  has_take zero ts l = sym (le-ltb (ahead t ts) 0 (omega arith))
  has_take (suc n) [] l = absurd (omega arith)
  has_take (suc n) (u ∷ us) l = go (eqb u t) (has_take n us (omega arith))
    where
      go : (z : Bool) → has t (take n us) ≡ ltb (ahead t us) n → z || has t (take n us) ≡ ltb (cond z 0 (ahead t us + 1)) (suc n)
      go true i = sym (lt-ltb 0 (suc n) (omega arith))
      go false i = i ∙ sym (ltb_suc (ahead t us) n)

-- each once
abbrev once : List ℕ → Bool
once [] = true
once (u ∷ us) = eqb (ahead u us) (length us) && once us

module _ (t : ℕ) where
  -- from low up to high
  has_run : (low high : ℕ) (ts : List ℕ) → once ts ≡ true → high ≤ length ts
      → has t (take (high - low) (drop low ts)) ≡ leb low (ahead t ts) && ltb (ahead t ts) high
  unfolding has
  has_run zero high ts o l = rw (sub-zero, leb-zero) (has_take t high ts l)
  has_run (suc low) high [] o l = rw (take-nil, lt-leb (suc low) 0 (omega arith))
  has_run (suc low) zero (u ∷ us) o l =
      let z : 0 - suc low ≡ 0 = omega arith in
      rw (z, le-ltb (ahead t (u ∷ us)) 0 (omega arith), and-false)
  has_run (suc low) (suc high) (u ∷ us) o l =
      let b = both (eqb (ahead u us) (length us)) (once us) o in
      let z : suc high - suc low ≡ high - low = omega arith in
      rw z (go (eqb u t) refl b.0 (has_run low high us b.1 (omega arith)))
    where
      go : (z : Bool) → eqb u t ≡ z → eqb (ahead u us) (length us) ≡ true
          → has t (take (high - low) (drop low us)) ≡ leb low (ahead t us) && ltb (ahead t us) high
          → has t (take (high - low) (drop low us)) ≡ leb (suc low) (cond z 0 (ahead t us + 1)) && ltb (cond z 0 (ahead t us + 1)) (suc high)
      go true e p i =
          let q : u ≡ t = eqb-true u t e in
          let n : ahead t us ≡ length us = rw q at (eqb-true (ahead u us) (length us) p) in
          i ∙ rw (le-ltb (ahead t us) high (omega arith), and-false, lt-leb (suc low) 0 (omega arith))
      go false e p i = i ∙ rw (leb_suc low (ahead t us), ltb_suc (ahead t us) high)

-- ---- the named tags
-- two tags of one slot are one tag
pub slot_same : (t u : ℕ) → slot_of t < 21 → slot_of t ≡ slot_of u → t ≡ u
unfolding slot_of
slot_same t u l e = sym (ahead_get t named_tags l) ∙ ap (λ (k : ℕ). get_or named_tags k 0) e ∙ ahead_get u named_tags (omega arith)

pub has_below : (t named : ℕ) → named ≤ 21 → has t (below named) ≡ ltb (slot_of t) named
unfolding slot_of below
has_below t named l = has_take t named named_tags l

pub has_between : (t low high : ℕ) → high ≤ 21 → has t (between low high) ≡ leb low (slot_of t) && ltb (slot_of t) high
unfolding slot_of between
has_between t low high l = has_run t low high named_tags refl l
