-- A tag that may stand in no place stands nowhere in a body whose places are tidy; without an 8 the bytes are a chain of fields. Assumes nothing.
use Rattle.std.specs.Prelude.{Option, Some, None}
use mathlib.Core.Path.{◌≡◌, refl, sym, ap, ◌∙◌}
use mathlib.Core.List.{List, [], ◌∷◌}
use mathlib.Core.Bool.{Bool, true, false, cond, not, ◌&&◌, ◌||◌, or-true, true≢false, false≢true}
use Prim.Native.Nat.{ℕ}
use borrow.Author.Tests.{eqb-true}
use lib.Dec.{eqb}
use lib.ListN.{drop}
use Rattle.digits.proofs.Width.{both}
use Rattle.chain.specs.Fields.{Field, fields_of}
use Rattle.chain.specs.Places.{broken, left}
use Rattle.chain.proofs.Walk.{left_whole, left_broken}
use Rattle.tags.specs.Tags.{has, stands, tidy, all_tidy, up_to, past, parts}
use Rattle.tags.proofs.Marking.{stands_last}

neither : (a b : Bool) → a || b ≡ false → (a ≡ false) × (b ≡ false)
neither true b h = absurd (true≢false h)
neither false b h = (refl, h)

-- ---- the tag t, from place to place
module _ (t : ℕ) where
  -- up to the first field with the tag u, at it and after it
  pub stands_past : (u : ℕ) (fs : List Field) → eqb u t ≡ false → stands t (up_to u fs) ≡ false → stands t (past u fs) ≡ false → stands t fs ≡ false
  unfolding stands up_to past
  stands_past u [] n h k = refl
  stands_past u (f ∷ fs) n h k = go (eqb f.tag u) refl h k (λ p q. stands_past u fs n p q)
    where
      go : (z : Bool) → eqb f.tag u ≡ z → stands t (cond z [] (f ∷ up_to u fs)) ≡ false → stands t (cond z fs (past u fs)) ≡ false
          → (stands t (up_to u fs) ≡ false → stands t (past u fs) ≡ false → stands t fs ≡ false) → eqb f.tag t || stands t fs ≡ false
      go true q h k i = rw (eqb-true f.tag u q, n, k)
      go false q h k i = let d = neither (eqb f.tag t) (stands t (up_to u fs)) h in rw (d.0, i d.1 k)

  module _ (named ours : List ℕ) (a : has t named ≡ true) (b : has t ours ≡ false) where
    -- in a tidy place
    pub stands_tidy : (fs : List Field) → tidy named ours fs ≡ true → stands t fs ≡ false
    unfolding stands tidy
    stands_tidy [] h = refl
    stands_tidy (f ∷ fs) h =
        let d = both (not (has f.tag named) || (has f.tag ours && not (stands f.tag fs))) (tidy named ours fs) h in
        rw (stands_tidy fs d.1) (go (eqb f.tag t) refl d.0)
      where
        go : (z : Bool) → eqb f.tag t ≡ z → not (has f.tag named) || (has f.tag ours && not (stands f.tag fs)) ≡ true → z || false ≡ false
        go true q k = let e : false ≡ true = rw (eqb-true f.tag t q, a, b) at k in absurd (false≢true e)
        go false q k = refl

    -- before the first entry and in each
    pub stands_parts : (u : ℕ) (fs : List Field) → stands t (up_to u fs) ≡ false → all_tidy named ours (parts u fs) ≡ true → stands t fs ≡ false
    unfolding stands up_to parts all_tidy
    stands_parts u [] h k = refl
    stands_parts u (f ∷ fs) h k = go (eqb f.tag u) h k (λ p q. stands_parts u fs p q)
      where
        go : (z : Bool) → stands t (cond z [] (f ∷ up_to u fs)) ≡ false → all_tidy named ours (cond z ((f ∷ up_to u fs) ∷ parts u fs) (parts u fs)) ≡ true
            → (stands t (up_to u fs) ≡ false → all_tidy named ours (parts u fs) ≡ true → stands t fs ≡ false) → eqb f.tag t || stands t fs ≡ false
        go true h k i =
            let e = both (tidy named ours (f ∷ up_to u fs)) (all_tidy named ours (parts u fs)) k in
            let d = neither (eqb f.tag t) (stands t (up_to u fs)) (stands_tidy (f ∷ up_to u fs) e.0) in
            rw (d.0, i d.1 e.1)
        go false h k i = let d = neither (eqb f.tag t) (stands t (up_to u fs)) h in rw (d.0, i d.1 k)

-- ---- no 8 among the fields from a place on: they are a chain
pub unbroken : (s : List ℕ) (at : ℕ) → stands 8 (left s at) ≡ false → fields_of (drop at s) ≡ Some (left s at)
unbroken s at h = go (fields_of (drop at s)) refl
  where
    go : (o : Option (List Field)) → fields_of (drop at s) ≡ o → o ≡ Some (left s at)
    go None e =
        let b = left_broken s at e in
        let z : stands 8 (left s at) ≡ true = ap (stands 8) b.1 ∙ stands_last 8 broken b.0 ∙ or-true (stands 8 b.0) in
        absurd (true≢false (sym z ∙ h))
    go (Some fs) e = ap Some (sym (left_whole s at e))
