-- The rules of a place, checked field by field as they come. Assumes nothing.
use Rattle.std.specs.Prelude.{None}
use Rattle.std.specs.Option.{is_some}
use mathlib.Core.Path.{◌≡◌, refl, sym}
use mathlib.Core.List.{List, [], ◌∷◌, ◌++◌}
use mathlib.Core.Bool.{Bool, true, false, not, ◌&&◌, ◌||◌, and-false, or-true, false≢true, true≢false}
use Prim.Native.Nat.{ℕ, ◌≤◌, ◌<◌}
use native.Mathlib.Omega.{arith}
use borrow.Author.Tests.{eqb-true, eqb-false, eq-eqb, ne_eqb, ltb-true, ltb-false, le-leb, lt-leb}
use lib.Dec.{leb, ltb, eqb}
use lib.ListN.{get_or}
use Rattle.digits.proofs.Width.{both}
use Rattle.chain.specs.Fields.{Field}
use Rattle.tags.specs.Tags.{has, stands, tidy}
use Rattle.tags.specs.Slots.{slot_of, below, between, strays, Holds}
use Rattle.tags.specs.declared.Marks.{Marks}
use Rattle.tags.proofs.Slots.{has_below, has_between}
use Rattle.tags.proofs.Marking.{stands_last}

-- ---- one field after others
module _ (named ours : List ℕ) where
  -- a field may follow e
  abbrev pub fits : List Field → Field → Bool
  fits e f = not (has f.tag named) || (has f.tag ours && not (stands f.tag e))

  pub tidy_nil : tidy named ours [] ≡ true
  unfolding tidy
  tidy_nil = refl

  -- the first of a place
  pub tidy_one : (f : Field) → fits [] f ≡ true → tidy named ours (f ∷ []) ≡ true
  unfolding tidy stands
  tidy_one f h = rw h

  twice : (f : Field) (e l : List Field) → stands f.tag (e ++ (f ∷ l)) ≡ true
  unfolding stands
  twice f [] l = rw (eq-eqb f.tag f.tag refl)
  twice f (g ∷ e) l = rw (twice f e l) (or-true (eqb g.tag f.tag))

  -- a field that may not follow e
  pub tidy_stray : (e : List Field) (f : Field) (l : List Field) → fits e f ≡ false → tidy named ours (e ++ (f ∷ l)) ≡ false
  unfolding tidy stands
  tidy_stray [] f l h = go (has f.tag named) (has f.tag ours) h
    where
      go : (a b : Bool) → not a || (b && true) ≡ false → (not a || (b && not (stands f.tag l))) && tidy named ours l ≡ false
      go true true h = absurd (true≢false h)
      go true false h = refl
      go false b h = absurd (true≢false h)
  tidy_stray (g ∷ e) f l h = go (eqb g.tag f.tag) refl h (λ k. tidy_stray e f l k)
    where
      go : (z : Bool) → eqb g.tag f.tag ≡ z → not (has f.tag named) || (has f.tag ours && not (z || stands f.tag e)) ≡ false
          → (not (has f.tag named) || (has f.tag ours && not (stands f.tag e)) ≡ false → tidy named ours (e ++ (f ∷ l)) ≡ false)
          → (not (has g.tag named) || (has g.tag ours && not (stands g.tag (e ++ (f ∷ l))))) && tidy named ours (e ++ (f ∷ l)) ≡ false
      go true p k i =
          let q : g.tag ≡ f.tag = eqb-true g.tag f.tag p in
          rw (q, twice f e l) (pick (has f.tag named) (has f.tag ours) k)
        where
          pick : (a b : Bool) → not a || (b && false) ≡ false → (not a || (b && false)) && tidy named ours (e ++ (f ∷ l)) ≡ false
          pick true true h = refl
          pick true false h = refl
          pick false b h = absurd (true≢false h)
      go false p k i = rw (i k, and-false)

  -- a field that may
  pub tidy_more : (e : List Field) (f : Field) → tidy named ours e ≡ true → fits e f ≡ true → tidy named ours (e ++ (f ∷ [])) ≡ true
  unfolding tidy stands
  tidy_more [] f h k = rw k
  tidy_more (g ∷ e) f h k =
      let d = both (not (has g.tag named) || (has g.tag ours && not (stands g.tag e))) (tidy named ours e) h in
      go (eqb g.tag f.tag) refl k d.0 (λ i. tidy_more e f d.1 i)
    where
      go : (z : Bool) → eqb g.tag f.tag ≡ z → not (has f.tag named) || (has f.tag ours && not (z || stands f.tag e)) ≡ true
          → not (has g.tag named) || (has g.tag ours && not (stands g.tag e)) ≡ true
          → (not (has f.tag named) || (has f.tag ours && not (stands f.tag e)) ≡ true → tidy named ours (e ++ (f ∷ [])) ≡ true)
          → (not (has g.tag named) || (has g.tag ours && not (stands g.tag (e ++ (f ∷ []))))) && tidy named ours (e ++ (f ∷ [])) ≡ true
      go true p k d i =
          let q : g.tag ≡ f.tag = eqb-true g.tag f.tag p in
          let n : has f.tag named ≡ false = free (has f.tag named) (has f.tag ours) k in
          rw (q, n) (i (rw n))
        where
          free : (a b : Bool) → not a || (b && false) ≡ true → a ≡ false
          free true true h = absurd (false≢true h)
          free true false h = absurd (false≢true h)
          free false b h = refl
      go false p k d i =
          let n : eqb f.tag g.tag ≡ false = ne_eqb f.tag g.tag (λ q. eqb-false g.tag f.tag p (sym q)) in
          rw (stands_last g.tag f e, n, or_no (stands g.tag e), d) (i k)
        where
          or_no : (z : Bool) → z || false ≡ z
          or_no true = refl
          or_no false = refl

-- ---- the code's test
not_below : (a b : ℕ) → leb b a ≡ not (ltb a b)
not_below a b = go (ltb a b) refl
  where
    go : (z : Bool) → ltb a b ≡ z → leb b a ≡ not z
    go true p = lt-leb b a (ltb-true a b p)
    go false p = le-leb b a (ltb-false a b p)

outside : (a b c : Bool) → (not a && b) && not c ≡ not ((a || not b) || c)
outside true b c = refl
outside false true true = refl
outside false true false = refl
outside false false c = refl

module _ (s : List ℕ) (m : Marks) (e : List Field) (named low high : ℕ) (h : Holds named s m e) (n : named ≤ 21) (g : high ≤ 21) (f : Field) where
  pub fits_test : fits (below named) (between low high) e f ≡ not (strays (slot_of f.tag) named low high (is_some (get_or m.spans (slot_of f.tag) None)))
  fits_test = rw (has_below f.tag named n, has_between f.tag low high g) (go (slot_of f.tag) refl (ltb (slot_of f.tag) named) refl)
    where
      go : (k : ℕ) → slot_of f.tag ≡ k → (z : Bool) → ltb k named ≡ z
          → not z || ((leb low k && ltb k high) && not (stands f.tag e))
          ≡ not (z && ((ltb k low || leb high k) || is_some (get_or m.spans k None)))
      go k q true p =
          let l : slot_of f.tag < named = omega (arith, ltb-true k named p) in
          let r : stands f.tag e ≡ is_some (get_or m.spans k None) = rw q at (h.seen f.tag l) in
          rw (not_below k low, not_below k high, r) (outside (ltb k low) (ltb k high) (is_some (get_or m.spans k None)))
      go k q false p = refl
