-- One field more in a place: its value, its tag, and the mark of its slot. Assumes nothing.
use Rattle.std.specs.Prelude.{Option, Some, None}
use Rattle.std.specs.Option.{is_some}
use mathlib.Core.Path.{◌≡◌, refl, sym, ap, ◌∙◌}
use mathlib.Core.List.{List, [], ◌∷◌, ◌++◌}
use mathlib.Core.Bool.{Bool, true, false, cond, ◌||◌}
use Prim.Native.Nat.{ℕ, ◌≤◌, ◌<◌}
use native.Mathlib.Omega.{arith}
use borrow.Author.Tests.{le-leb, eqb-true, eqb-false}
use lib.Dec.{eqb}
use lib.ListN.{length, get_or, set, length-set, get_or-replicate}
use lib.Seq.{get_or-set_same, get_or-set_other}
use Rattle.chain.specs.Fields.{Field, field}
use Rattle.chain.specs.Places.{part}
use Rattle.tags.specs.Tags.{stands, lookup}
use Rattle.tags.specs.Slots.{slot_of, no_marks, text_at, marked, Holds}
use Rattle.tags.specs.declared.Marks.{Marks}
use Rattle.tags.specs.declared.Span.{Span}
use Rattle.tags.proofs.Slots.{slot_same}

-- ---- the last of some fields
module _ (t : ℕ) (f : Field) where
  pub stands_last : (e : List Field) → stands t (e ++ (f ∷ [])) ≡ stands t e || eqb f.tag t
  unfolding stands
  stands_last [] = go (eqb f.tag t)
    where
      go : (z : Bool) → z || false ≡ z
      go true = refl
      go false = refl
  stands_last (g ∷ e) = go (eqb g.tag t) (stands_last e)
    where
      go : (z : Bool) → stands t (e ++ (f ∷ [])) ≡ stands t e || eqb f.tag t → z || stands t (e ++ (f ∷ [])) ≡ (z || stands t e) || eqb f.tag t
      go true i = refl
      go false i = i

  lookup_other : (e : List Field) → eqb f.tag t ≡ false → lookup (e ++ (f ∷ [])) t ≡ lookup e t
  unfolding lookup
  lookup_other [] q = rw q
  lookup_other (g ∷ e) q = ap (λ (r : List ℕ). cond (eqb g.tag t) g.text r) (lookup_other e q)

  lookup_last : (e : List Field) → eqb f.tag t ≡ true → stands t e ≡ false → lookup (e ++ (f ∷ [])) t ≡ f.text
  unfolding lookup stands
  lookup_last [] q n = rw q
  lookup_last (g ∷ e) q n = go (eqb g.tag t) n (λ k. lookup_last e q k)
    where
      go : (z : Bool) → z || stands t e ≡ false → (stands t e ≡ false → lookup (e ++ (f ∷ [])) t ≡ f.text)
          → cond z g.text (lookup (e ++ (f ∷ [])) t) ≡ f.text
      go true n i = let z : ◌≡◌ {A = ℕ} 0 1 = cc in absurd (omega arith)
      go false n i = i n

-- ---- marks
pub none_held : (named : ℕ) (s : List ℕ) → named ≤ 21 → Holds named s no_marks []
unfolding marked text_at lookup stands
none_held named s n =
    record {
      size = refl;
      text = λ t l. rw (get_or-replicate {A = Option Span} 22 (slot_of t) None None (omega arith));
      seen = λ t l. rw (get_or-replicate {A = Option Span} 22 (slot_of t) None None (omega arith));
    }

-- one field more is marked
abbrev pub with_span : Marks → ℕ → ℕ → ℕ → Marks
with_span m k from to = record { spans = set m.spans k (Some (record { from = from; to = to })) }

module _ (named : ℕ) (s : List ℕ) (m : Marks) (e : List Field) (n : named ≤ 21) (h : Holds named s m e) (tag k from to : ℕ) (slot : k ≡ slot_of tag) (low : k ≤ 21)
    (new : k < named → get_or m.spans k None ≡ None) (some : from < to) (high : to < length s) where
  abbrev f : Field
  f = field tag (part from to s)

  abbrev more : Marks
  more = with_span m k from to

  abbrev span : Option Span
  span = Some (record { from = from; to = to })

  here : (t : ℕ) → slot_of t < named → eqb tag t ≡ true → (marked s more t ≡ lookup (e ++ (f ∷ [])) t) × (stands t (e ++ (f ∷ [])) ≡ is_some (get_or more.spans (slot_of t) None))
  unfolding marked text_at
  here t l q =
      let p : tag ≡ t = eqb-true tag t q in
      let j : slot_of t ≡ k = ap slot_of (sym p) ∙ sym slot in
      let n : stands t e ≡ false = h.seen t l ∙ rw (j, new (omega arith)) in (
        rw (j, get_or-set_same m.spans k span None (omega (arith, h.size)), le-leb from to (omega arith), le-leb to (length s) (omega arith))
            (sym (lookup_last t f e q n)),
        stands_last t f e ∙ rw (n, q, j, get_or-set_same m.spans k span None (omega (arith, h.size))),
      )

  there : (t : ℕ) → slot_of t < named → eqb tag t ≡ false → (marked s more t ≡ lookup (e ++ (f ∷ [])) t) × (stands t (e ++ (f ∷ [])) ≡ is_some (get_or more.spans (slot_of t) None))
  unfolding marked
  there t l q =
      let j : slot_of t ≡ k → ⊥ = λ i. eqb-false tag t q (sym (slot_same t tag (omega arith) (i ∙ slot))) in (
        rw (get_or-set_other m.spans k (slot_of t) span None j) (h.text t l ∙ sym (lookup_other t f e q)),
        stands_last t f e ∙ rw (q, get_or-set_other m.spans k (slot_of t) span None j) (or_no (stands t e) ∙ h.seen t l),
      )
    where
      or_no : (z : Bool) → z || false ≡ z
      or_no true = refl
      or_no false = refl

  both_ways : (t : ℕ) → slot_of t < named → (z : Bool) → eqb tag t ≡ z → (marked s more t ≡ lookup (e ++ (f ∷ [])) t) × (stands t (e ++ (f ∷ [])) ≡ is_some (get_or more.spans (slot_of t) None))
  both_ways t l true q = here t l q
  both_ways t l false q = there t l q

  -- a field is marked
  pub held_more : Holds named s more (e ++ (f ∷ []))
  held_more =
      record {
        size = length-set m.spans k span ∙ h.size;
        text = λ t l. (both_ways t l (eqb tag t) refl).0;
        seen = λ t l. (both_ways t l (eqb tag t) refl).1;
      }
