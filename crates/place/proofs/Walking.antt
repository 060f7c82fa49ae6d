-- A walk along a place: what is known at each field, and what each end of the walk tells. Assumes nothing.
use Rattle.std.specs.Prelude.{Option, Some, None, Result, Ok, Err}
use Rattle.std.specs.Result.{result_ok}
use Rattle.std.specs.Option.{is_some}
use Rattle.std.specs.Int.{from_bool}
use mathlib.Core.Path.{◌≡◌, refl, sym, ap, ◌∙◌}
use mathlib.Core.List.{List, [], ◌∷◌, ◌++◌}
use mathlib.Core.Bool.{Bool, true, false, cond, not, ◌&&◌, ◌||◌, true≢false, false≢true}
use Prim.Native.Nat.{ℕ, ◌+◌, ◌-◌, ◌≤◌, ◌<◌}
use native.Mathlib.Omega.{arith}
use borrow.Author.Tests.{lt-ltb, eqb-false, eq-eqb, ne_eqb, not-true}
use lib.Dec.{ltb, leb, eqb}
use lib.ListN.{length, get_or, length-append, length-take, length-drop}
use Rattle.digits.proofs.Width.{both}
use Rattle.chain.specs.Fields.{Field, field}
use Rattle.chain.specs.Places.{step, part, field_at, broken, left}
use Rattle.chain.proofs.Walk.{walked, left_on, left_no, found}
use Rattle.tags.specs.Tags.{tidy, up_to, onward}
use Rattle.tags.specs.Slots.{slot_of, below, between, no_marks, strays, breaks, Holds}
use Rattle.tags.specs.declared.Marks.{Marks}
use Rattle.tags.specs.declared.Span.{Span}
use Rattle.tags.proofs.Marking.{none_held, with_span, held_more}
use Rattle.tags.proofs.Tidiness.{fits, fits_test, tidy_nil, tidy_more}
use Rattle.place.specs.Places.{Place, place_of, split_at, split_from, Tells}
use Rattle.place.specs.Walks.{soh_at, mark_at, walk_on, Walk}
use Rattle.place.proofs.Splits.{split_end, split_stop, split_stray, split_more}

-- whether a tag was seen, handed on as a number
pub seen_as : (b : Bool) → not (eqb (from_bool b) 0) ≡ b
seen_as true = refl
seen_as false = refl

-- a field that does not stray was not seen
pub unseen : (k named low high : ℕ) (o : Option Span) → strays k named low high (is_some o) ≡ false → k < named → o ≡ None
unseen k named low high o h l = go (ltb k low || leb high k) o (rw (lt-ltb k named l) at h)
  where
    go : (y : Bool) (o : Option Span) → y || is_some o ≡ false → o ≡ None
    go true o h = absurd (true≢false h)
    go false None h = refl
    go false (Some p) h = absurd (true≢false h)

-- bytes that are no field stray, whatever was seen
pub broken_strays : (named low high : ℕ) (seen : Bool) → strays 0 named low high false ≡ true → strays (slot_of 8) named low high seen ≡ true
unfolding slot_of
broken_strays named low high seen = go (ltb 0 named) (ltb 0 low || leb high 0)
  where
    go : (a b : Bool) → a && (b || false) ≡ true → a && (b || seen) ≡ true
    go true true h = refl
    go true false h = absurd (false≢true h)
    go false b h = absurd (false≢true h)

module _ (s : List ℕ) (start stop named low high : ℕ) (first : Marks) where
  abbrev whole : List Field
  whole = left s start

  -- where e has come before: those passed, and that e and the whole are what they and those that are left make
  pub record Passed (e : List Field) (m : Marks) (at : ℕ) : Type 0 where
    pub passed : List Field
    pub holds : Holds named s m passed
    pub tidy : tidy (below named) (between low high) passed ≡ true
    pub same : split_from stop named low high e whole ≡ split_from stop named low high passed (left s at)

  -- at a field
  pub record Walks (m : Marks) (at : ℕ) : Type 0 where
    pub few : named ≤ 21
    pub top : high ≤ 21
    pub breaks : breaks stop named low high ≡ true
    pub exact : walk_on stop named low high start first whole ≡ walk_on stop named low high at m (left s at)
    pub told : (e : List Field) → Holds named s first e → tidy (below named) (between low high) e ≡ true → Passed e m at

  pub walk_start : named ≤ 21 → high ≤ 21 → breaks stop named low high ≡ true → Walks first start
  walk_start n g b =
      record {
        few = n;
        top = g;
        breaks = b;
        exact = refl;
        told = λ e h t. record { passed = e; holds = h; tidy = t; same = refl };
      }

  module _ (m : Marks) (at : ℕ) (w : Walks m at) where
    pub tells_end : length s ≤ at → Walk s start stop named low high first (record { ok = true; at = at; marks = m })
    unfolding walk_on
    tells_end l =
        record {
          exact = sym (w.exact ∙ ap (walk_on stop named low high at m) (walked s at l));
          tells = λ e h t.
              let p = w.told e h t in
              rw (p.same, walked s at l, split_end stop named low high p.passed p.tidy) (record { ok = refl; holds = p.holds; rest = walked s at l });
        }

    -- a field that strays
    strayed : (f : Field) (fs : List Field) → left s at ≡ f ∷ fs → (f.tag ≡ stop → ⊥)
        → strays (slot_of f.tag) named low high (is_some (get_or m.spans (slot_of f.tag) None)) ≡ true
        → Walk s start stop named low high first (record { ok = false; at = at; marks = m })
    unfolding walk_on
    strayed f fs q other h =
        record {
          exact = sym (w.exact ∙ rw (q, ne_eqb f.tag stop other, h));
          tells = λ e i t.
              let p = w.told e i t in
              let no : fits (below named) (between low high) p.passed f ≡ false = fits_test s m p.passed named low high p.holds w.few w.top f ∙ ap not h in
              rw (p.same, q, split_stray stop named low high p.passed p.tidy f fs other no) refl;
        }

    pub tells_broken : at < length s → field_at s at ≡ None → Walk s start stop named low high first (record { ok = false; at = at; marks = m })
    tells_broken l e =
        let b = both (not (eqb 8 stop)) (strays 0 named low high false) w.breaks in
        strayed broken [] (left_no s at l e) (eqb-false 8 stop (not-true (eqb 8 stop) b.0))
        (broken_strays named low high (is_some (get_or m.spans (slot_of 8) None)) b.1)

    module _ (tag from to : ℕ) (l : at < length s) (step : field_at s at ≡ Some (step tag from to)) where
      abbrev f : Field
      f = field tag (part from to s)

      on : left s at ≡ f ∷ left s (to + 1)
      on = left_on s at l step

      -- where it ends, and where its value starts
      ends : soh_at at f ≡ to
      ends = let p = found s at step in omega (arith, p.low, p.some, p.high, simp (length-append, length-drop) at (ap length p.same))

      starts : soh_at at f - length f.text ≡ from
      starts = let p = found s at step in rw ends (simp (length-take, length-drop) (omega (arith, p.some, p.high)))

      pub tells_stop : tag ≡ stop → Walk s start stop named low high first (record { ok = true; at = at; marks = m })
      unfolding walk_on
      tells_stop q =
          record {
            exact = sym (w.exact ∙ rw (on, eq-eqb tag stop q));
            tells = λ e h t.
                let p = w.told e h t in
                rw (p.same, on, split_stop stop named low high p.passed p.tidy f (left s (to + 1)) q) (record { ok = refl; holds = p.holds; rest = on });
          }

      module _ (other : tag ≡ stop → ⊥) (k : ℕ) (slot : k ≡ slot_of tag) where
        pub tells_stray : strays k named low high (is_some (get_or m.spans k None)) ≡ true → Walk s start stop named low high first (record { ok = false; at = at; marks = m })
        tells_stray h = strayed f (left s (to + 1)) on other (rw slot at h)

        marked_so : mark_at at f m ≡ with_span m k from to
        marked_so = rw (starts, ends, slot)

        pub walk_more : strays k named low high (is_some (get_or m.spans k None)) ≡ false → k ≤ 21 → Walks (with_span m k from to) (to + 1)
        unfolding walk_on
        walk_more h b =
            let p = found s at step in
            let i : strays (slot_of tag) named low high (is_some (get_or m.spans (slot_of tag) None)) ≡ false = rw slot at h in
            record {
              few = w.few;
              top = w.top;
              breaks = w.breaks;
              exact = w.exact ∙ rw (on, ne_eqb tag stop other, i)
                  (ap (λ (n : ℕ). walk_on stop named low high (n + 1) (mark_at at f m) (left s (to + 1))) ends
                  ∙ ap (λ (j : Marks). walk_on stop named low high (to + 1) j (left s (to + 1))) marked_so);
              told = λ e g t.
                  let v = w.told e g t in
                  let fit : fits (below named) (between low high) v.passed f ≡ true = fits_test s m v.passed named low high v.holds w.few w.top f ∙ ap not i in
                  record {
                    passed = v.passed ++ (f ∷ []);
                    holds = held_more named s m v.passed w.few v.holds tag k from to slot b (unseen k named low high (get_or m.spans k None) h) p.some p.high;
                    tidy = tidy_more (below named) (between low high) v.passed f v.tidy fit;
                    same = v.same ∙ ap (split_from stop named low high v.passed) on ∙ split_more stop named low high v.passed v.tidy f (left s (to + 1)) other;
                  };
            }

-- ---- what a walk's answer says of the place, where e had come before
-- the rules hold: its marks say what its fields say, and what follows it is known
pub record Tidy (s : List ℕ) (stop named low high : ℕ) (e fs : List Field) (r : Place) : Type 0 where
  pub tidy : tidy (below named) (between low high) (e ++ up_to stop fs) ≡ true
  pub holds : Holds named s r.marks (e ++ up_to stop fs)
  pub rest : left s r.at ≡ onward stop fs

module _ (s : List ℕ) (stop named low high : ℕ) (e fs : List Field) (r : Place) where
  pub was_untidy : r.ok ≡ false → Tells named s r (split_from stop named low high e fs) → tidy (below named) (between low high) (e ++ up_to stop fs) ≡ false
  was_untidy q h = go (tidy (below named) (between low high) (e ++ up_to stop fs)) h
    where
      go : (z : Bool) → Tells named s r (cond z (Some (record { inside = e ++ up_to stop fs; rest = onward stop fs })) None) → z ≡ false
      go true w = absurd (true≢false (sym w.ok ∙ q))
      go false w = refl

  pub was_tidy : r.ok ≡ true → Tells named s r (split_from stop named low high e fs) → Tidy s stop named low high e fs r
  was_tidy q h = go (tidy (below named) (between low high) (e ++ up_to stop fs)) refl h
    where
      go : (z : Bool) → tidy (below named) (between low high) (e ++ up_to stop fs) ≡ z
          → Tells named s r (cond z (Some (record { inside = e ++ up_to stop fs; rest = onward stop fs })) None) → Tidy s stop named low high e fs r
      go true e w = record { tidy = e; holds = w.holds; rest = w.rest }
      go false e w = absurd (true≢false (sym q ∙ w))

-- ---- a walk's answer, where it is not asked where a breach stands
pub walk_ended : {r : Result ℕ ℕ} {o : Option ℕ} {at : ℕ} → o ≡ result_ok r → o ≡ Some at → r ≡ Ok at
walk_ended {r} {o} {at} p q = go r (sym p ∙ q)
  where
    go : (r : Result ℕ ℕ) → result_ok r ≡ Some at → r ≡ Ok at
    go (Ok x) h = let z : x ≡ at = cc in rw z
    go (Err x) h = let z : ◌≡◌ {A = ℕ} 0 1 = cc in absurd (omega arith)

pub walk_breached : (r : Result ℕ ℕ) (m : Marks) {o : Option ℕ} → o ≡ result_ok r → o ≡ None → (place_of r m).ok ≡ false
walk_breached r m p q = go r (sym p ∙ q)
  where
    go : (r : Result ℕ ℕ) → result_ok r ≡ None → (place_of r m).ok ≡ false
    go (Ok x) h = let z : ◌≡◌ {A = ℕ} 0 1 = cc in absurd (omega arith)
    go (Err x) h = refl

-- ---- a walk never goes back
forth_on : (stop named low high at : ℕ) (m : Marks) (fs : List Field) → at ≤ (walk_on stop named low high at m fs).at
unfolding walk_on
forth_on stop named low high at m [] = omega arith
forth_on stop named low high at m (f ∷ fs) =
    go (eqb f.tag stop) (strays (slot_of f.tag) named low high (is_some (get_or m.spans (slot_of f.tag) None)))
    (forth_on stop named low high (soh_at at f + 1) (mark_at at f m) fs)
  where
    go : (a b : Bool) → soh_at at f + 1 ≤ (walk_on stop named low high (soh_at at f + 1) (mark_at at f m) fs).at
        → at
        ≤ (cond a (record { ok = true; at = at; marks = m })
        (cond b (record { ok = false; at = at; marks = m }) (walk_on stop named low high (soh_at at f + 1) (mark_at at f m) fs))).at
    go true b i = omega arith
    go false true i = omega arith
    go false false i = omega (arith, i)

pub walked_forth : {s : List ℕ} {start stop named low high : ℕ} {m : Marks} {p : Place} → Walk s start stop named low high m p → start ≤ p.at
walked_forth w = rw w.exact (forth_on _ _ _ _ _ _ _)

-- ---- a walk that starts with no marks
module _ {s : List ℕ} {start stop named low high : ℕ} (n : named ≤ 21) {p : Place} (w : Walk s start stop named low high no_marks p) where
  pub tells_all : Tells named s p (split_at stop named low high (left s start))
  tells_all = w.tells [] (none_held named s n) (tidy_nil (below named) (between low high))

  pub walk_untidy : p.ok ≡ false → tidy (below named) (between low high) (up_to stop (left s start)) ≡ false
  walk_untidy q = was_untidy s stop named low high [] (left s start) p q tells_all

  pub walk_tidy : p.ok ≡ true → Tidy s stop named low high [] (left s start) p
  walk_tidy q = was_tidy s stop named low high [] (left s start) p q tells_all
