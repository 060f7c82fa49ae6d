-- Fields one at a time: a chain of them, and those up to bytes that are none. Assumes nothing.
use Rattle.std.specs.Prelude.{Option, Some, None}
use mathlib.Core.Path.{◌≡◌, refl, sym, ap, ◌∙◌}
use mathlib.Core.List.{List, [], ◌∷◌, ◌++◌, append_assoc, append-nil}
use mathlib.Core.Bool.{Bool, true, false, cond, ◌&&◌}
use Prim.Native.Nat.{ℕ, suc, ◌+◌, ◌-◌, ◌≤◌, ◌<◌}
use native.Mathlib.Omega.{arith}
use native.Mathlib.Nat.{add_assoc}
use native.Mathlib.Numerals.{add-one}
use borrow.Author.Tests.{ltb-true, ltb-false, le-leb}
use lib.Dec.{leb, ltb, eqb}
use lib.ListN.{length, get_or, take, drop, length-drop, take-append-drop, drop_of_length-le}
use lib.Seq.{drop-cons, drop-drop, length-take-le}
use Rattle.digits.specs.Digits.{ranged_of}
use Rattle.digits.proofs.Ranges.{ranged_in}
use Rattle.text.specs.Text.{decimal, free}
use Rattle.chain.specs.Fields.{Field, field, ahead, before, behind, named, field_of, then, closed, cut, fields_of}
use Rattle.chain.specs.Bytes.{field_bytes, fair}
use Rattle.chain.specs.Places.{step, part, first_of, placed, field_at, is_some, broken, onto, over, run, left}
use Rattle.chain.specs.declared.Step.{Step}
use Rattle.chain.proofs.Ahead.{ahead_le, at_ahead, before_free, free_drop, drop_take}
use Rattle.chain.proofs.Shortest.{ranged_whole, decimal_back}

-- ---- bytes that are read field by field, whatever is made of the fields
pub record Reads (A : Type 0) : Type 0 where
  pub bad : A
  pub over : List ℕ → A
  pub more : Option Field → A → A
  pub read : List ℕ → List ℕ → A
  pub rest : (b : ℕ) (bs : List ℕ) → over (b ∷ bs) ≡ bad
  pub none : (r : A) → more None r ≡ bad
  pub nil : (p : List ℕ) → read p [] ≡ over p
  pub cons : (p : List ℕ) (b : ℕ) (bs : List ℕ) → read p (b ∷ bs) ≡ cond (eqb b 1) (more (field_of p) (read [] bs)) (read (p ++ (b ∷ [])) bs)

module _ {A : Type 0} (x : Reads A) where
  -- up to the next SOH
  to_soh : (bs p : List ℕ) → ahead 1 bs < length bs → x.read p bs ≡ x.more (field_of (p ++ before 1 bs)) (x.read [] (behind 1 bs))
  to_soh [] p h = absurd (omega arith)
  to_soh (b ∷ bs) p h = x.cons p b bs ∙ go (eqb b 1) h (λ l. to_soh bs (p ++ (b ∷ [])) l)
    where
      go : (t : Bool) → cond t 0 (ahead 1 bs + 1) < suc (length bs)
          → (ahead 1 bs < length bs → x.read (p ++ (b ∷ [])) bs ≡ x.more (field_of ((p ++ (b ∷ [])) ++ before 1 bs)) (x.read [] (behind 1 bs)))
          → cond t (x.more (field_of p) (x.read [] bs)) (x.read (p ++ (b ∷ [])) bs)
          ≡ x.more (field_of (p ++ take (cond t 0 (ahead 1 bs + 1)) (b ∷ bs))) (x.read [] (drop (cond t 0 (ahead 1 bs + 1) + 1) (b ∷ bs)))
      go true l i = rw append-nil
      go false l i = simp add-one (simp (add-one, append_assoc) at (i (omega arith)))

  -- no SOH
  to_end : (bs p : List ℕ) → ahead 1 bs ≡ length bs → x.read p bs ≡ x.over (p ++ bs)
  to_end [] p h = x.nil p ∙ rw append-nil
  to_end (b ∷ bs) p h = x.cons p b bs ∙ go (eqb b 1) h (λ q. to_end bs (p ++ (b ∷ [])) q)
    where
      go : (t : Bool) → cond t 0 (ahead 1 bs + 1) ≡ suc (length bs)
          → (ahead 1 bs ≡ length bs → x.read (p ++ (b ∷ [])) bs ≡ x.over ((p ++ (b ∷ [])) ++ bs))
          → cond t (x.more (field_of p) (x.read [] bs)) (x.read (p ++ (b ∷ [])) bs) ≡ x.over (p ++ (b ∷ bs))
      go true q i = absurd (omega arith)
      go false q i = simp append_assoc at (i (omega arith))

  -- what a step says of what is left
  abbrev pub after : List ℕ → Option Step → A
  after s None = x.bad
  after s (Some i) = x.more (Some (field i.tag (part i.from i.to s))) (x.read [] (drop (i.to + 1) s))

-- ---- what a field's bytes are
pub record Parted (p : List ℕ) (f : Field) : Type 0 where
  pub tag : ranged_of 5 1 99999 (before 61 p) ≡ Some f.tag
  pub text : behind 61 p ≡ f.text
  pub some : 1 ≤ length f.text

pub parted : (p : List ℕ) (f : Field) → field_of p ≡ Some f → Parted p f
unfolding field_of
parted p f e = go (ranged_of 5 1 99999 (before 61 p)) (behind 61 p) refl refl e
  where
    go : (r : Option ℕ) (v : List ℕ) → ranged_of 5 1 99999 (before 61 p) ≡ r → behind 61 p ≡ v → named r v ≡ Some f → Parted p f
    go None v a b h = let z : ◌≡◌ {A = ℕ} 0 1 = cc in absurd (omega arith)
    go (Some t) [] a b h = let z : ◌≡◌ {A = ℕ} 0 1 = cc in absurd (omega arith)
    go (Some t) (x ∷ v) a b h =
        let q : field t (x ∷ v) ≡ f = cc in
        rw (← q) (record { tag = a; text = b; some = omega arith })

module _ (p : List ℕ) (f : Field) (h : field_of p ≡ Some f) where
  pub equals_in : ahead 61 p < length p
  equals_in = let x = parted p f h in omega (arith, ap length x.text, length-drop (ahead 61 p + 1) p, x.some)

  -- the tag, '=' and the value are all of it
  pub parted_bytes : p ≡ decimal f.tag ++ (61 ∷ f.text)
  parted_bytes =
      let x = parted p f h in
      let d : decimal f.tag ≡ before 61 p = decimal_back 5 (before 61 p) (ranged_whole 5 1 99999 (before 61 p) x.tag) in
      rw (d, ← x.text) (sym (ap (λ (r : List ℕ). before 61 p ++ r) (sym (at_ahead 61 p equals_in)) ∙ take-append-drop (ahead 61 p) p))

  pub parted_fair : free 1 p ≡ true → fair f ≡ true
  unfolding fair
  parted_fair g =
      let x = parted p f h in
      let i = ranged_in 5 1 99999 (before 61 p) x.tag in
      rw (
        le-leb 1 f.tag i.low,
        le-leb f.tag 99999 i.high,
        le-leb 1 (length f.text) x.some,
        ← x.text,
      ) (free_drop 1 (ahead 61 p + 1) p g)

-- a field that stands at at..to
pub record Found (s : List ℕ) (at t from to : ℕ) : Type 0 where
  pub low : at < from
  pub some : from < to
  pub high : to < length s
  pub fair : fair (field t (part from to s)) ≡ true
  pub same : drop at s ≡ field_bytes (field t (part from to s)) ++ drop (to + 1) s

module _ (s : List ℕ) (at : ℕ) where
  abbrev rest : List ℕ
  rest = drop at s

  abbrev k : ℕ
  k = ahead 1 rest

  behind_is : behind 1 rest ≡ drop (first_of 1 s at + 1) s
  behind_is = rw (drop-drop, ← add_assoc at k 1)

  module _ (f : Field) (high : first_of 1 s at < length s) (h : field_of (before 1 rest) ≡ Some f) where
    abbrev m : ℕ
    m = ahead 61 (before 1 rest)

    piece_length : length (before 1 rest) ≡ k
    piece_length = length-take-le k rest (rw length-drop (omega arith))

    places : (m < k) × (length f.text ≡ k - (m + 1))
    places =
        let x = parted (before 1 rest) f h in
        let i = equals_in (before 1 rest) f h in
        (omega (arith, piece_length), omega (arith, ap length x.text, length-drop (m + 1) (before 1 rest), piece_length))

    from_is : first_of 1 s at - length f.text ≡ at + (m + 1)
    from_is = omega (arith, places.0, places.1)

    text_is : part (first_of 1 s at - length f.text) (first_of 1 s at) s ≡ f.text
    text_is =
        let w : first_of 1 s at - (at + (m + 1)) ≡ k - (m + 1) = omega arith in
        rw (from_is, w, ← drop-drop (m + 1) at s) (sym (drop_take (m + 1) k rest) ∙ (parted (before 1 rest) f h).text)

    -- the piece, its SOH, and the rest
    piece : rest ≡ (decimal f.tag ++ (61 ∷ f.text)) ++ (1 ∷ drop (first_of 1 s at + 1) s)
    piece =
        let r = drop (first_of 1 s at + 1) s in
        let l : k < length rest = rw length-drop (omega arith) in
        let a : drop k rest ≡ 1 ∷ r = at_ahead 1 rest l ∙ ap (λ (u : List ℕ). 1 ∷ u) behind_is in
        sym (take-append-drop k rest) ∙ ap (λ (u : List ℕ). before 1 rest ++ u) a ∙ ap (λ (p : List ℕ). p ++ (1 ∷ r)) (parted_bytes (before 1 rest) f h)

    piece_found : Found s at f.tag (first_of 1 s at - length f.text) (first_of 1 s at)
    unfolding field_bytes
    piece_found =
        record {
          low = omega (arith, from_is);
          some = omega (arith, places.0, (parted (before 1 rest) f h).some);
          high = high;
          fair = rw text_is (parted_fair (before 1 rest) f h (before_free 1 rest));
          same = rw text_is (piece ∙ simp append_assoc);
        }

  -- what is left, by the field at its start
  by_step : {A : Type 0} (x : Reads A) → at < length s → x.read [] rest ≡ after x s (field_at s at)
  unfolding field_at
  by_step x low = go (ltb (first_of 1 s at) (length s)) refl
    where
      pick : (o : Option Field) → field_of (before 1 rest) ≡ o → first_of 1 s at < length s
          → x.more o (x.read [] (drop (first_of 1 s at + 1) s)) ≡ after x s (placed (first_of 1 s at) o)
      pick None e l = x.none (x.read [] (drop (first_of 1 s at + 1) s))
      pick (Some f) e l = rw (text_is f l e)

      go : (z : Bool) → ltb (first_of 1 s at) (length s) ≡ z
          → x.read [] rest ≡ after x s (cond z (placed (first_of 1 s at) (field_of (before 1 rest))) None)
      go true e =
          let l : first_of 1 s at < length s = ltb-true (first_of 1 s at) (length s) e in
          to_soh x rest [] (rw length-drop (omega arith)) ∙ rw behind_is (pick (field_of (before 1 rest)) refl l)
      go false e =
          let l : length s ≤ first_of 1 s at = ltb-false (first_of 1 s at) (length s) e in
          to_end x rest [] (rw length-drop (omega (arith, ahead_le 1 rest, length-drop at s)))
          ∙ ap x.over (drop-cons s at 0 low) ∙ x.rest (get_or s at 0) (drop (suc at) s)

  -- what is known of the field at a place
  pub found : {t from to : ℕ} → field_at s at ≡ Some (step t from to) → Found s at t from to
  unfolding field_at
  found {t} {from} {to} e = go (ltb (first_of 1 s at) (length s)) (field_of (before 1 rest)) refl refl e
    where
      go : (z : Bool) (o : Option Field) → ltb (first_of 1 s at) (length s) ≡ z → field_of (before 1 rest) ≡ o
          → cond z (placed (first_of 1 s at) o) None ≡ Some (step t from to) → Found s at t from to
      go true None p q h = let z : ◌≡◌ {A = ℕ} 0 1 = cc in absurd (omega arith)
      go true (Some f) p q h =
          let i : step f.tag (first_of 1 s at - length f.text) (first_of 1 s at) ≡ step t from to = cc in
          let a : f.tag ≡ t = ap (λ (x : Step). x.tag) i in
          let b : first_of 1 s at - length f.text ≡ from = ap (λ (x : Step). x.from) i in
          let d : first_of 1 s at ≡ to = ap (λ (x : Step). x.to) i in
          rw (← a, ← b, ← d) (piece_found f (ltb-true (first_of 1 s at) (length s) p) q)
      go false o p q h = let z : ◌≡◌ {A = ℕ} 0 1 = cc in absurd (omega arith)

-- ---- the walk along a chain
chain : Reads (Option (List Field))
unfolding cut
chain = record { bad = None; over = closed; more = then; read = cut; rest = λ b bs. refl; none = λ r. refl; nil = λ p. refl; cons = λ p b bs. refl }

is_some_then : (f : Field) (r : Option (List Field)) → is_some (then (Some f) r) ≡ is_some r
is_some_then f None = refl
is_some_then f (Some fs) = refl

module _ (s : List ℕ) (at : ℕ) where
  pub ends : at < length s → field_at s at ≡ None → is_some (fields_of (drop at s)) ≡ false
  unfolding fields_of chain
  ends l e = rw (by_step s at chain l, e)

  pub goes_on_lem : {t from to : ℕ} → at < length s → field_at s at ≡ Some (step t from to)
      → is_some (fields_of (drop at s)) ≡ is_some (fields_of (drop (to + 1) s))
  unfolding fields_of chain
  goes_on_lem {t} {from} {to} l e = rw (by_step s at chain l, e) (is_some_then (field t (part from to s)) (fields_of (drop (to + 1) s)))

  pub all_read : length s ≤ at → fields_of (drop at s) ≡ Some []
  unfolding fields_of cut
  all_read h = rw (drop_of_length-le s h)

-- ---- the walk along what may be none
fields : Reads (List Field)
unfolding run
fields = record { bad = broken ∷ []; over = over; more = onto; read = run; rest = λ b bs. refl; none = λ r. refl; nil = λ p. refl; cons = λ p b bs. refl }

module _ (s : List ℕ) (at : ℕ) where
  pub walked : length s ≤ at → left s at ≡ []
  unfolding run
  walked h = rw (drop_of_length-le s h)

  pub left_on : {t from to : ℕ} → at < length s → field_at s at ≡ Some (step t from to) → left s at ≡ field t (part from to s) ∷ left s (to + 1)
  unfolding fields
  left_on l e = by_step s at fields l ∙ rw e

  pub left_no : at < length s → field_at s at ≡ None → left s at ≡ broken ∷ []
  unfolding fields
  left_no l e = by_step s at fields l ∙ rw e

-- the fields that are left are the chain, or end with what is none
abbrev Comes : Option (List Field) → List Field → Type 0
Comes None gs = (fs : List Field) × (gs ≡ fs ++ (broken ∷ []))
Comes (Some fs) gs = gs ≡ fs

run_comes : (bs p : List ℕ) → Comes (cut p bs) (run p bs)
unfolding cut run
run_comes [] [] = refl
run_comes [] (b ∷ p) = ([], refl)
run_comes (b ∷ bs) p = go (eqb b 1) (run_comes bs []) (run_comes bs (p ++ (b ∷ [])))
  where
    one : (o : Option Field) (r : Option (List Field)) → Comes r (run [] bs) → Comes (then o r) (onto o (run [] bs))
    one None r h = ([], refl)
    one (Some f) None h = (f ∷ h.0, ap (λ (gs : List Field). f ∷ gs) h.1)
    one (Some f) (Some fs) h = ap (λ (gs : List Field). f ∷ gs) h

    go : (t : Bool) → Comes (cut [] bs) (run [] bs) → Comes (cut (p ++ (b ∷ [])) bs) (run (p ++ (b ∷ [])) bs)
        → Comes (cond t (then (field_of p) (cut [] bs)) (cut (p ++ (b ∷ [])) bs)) (cond t (onto (field_of p) (run [] bs)) (run (p ++ (b ∷ [])) bs))
    go true i j = one (field_of p) (cut [] bs) i
    go false i j = j

module _ (s : List ℕ) (at : ℕ) where
  pub left_whole : {fs : List Field} → fields_of (drop at s) ≡ Some fs → left s at ≡ fs
  unfolding fields_of
  left_whole e = rw e at (run_comes (drop at s) [])

  pub left_broken : fields_of (drop at s) ≡ None → (fs : List Field) × (left s at ≡ fs ++ (broken ∷ []))
  unfolding fields_of
  left_broken e = rw e at (run_comes (drop at s) [])

-- every tag is at least 1
abbrev pub all_tagged : List Field → Bool
all_tagged [] = true
all_tagged (f ∷ fs) = leb 1 f.tag && all_tagged fs

run_tagged : (bs p : List ℕ) → all_tagged (run p bs) ≡ true
unfolding run
run_tagged [] [] = refl
run_tagged [] (b ∷ p) = refl
run_tagged (b ∷ bs) p = go (eqb b 1) (run_tagged bs []) (run_tagged bs (p ++ (b ∷ [])))
  where
    one : (o : Option Field) → field_of p ≡ o → all_tagged (run [] bs) ≡ true → all_tagged (onto o (run [] bs)) ≡ true
    one None q i = refl
    one (Some f) q i = rw (le-leb 1 f.tag (ranged_in 5 1 99999 (before 61 p) (parted p f q).tag).low, i)

    go : (t : Bool) → all_tagged (run [] bs) ≡ true → all_tagged (run (p ++ (b ∷ [])) bs) ≡ true
        → all_tagged (cond t (onto (field_of p) (run [] bs)) (run (p ++ (b ∷ [])) bs)) ≡ true
    go true i j = one (field_of p) refl i
    go false i j = j

pub left_tagged : (s : List ℕ) (at : ℕ) → all_tagged (left s at) ≡ true
left_tagged s at = run_tagged (drop at s) []
