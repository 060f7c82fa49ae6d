-- Reading and writing a chain of fields are inverse to each other. Assumes nothing.
use Rattle.std.specs.Prelude.{Option, Some, None}
use mathlib.Core.Path.{◌≡◌, refl, sym, ap, ◌∙◌}
use mathlib.Core.List.{List, [], ◌∷◌, ◌++◌, append_assoc, append-nil}
use mathlib.Core.Bool.{Bool, true, false, cond, not, ◌&&◌, false≢true}
use Prim.Native.Nat.{ℕ, ◌+◌, ◌-◌, ◌≤◌, ◌<◌}
use native.Mathlib.Omega.{arith}
use borrow.Author.Tests.{leb-true, le-leb, lt-ltb, eqb-true}
use lib.Dec.{leb, eqb}
use lib.ListN.{length, drop, length-append, length-drop}
use lib.Seq.{take-append_seam, drop-append_seam, drop-append-add, drop-drop, take_at}
use Rattle.digits.specs.Digits.{ranged_of}
use Rattle.digits.proofs.Width.{both}
use Rattle.digits.proofs.Ranges.{ranged_back}
use Rattle.text.specs.Text.{decimal, free}
use Rattle.text.proofs.Written.{whole_back, digits_decimal}
use Rattle.chain.specs.Fields.{Field, ahead, before, field_of, then, cut, fields_of}
use Rattle.chain.specs.Bytes.{field_bytes, bytes_of, fair, all_fair}
use Rattle.chain.specs.Places.{step, part, first_of, field_at}
use Rattle.chain.proofs.Ahead.{ahead_at, digits_free, free_append}
use Rattle.chain.proofs.Reading.{a_value}
use Rattle.chain.proofs.Walk.{parted_bytes, parted_fair}

-- ---- a fair field
pub record Fair (f : Field) : Type 0 where
  pub low : 1 ≤ f.tag
  pub high : f.tag ≤ 99999
  pub some : 1 ≤ length f.text
  pub free : free 1 f.text ≡ true

pub fair_is : (f : Field) → fair f ≡ true → Fair f
unfolding fair
fair_is f h =
    let a = both (leb 1 f.tag && leb f.tag 99999) (leb 1 (length f.text) && free 1 f.text) h in
    let b = both (leb 1 f.tag) (leb f.tag 99999) a.0 in
    let c = both (leb 1 (length f.text)) (free 1 f.text) a.1 in
    record { low = leb-true 1 f.tag b.0; high = leb-true f.tag 99999 b.1; some = leb-true 1 (length f.text) c.0; free = c.1 }

pub is_fair : (f : Field) → Fair f → fair f ≡ true
unfolding fair
is_fair f h = rw (le-leb 1 f.tag h.low, le-leb f.tag 99999 h.high, le-leb 1 (length f.text) h.some, h.free)

pub with_soh : (f : Field) (r : List ℕ) → field_bytes f ++ r ≡ (decimal f.tag ++ (61 ∷ f.text)) ++ (1 ∷ r)
unfolding field_bytes
with_soh f r = simp append_assoc

module _ (f : Field) (h : Fair f) where
  abbrev piece : List ℕ
  piece = decimal f.tag ++ (61 ∷ f.text)

  -- a field up to its SOH is read back
  pub field_back : field_of piece ≡ Some f
  unfolding field_of
  field_back =
      let t = f.tag in
      let d = decimal t in
      let a : ahead 61 piece ≡ length d = ahead_at 61 d f.text (digits_free 61 d refl (digits_decimal t)) in
      let r : ranged_of 5 1 99999 d ≡ Some t = ranged_back 5 1 99999 d (whole_back 5 t (omega arith) (omega arith) (omega (arith, h.high))) h.low h.high in
      rw (a, take-append_seam d (61 ∷ f.text), drop-append-add d (61 ∷ f.text) 1, r) (a_value t f.text h.some)

  -- no SOH stands before its own
  pub piece_free : free 1 piece ≡ true
  piece_free = free_append 1 (decimal f.tag) (61 ∷ f.text) (digits_free 1 (decimal f.tag) refl (digits_decimal f.tag)) h.free

-- ---- a chain written is read back
cut_run : (bs p r : List ℕ) → free 1 bs ≡ true → cut p (bs ++ (1 ∷ r)) ≡ then (field_of (p ++ bs)) (cut [] r)
unfolding cut
cut_run [] p r h = rw append-nil
cut_run (b ∷ bs) p r h = go (eqb b 1) h (λ e. cut_run bs (p ++ (b ∷ [])) r e)
  where
    go : (t : Bool) → not t && free 1 bs ≡ true
        → (free 1 bs ≡ true → cut (p ++ (b ∷ [])) (bs ++ (1 ∷ r)) ≡ then (field_of ((p ++ (b ∷ [])) ++ bs)) (cut [] r))
        → cond t (then (field_of p) (cut [] (bs ++ (1 ∷ r)))) (cut (p ++ (b ∷ [])) (bs ++ (1 ∷ r))) ≡ then (field_of (p ++ (b ∷ bs))) (cut [] r)
    go true e i = absurd (false≢true e)
    go false e i = simp append_assoc at (i e)

-- a fair field comes first
pub first_field : (f : Field) (r : List ℕ) → fair f ≡ true → fields_of (field_bytes f ++ r) ≡ then (Some f) (fields_of r)
unfolding fields_of
first_field f r h =
    let x = fair_is f h in
    rw (with_soh f r) (cut_run (decimal f.tag ++ (61 ∷ f.text)) [] r (piece_free f x) ∙ ap (λ (o : Option Field). then o (cut [] r)) (field_back f x))

pub fields_back : (fs : List Field) → all_fair fs ≡ true → fields_of (bytes_of fs) ≡ Some fs
unfolding bytes_of fields_of cut
fields_back [] h = refl
fields_back (f ∷ fs) h =
    let d = both (fair f) (all_fair fs) h in
    first_field f (bytes_of fs) d.0 ∙ ap (then (Some f)) (fields_back fs d.1)

-- ---- a chain read is written again
pub record Chain (s : List ℕ) (fs : List Field) : Type 0 where
  pub same : bytes_of fs ≡ s
  pub fair : all_fair fs ≡ true

cut_only : (bs p : List ℕ) (fs : List Field) → free 1 p ≡ true → cut p bs ≡ Some fs → Chain (p ++ bs) fs
unfolding cut bytes_of
cut_only [] [] fs g e = let q : [] ≡ fs = cc in rw (← q) (record { same = refl; fair = refl })
cut_only [] (x ∷ p) fs g e = let z : ◌≡◌ {A = ℕ} 0 1 = cc in absurd (omega arith)
cut_only (b ∷ bs) p fs g e = go (eqb b 1) refl e (λ gs h. cut_only bs [] gs refl h) (λ h k. cut_only bs (p ++ (b ∷ [])) fs h k)
  where
    one : (o : Option Field) (r : Option (List Field)) → b ≡ 1 → field_of p ≡ o → cut [] bs ≡ r
        → ((gs : List Field) → cut [] bs ≡ Some gs → Chain bs gs)
        → then o r ≡ Some fs → Chain (p ++ (b ∷ bs)) fs
    one None r q x y i h = let z : ◌≡◌ {A = ℕ} 0 1 = cc in absurd (omega arith)
    one (Some f) None q x y i h = let z : ◌≡◌ {A = ℕ} 0 1 = cc in absurd (omega arith)
    one (Some f) (Some gs) q x y i h =
        let c = i gs y in
        let u : f ∷ gs ≡ fs = cc in
        rw (← u, q) (record {
          same = with_soh f (bytes_of gs) ∙ ap (λ (r : List ℕ). (decimal f.tag ++ (61 ∷ f.text)) ++ (1 ∷ r)) c.same ∙ ap (λ (l : List ℕ). l ++ (1 ∷ bs)) (sym (parted_bytes p f x));
          fair = rw (parted_fair p f x g, c.fair);
        })

    go : (t : Bool) → eqb b 1 ≡ t → cond t (then (field_of p) (cut [] bs)) (cut (p ++ (b ∷ [])) bs) ≡ Some fs
        → ((gs : List Field) → cut [] bs ≡ Some gs → Chain bs gs)
        → (free 1 (p ++ (b ∷ [])) ≡ true → cut (p ++ (b ∷ [])) bs ≡ Some fs → Chain ((p ++ (b ∷ [])) ++ bs) fs)
        → Chain (p ++ (b ∷ bs)) fs
    go true q h i j = one (field_of p) (cut [] bs) (eqb-true b 1 q) refl refl i h
    go false q h i j = rw append_assoc at (j (free_append 1 p (b ∷ []) g (rw q)) h)

pub fields_only : (s : List ℕ) (fs : List Field) → fields_of s ≡ Some fs → Chain s fs
unfolding fields_of
fields_only s fs e = cut_only s [] fs refl e

-- ---- a field written at a place is found there
pub record Stands (s : List ℕ) (at : ℕ) (f : Field) (r : List ℕ) (from to : ℕ) : Type 0 where
  pub step : field_at s at ≡ Some (step f.tag from to)
  pub text : part from to s ≡ f.text
  pub next : drop (to + 1) s ≡ r

pub length_field : (f : Field) → length (field_bytes f) ≡ length (decimal f.tag) + 2 + length f.text
unfolding field_bytes
length_field f = rw (length-append (decimal f.tag), length-append f.text) (omega arith)

module _ (s : List ℕ) (at : ℕ) (f : Field) (r : List ℕ) (h : fair f ≡ true) (e : drop at s ≡ field_bytes f ++ r) where
  abbrev w : ℕ
  w = length (decimal f.tag)

  split : drop at s ≡ (decimal f.tag ++ (61 ∷ f.text)) ++ (1 ∷ r)
  split = e ∙ with_soh f r

  abbrev q : List ℕ
  q = decimal f.tag ++ (61 ∷ f.text)

  length_q : length q ≡ w + 1 + length f.text
  length_q = rw length-append (omega arith)

  ahead_is : ahead 1 (drop at s) ≡ w + 1 + length f.text
  ahead_is = rw (split, ahead_at 1 q r (piece_free f (fair_is f h))) length_q

  in_s : at + (w + 1 + length f.text) < length s
  in_s = omega (arith, ap length split, length-drop at s, length-append q (1 ∷ r), length_q)

  pub stands : Stands s at f r (at + (w + 1)) (at + (w + 1) + length f.text)
  unfolding field_at
  stands =
      let x = fair_is f h in
      let d = decimal f.tag in
      let to = at + (w + 1) + length f.text in
      let b : before 1 (drop at s) ≡ q = rw (ahead_is, split) (take_at q (1 ∷ r) (w + 1 + length f.text) length_q) in
      let t : first_of 1 s at ≡ to = omega (arith, ahead_is) in
      let u : to - length f.text ≡ at + (w + 1) = omega arith in
      let v : to - (at + (w + 1)) ≡ length f.text = omega arith in
      let a : drop (at + (w + 1)) s ≡ f.text ++ (1 ∷ r) = rw (← drop-drop (w + 1) at s, split, append_assoc d (61 ∷ f.text) (1 ∷ r)) (drop-append-add d (61 ∷ (f.text ++ (1 ∷ r))) 1) in
      let y : to + 1 ≡ at + length (field_bytes f) = omega (arith, length_field f) in
      record {
        step = rw (b, t, lt-ltb to (length s) (omega (arith, in_s)), field_back f x, u);
        text = rw (v, a) (take-append_seam f.text (1 ∷ r));
        next = rw (y, ← drop-drop (length (field_bytes f)) at s, e) (drop-append_seam (field_bytes f) r);
      }
