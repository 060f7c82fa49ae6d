-- At most one stretch is taken at a place, and it is the one that tag 9 names. Assumes nothing.
use Rattle.std.specs.Prelude.{Some, None, Err}
use mathlib.Core.Path.{◌≡◌, refl, sym, ap, ◌∙◌}
use mathlib.Core.List.{List, [], ◌∷◌, ◌++◌, append_assoc}
use mathlib.Core.Bool.{Bool, true, false, cond, ◌&&◌, false≢true}
use mathlib.Core.Logic.{◌⊎◌, inl, inr}
use Prim.Native.Nat.{ℕ, ◌+◌, ◌-◌, ◌≤◌, ◌<◌}
use native.Mathlib.Omega.{arith}
use native.Mathlib.Nat.{sub-zero, add-zero}
use borrow.Author.Tests.{leb-true, leb-false, le-leb, eqb-true, eqb-false, ne_eqb}
use lib.Dec.{leb, eqb}
use lib.ListN.{length, get_or, take, drop, take-append-drop}
use lib.Seq.{take-take, take-append-add, length-take-le, get_or-drop}
use Rattle.digits.proofs.Width.{both}
use Rattle.text.specs.Text.{width_to, width_of, decimal, fixed}
use Rattle.text.proofs.Written.{length_decimal, width_le, width_pos}
use Rattle.chain.specs.Fields.{Field, field}
use Rattle.chain.specs.Bytes.{field_bytes, bytes_of, fair, all_fair}
use Rattle.chain.proofs.Inverse.{Stands, stands, length_field, fair_is}
use Rattle.frame.specs.Frames.{frame_of}
use Rattle.frame.specs.ByPlace.{preamble}
use Rattle.frame.specs.declared.FrameError.{FrameError}
use Rattle.frame.proofs.Well.{Well, tags, nine_fair, whole_is, whole_length, inner_length, count_back}
use Rattle.frame.proofs.Framing.{Held, frame_cases}
use Rattle.stretch.specs.Stretches.{passes, Taken, some_length, longest, named_of, if_taken, stretch_of, stretch_at}
use Rattle.stretch.specs.Windows.{beginning}

-- ---- what passes holds but for its type
good_held : (t : List ℕ) → passes (frame_of t) ≡ true → Held t
good_held t g = go (frame_cases t)
  where
    go : (frame_of t ≡ Err FrameError.BadFrame) ⊎ Held t → Held t
    go (inl q) = absurd (false≢true (ap passes (sym q) ∙ g))
    go (inr h) = h

nine_digit : decimal 9 ≡ 57 ∷ []
unfolding decimal width_of width_to fixed
nine_digit = refl

-- ---- and its head names its length
module _ (t c : List ℕ) (body : List Field) (v : ℕ) (x : Well t c body v) where
  abbrev n : ℕ
  n = length (bytes_of (field 35 c ∷ body))

  abbrev d : ℕ
  d = length (decimal n)

  abbrev nine : Field
  nine = field 9 (decimal n)

  abbrev more : List ℕ
  more = field_bytes (field 35 c) ++ (bytes_of body ++ field_bytes (field 10 (fixed 3 v)))

  whole : t ≡ preamble ++ (field_bytes nine ++ more)
  whole = x.same ∙ whole_is c body v

  digits_five : d ≤ 5
  unfolding width_of
  digits_five = rw length_decimal (width_le 17 n 5 (omega arith) (omega (arith, whole_length t c body v x, x.short)))

  nine_length : length (field_bytes nine) ≡ 3 + d
  nine_length = length_field nine ∙ rw tags.0 (omega arith)

  head_at : take 18 t ≡ preamble ++ (field_bytes nine ++ take (5 - d) more)
  head_at =
      let q : 8 ≡ length (field_bytes nine) + (5 - d) = omega (arith, nine_length, digits_five) in
      let p : take 8 (field_bytes nine ++ more) ≡ field_bytes nine ++ take (5 - d) more = ap (λ (k : ℕ). take k (field_bytes nine ++ more)) q ∙ take-append-add (field_bytes nine) more (5 - d) in
      ap (take 18) whole ∙ ap (λ (l : List ℕ). preamble ++ l) p

  head_stands : Stands (take 18 t) 10 nine (take (5 - d) more) 12 (12 + d)
  head_stands = rw tags.0 at (stands (take 18 t) 10 nine (take (5 - d) more) (nine_fair n) (rw head_at))

  well_named : named_of (take 18 t) ≡ length t
  unfolding named_of
  well_named =
      let b : take 10 (take 18 t) ≡ preamble = rw head_at in
      rw (b, head_stands.step, head_stands.text, count_back t c body v x) (omega (arith, whole_length t c body v x))

  abbrev well_rest : List ℕ
  well_rest = (decimal n ++ (1 ∷ [])) ++ more

  well_begins : t ≡ beginning ++ well_rest
  unfolding field_bytes
  well_begins = whole ∙ rw nine_digit

  -- 8 takes 10 bytes, 9 and its number 4, 35 and its type 5, and 10 takes 7
  well_long : 26 ≤ length t
  unfolding width_of
  well_long =
      let f = fair_is (field 35 c) (both (fair (field 35 c)) (all_fair body) x.fair).0 in
      omega (arith, whole_length t c body v x, inner_length t c body v x, f.some, length_decimal n, width_pos 17 n)

-- ---- a stretch that is taken
pub record Bounds (s : List ℕ) (n : ℕ) : Type 0 where
  pub low : 26 ≤ n
  pub high : n ≤ longest
  pub name : named_of (take 18 s) ≡ n
  pub rest : List ℕ
  pub begins : s ≡ beginning ++ rest

pub taken_named : (s : List ℕ) {n : ℕ} → Taken s n → Bounds s n
taken_named s {n} k =
    let t = take n s in
    let h = good_held t k.good in
    let l : length t ≡ n = length-take-le n s k.inside in
    let a : 26 ≤ n = omega (arith, well_long t h.c h.body h.v h.well) in
    let w : take 18 t ≡ take 18 s = take-take 18 n s (omega arith) in
    record {
      low = a;
      high = omega (arith, h.well.short);
      name = ap named_of (sym w) ∙ well_named t h.c h.body h.v h.well ∙ l;
      rest = well_rest t h.c h.body h.v h.well ++ drop n s;
      begins = sym (take-append-drop n s) ∙ ap (λ (l : List ℕ). l ++ drop n s) (well_begins t h.c h.body h.v h.well) ∙ append_assoc beginning (well_rest t h.c h.body h.v h.well) (drop n s);
    }

-- at most one
pub one_stretch : (s : List ℕ) {n m : ℕ} → Taken s n → Taken s m → n ≡ m
one_stretch s a b = sym (taken_named s a).name ∙ (taken_named s b).name

-- ---- it is found, and nothing else is
pub taken_stretch : (s : List ℕ) (n : ℕ) → Taken s n → stretch_of s ≡ n
unfolding stretch_of
taken_stretch s n h = rw ((taken_named s h).name, le-leb n (length s) h.inside, h.good)

pub stretch_taken : (s : List ℕ) → 1 ≤ stretch_of s → Taken s (stretch_of s)
unfolding stretch_of
stretch_taken s = go (named_of (take 18 s))
  where
    go : (n : ℕ) → 1 ≤ if_taken n s → Taken s (if_taken n s)
    go n = by (leb n (length s)) (passes (frame_of (take n s))) refl refl
      where
        by : (a b : Bool) → leb n (length s) ≡ a → passes (frame_of (take n s)) ≡ b → 1 ≤ cond (a && b) n 0 → Taken s (cond (a && b) n 0)
        by true true p q h = record { inside = leb-true n (length s) p; good = q }
        by true false p q h = absurd (omega arith)
        by false b p q h = absurd (omega arith)

pub none_taken : (s : List ℕ) → ((n : ℕ) → Taken s n → ⊥) → stretch_of s ≡ 0
none_taken s f = go (leb 1 (stretch_of s)) refl
  where
    go : (b : Bool) → leb 1 (stretch_of s) ≡ b → stretch_of s ≡ 0
    go true e = absurd (f (stretch_of s) (stretch_taken s (leb-true 1 (stretch_of s) e)))
    go false e = omega (arith, leb-false 1 (stretch_of s) e)

-- every message starts with '8'
pub other_byte : (rec : List ℕ) (p : ℕ) → (get_or rec p 0 ≡ 56 → ⊥) → stretch_at rec p ≡ 0
other_byte rec p f = none_taken (drop p rec) (λ n h. f (rw (get_or-drop p rec 0 0, add-zero) at (ap (λ (l : List ℕ). get_or l 0 0) (taken_named (drop p rec) h).begins)))

-- ---- what the code finds
-- a length as a number, and as what a function answers
pub length_none : (n : ℕ) → None ≡ some_length n → n ≡ 0
length_none n e = go (eqb n 0) refl e
  where
    go : (t : Bool) → eqb n 0 ≡ t → None ≡ cond t None (Some n) → n ≡ 0
    go true p q = eqb-true n 0 p
    go false p q = absurd (cc)

pub length_some : {m : ℕ} (n : ℕ) → Some m ≡ some_length n → (n ≡ m) × (1 ≤ n)
length_some {m} n e = go (eqb n 0) refl e
  where
    go : (t : Bool) → eqb n 0 ≡ t → Some m ≡ cond t None (Some n) → (n ≡ m) × (1 ≤ n)
    go true p q = absurd (cc)
    go false p q = (cc, omega (arith, eqb-false n 0 p))

pub no_length : (n : ℕ) → n ≡ 0 → None ≡ some_length n
no_length n z = rw z

pub a_length : (n : ℕ) {m : ℕ} → n ≡ m → 1 ≤ m → Some m ≡ some_length n
a_length n e l = rw (ne_eqb n 0 (λ z. omega arith)) (ap Some (sym e))

pub too_short : (s : List ℕ) → length s < 18 → stretch_of s ≡ 0
too_short s l = none_taken s (λ n h. omega (arith, (taken_named s h).low, h.inside))

-- h is its first 18 bytes
module _ (s h : List ℕ) (q : h ≡ take 18 s) where
  pub unnamed : None ≡ some_length (named_of h) → stretch_of s ≡ 0
  unnamed e = none_taken s (λ n t. omega (arith, length_none (named_of h) e, ap named_of q, (taken_named s t).name, (taken_named s t).low))

  module _ {m : ℕ} (e : Some m ≡ some_length (named_of h)) where
    name : named_of (take 18 s) ≡ m
    name = ap named_of (sym q) ∙ (length_some (named_of h) e).0

    pub beyond : length s < m → stretch_of s ≡ 0
    beyond l = none_taken s (λ n t. omega (arith, name, (taken_named s t).name, t.inside))

    -- m bytes are there
    module _ (t : List ℕ) (r : t ≡ take (m - 0) s) where
      same : t ≡ take m s
      same = rw sub-zero at r

      pub fails : passes (frame_of t) ≡ false → stretch_of s ≡ 0
      fails p = none_taken s (λ n k. let d : n ≡ m = omega (arith, name, (taken_named s k).name) in false≢true (sym p ∙ ap (λ (u : List ℕ). passes (frame_of u)) same ∙ rw d at k.good))

      pub holds : m ≤ length s → passes (frame_of t) ≡ true → Some m ≡ some_length (stretch_of s)
      holds l p =
          let k : Taken s m = record { inside = l; good = ap (λ (u : List ℕ). passes (frame_of u)) (sym same) ∙ p } in
          a_length (stretch_of s) (taken_stretch s m k) (omega (arith, (taken_named s k).low))
