-- The messages that frame are exactly those that the frame's writer writes. Assumes nothing.
use Rattle.std.specs.Prelude.{Option, Some, None, Result, Ok, Err}
use Rattle.std.proofs.Common.{◌≡◌, ℕ, ◌+◌, ◌-◌, ◌%◌, ◌≤◌, Bool, true, false, cond, not, ◌&&◌, eqb, ◌⊎◌, List, [], ◌∷◌, length, take, sym, refl, ap, ◌∙◌, inl, inr, arith, eq-eqb, eqb-true}
use mathlib.Core.Bool.{false≢true}
use Rattle.digits.proofs.Width.{both}
use Rattle.text.specs.Text.{decimal}
use Rattle.chain.specs.Fields.{Field, field, fields_of}
use Rattle.chain.specs.Bytes.{bytes_of, fair, all_fair}
use Rattle.frame.specs.Frames.{of_type, total, is_type, typed, frame_of, body_of, headed, ended, framed}
use Rattle.chain.specs.Places.{part, is_some}
use Rattle.frame.specs.ByPlace.{parts_of, judged, outline_in, outline_of, frame_in}
use Rattle.frame.specs.Laws.{Outline, ChainedIsFrame, FrameIsOutlined}
use Rattle.frame.specs.declared.Shape.{Shape}
use Rattle.frame.specs.declared.Framed.{Framed}
use Rattle.frame.specs.declared.FrameError.{FrameError}
use Rattle.frame.proofs.Well.{Well, type_at, summed_at, chain_well, body_well, fields_well, frame_well, whole_length, inner_length}
use Rattle.frame.proofs.Framing.{Held, frame_cases, by_places, a_chain, type_placed}

-- what is known of a message with a good frame: the type, and where the fields after 35 stand and which they are
pub record Framing (s : List ℕ) (kind from : ℕ) : Type 0 where
  pub type : is_type kind ≡ true
  pub short : length s ≤ 8192
  pub long : 7 ≤ length s
  pub inside : from ≤ length s - 7
  pub body : fields_of (part from (length s - 7) s) ≡ Some (body_of s)
  pub fair : all_fair (body_of s) ≡ true
  pub fields : fields_of s ≡ Some (framed (field 35 (kind ∷ []) ∷ body_of s))
  pub same : s ≡ bytes_of (framed (field 35 (kind ∷ []) ∷ body_of s))

never : (s : List ℕ) {kind from : ℕ} → frame_of s ≡ Ok (of_type kind from) → frame_of s ≡ Err FrameError.BadFrame → ⊥
never s p q = let z : ◌≡◌ {A = ℕ} 0 1 = cc in omega arith

typed_is : (c : List ℕ) (n : ℕ) {kind from : ℕ} → typed c n ≡ Ok (of_type kind from) → (c ≡ kind ∷ []) × (is_type kind ≡ true) × (n ≡ from)
typed_is [] n e = let z : ◌≡◌ {A = ℕ} 0 1 = cc in absurd (omega arith)
typed_is (k ∷ []) n {kind} {from} e = go (is_type k) refl e
  where
    go : (t : Bool) → is_type k ≡ t → cond t (Ok (of_type k n)) (Err FrameError.BadType) ≡ Ok (of_type kind from)
        → (k ∷ [] ≡ kind ∷ []) × (is_type kind ≡ true) × (n ≡ from)
    go true p h =
        let z : of_type k n ≡ of_type kind from = cc in
        let q : k ≡ kind = ap (λ (x : Framed). x.kind) z in
        (ap (λ (u : ℕ). u ∷ []) q, ap is_type (sym q) ∙ p, ap (λ (x : Framed). x.from) z)
    go false p h = let z : ◌≡◌ {A = ℕ} 0 1 = cc in absurd (omega arith)
typed_is (k ∷ l ∷ c) n e = let z : ◌≡◌ {A = ℕ} 0 1 = cc in absurd (omega arith)

judged_is : (v u : ℕ) (t : Result Framed FrameError) {kind from : ℕ} → cond (eqb v u) t (Err FrameError.BadSum) ≡ Ok (of_type kind from) → (v ≡ u) × (t ≡ Ok (of_type kind from))
judged_is v u t {kind} {from} e = go (eqb v u) refl e
  where
    go : (b : Bool) → eqb v u ≡ b → cond b t (Err FrameError.BadSum) ≡ Ok (of_type kind from) → (v ≡ u) × (t ≡ Ok (of_type kind from))
    go true p h = (eqb-true v u p, h)
    go false p h = let z : ◌≡◌ {A = ℕ} 0 1 = cc in absurd (omega arith)

module _ (s : List ℕ) {kind from : ℕ} (e : frame_of s ≡ Ok (of_type kind from)) (c : List ℕ) (body : List Field) (v : ℕ) (w : Well s c body v) where
  abbrev d : ℕ
  d = length (decimal (length (bytes_of (field 35 c ∷ body))))

  -- the sum is right, and the type is one of ours
  told : (v ≡ total (take (length s - 7) s) % 256) × ((c ≡ kind ∷ []) × (is_type kind ≡ true) × (13 + d + 3 + length c + 1 ≡ from))
  told =
      let j = judged_is v (total (take (length s - 7) s) % 256) (typed (part (13 + d + 3) (13 + d + 3 + length c) s) (13 + d + 3 + length c + 1)) (sym (frame_well s c body v w) ∙ e) in
      (j.0, typed_is c (13 + d + 3 + length c + 1) (rw (type_at s c body v w) at j.1))

  framed_is : framed (field 35 (kind ∷ []) ∷ body_of s) ≡ ended (field 35 c ∷ body) v
  unfolding framed
  framed_is = rw (body_well s c body v w, ← told.1.0, ← summed_at s c body v w, ← told.0)

  framing_of : Framing s kind from
  framing_of =
      let b = body_well s c body v w in
      let l = whole_length s c body v w in
      let i = inner_length s c body v w in
      record {
        type = told.1.1;
        short = w.short;
        long = omega (arith, l);
        inside = omega (arith, told.1.2, l, i);
        body = rw (← told.1.2, b) (chain_well s c body v w);
        fair = rw b (both (fair (field 35 c)) (all_fair body) w.fair).1;
        fields = fields_well s c body v w ∙ ap Some (sym framed_is);
        same = w.same ∙ ap bytes_of (sym framed_is);
      }

pub framing : (s : List ℕ) {kind from : ℕ} → frame_of s ≡ Ok (of_type kind from) → Framing s kind from
framing s {kind} {from} e = go (frame_cases s)
  where
    go : (frame_of s ≡ Err FrameError.BadFrame) ⊎ Held s → Framing s kind from
    go (inl q) = absurd (never s e q)
    go (inr h) = framing_of s e h.c h.body h.v h.well

-- ---- what an outline says
pub outline : ChainedIsFrame
unfolding outline_of
outline s kind from e = go (parts_of s) refl e
  where
    go : (x : Option Shape) → parts_of s ≡ x → outline_in s x ≡ Ok (of_type kind from) → Outline s kind from
    go None p h = let z : ◌≡◌ {A = ℕ} 0 1 = cc in absurd (omega arith)
    go (Some y) p h =
        let j = judged_is y.sum (total (take (length s - 7) s) % 256) (typed (part y.from y.to s) (y.to + 1)) h in
        let t = typed_is (part y.from y.to s) (y.to + 1) j.1 in
        let x = type_placed s p in
        record { type = t.1; long = x.long; inside = omega (arith, t.2, x.order); frame = λ c. a_chain s p (rw (← t.2) at c) ∙ h }

-- a message with a good frame has that outline
pub outlined : FrameIsOutlined
unfolding outline_of
outlined s kind from e = go (parts_of s) (sym (by_places s) ∙ e)
  where
    chain : (z : Bool) (r : Result Framed FrameError) → cond z r (Err FrameError.BadFrame) ≡ Ok (of_type kind from) → r ≡ Ok (of_type kind from)
    chain true r h = h
    chain false r h = let z : ◌≡◌ {A = ℕ} 0 1 = cc in absurd (omega arith)

    go : (x : Option Shape) → frame_in s x ≡ Ok (of_type kind from) → outline_in s x ≡ Ok (of_type kind from)
    go None h = h
    go (Some y) h = chain (is_some (fields_of (part (y.to + 1) (length s - 7) s))) (judged s y.from y.to y.sum) h

-- ---- the writer's side
type_fair : (k : ℕ) → is_type k ≡ true → fair (field 35 (k ∷ [])) ≡ true
unfolding fair
type_fair k h = go (eqb k 1) refl
  where
    go : (t : Bool) → eqb k 1 ≡ t → not t && true ≡ true
    go true p = absurd (false≢true (ap is_type (sym (eqb-true k 1 p)) ∙ h))
    go false p = refl

-- fields written in a frame: the message frames, and holds them
pub record Back (k : ℕ) (fs : List Field) (s : List ℕ) : Type 0 where
  pub from : ℕ
  pub frame : frame_of s ≡ Ok (of_type k from)
  pub body : body_of s ≡ fs

pub frame_back : (k : ℕ) (fs : List Field) → is_type k ≡ true → all_fair fs ≡ true → length (bytes_of (framed (field 35 (k ∷ []) ∷ fs))) ≤ 8192
    → Back k fs (bytes_of (framed (field 35 (k ∷ []) ∷ fs)))
unfolding framed
frame_back k fs h f l =
    let between = field 35 (k ∷ []) ∷ fs in
    let v = total (bytes_of (headed between)) % 256 in
    let s = bytes_of (ended between v) in
    let w : Well s (k ∷ []) fs v = record { same = refl; fair = rw (type_fair k h, f); small = omega arith; short = l } in
    let d = length (decimal (length (bytes_of between))) in
    record {
      from = 13 + d + 3 + 1 + 1;
      frame = frame_well s (k ∷ []) fs v w ∙ rw (type_at s (k ∷ []) fs v w, summed_at s (k ∷ []) fs v w, eq-eqb v v refl, h);
      body = body_well s (k ∷ []) fs v w;
    }
