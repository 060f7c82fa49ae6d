-- The frame read by places is the frame by fields. Assumes nothing.
use Rattle.std.specs.Prelude.{Option, Some, None, Result, Ok, Err}
use Rattle.std.specs.Result.{result_ok}
use Rattle.std.proofs.Common.{◌≡◌, ℕ, ◌+◌, ◌-◌, ◌%◌, ◌<◌, ◌≤◌, Bool, true, false, cond, ◌&&◌, eqb, leb, ◌⊎◌, List, [], ◌∷◌, ◌++◌, length, get_or, take, drop, sym, refl, ap, ◌∙◌, inl, inr, arith, length-append, length-drop, take-append-drop, drop_of_length-le, length-take, take_all, drop-cons, drop-drop, eq-eqb, ne_eqb, eqb-true, leb-true}
use Rattle.digits.specs.Digits.{digits_of, whole_of}
use Rattle.digits.proofs.Width.{both, below}
use Rattle.text.specs.Text.{fixed, decimal}
use Rattle.chain.specs.Fields.{Field, field, fields_of}
use Rattle.chain.specs.Bytes.{field_bytes, bytes_of, fair, all_fair}
use Rattle.frame.specs.Frames.{equal, total, begin, reads, begins, counts, sum_of, typed, summed, last_of, front_of, chained, frame_of, ended}
use Rattle.chain.specs.Places.{part, is_some}
use Rattle.frame.specs.ByPlace.{shape, preamble, trailer_of, parts_of, judged, outline_of, frame_in}
use Rattle.frame.specs.declared.Shape.{Shape}
use Rattle.frame.specs.declared.Framed.{Framed}
use Rattle.frame.specs.declared.FrameError.{FrameError}
use Rattle.chain.proofs.Shortest.{read_digits, fixed_back, decimal_back}
use Rattle.chain.proofs.Walk.{found}
use Rattle.chain.proofs.Inverse.{Chain, fields_only}
use Rattle.frame.proofs.Opened.{equal_is, opened, opened_inside, Shaped, shaped}
use Rattle.frame.proofs.Well.{Well, whole_is, ten_bytes, length_ten, chain_well, parts_well, frame_well}

-- three digits are what they say, in three digits
pub three_digits : (z : List ℕ) (v : ℕ) → length z ≡ 3 → digits_of 3 z ≡ Some v → (fixed 3 v ≡ z) × (v < 1000)
three_digits z v l e =
    let r = read_digits 3 z e in
    let f : fixed 3 v ≡ z = rw (l, r.is) at (fixed_back z r.all) in
    (f, below 3 z e)

-- a trailer that says v
pub trailer_only : (t : List ℕ) (v : ℕ) → trailer_of t ≡ Some v → (t ≡ field_bytes (field 10 (fixed 3 v))) × (v < 1000)
unfolding trailer_of
trailer_only t v e = go (eqb (length t) 7) (equal (take 3 t) (49 ∷ 48 ∷ 61 ∷ [])) (eqb (get_or t 6 0) 1) refl refl refl e
  where
    go : (a b c : Bool) → eqb (length t) 7 ≡ a → equal (take 3 t) (49 ∷ 48 ∷ 61 ∷ []) ≡ b → eqb (get_or t 6 0) 1 ≡ c
        → cond (a && (b && c)) (digits_of 3 (part 3 6 t)) None ≡ Some v → (t ≡ field_bytes (field 10 (fixed 3 v))) × (v < 1000)
    go true true true p q r h =
        let l : length t ≡ 7 = eqb-true (length t) 7 p in
        let w : length (part 3 6 t) ≡ 3 = rw (length-take, length-drop) (omega arith) in
        let d = three_digits (part 3 6 t) v w h in
        let g : drop 6 t ≡ 1 ∷ [] = drop-cons t 6 0 (omega arith) ∙ rw (eqb-true (get_or t 6 0) 1 r, drop_of_length-le t {i = 7} (omega arith)) in
        let m : drop 3 t ≡ part 3 6 t ++ drop 6 t = sym (take-append-drop 3 (drop 3 t)) ∙ rw (drop-drop 3 3 t) in
        (sym (take-append-drop 3 t) ∙ rw (equal_is (take 3 t) (49 ∷ 48 ∷ 61 ∷ []) q, m, g, ten_bytes v, d.0), d.1)
    go true true false p q r h = let z : ◌≡◌ {A = ℕ} 0 1 = cc in absurd (omega arith)
    go true false c p q r h = let z : ◌≡◌ {A = ℕ} 0 1 = cc in absurd (omega arith)
    go false b c p q r h = let z : ◌≡◌ {A = ℕ} 0 1 = cc in absurd (omega arith)

-- a message whose frame holds but for its sum and its type
pub record Held (s : List ℕ) : Type 0 where
  pub c : List ℕ
  pub body : List Field
  pub v : ℕ
  pub well : Well s c body v

-- ---- read by places
some_is : (o : Option (List Field)) → is_some o ≡ true → (fs : List Field) × (o ≡ Some fs)
some_is None e = let z : ◌≡◌ {A = ℕ} 0 1 = cc in absurd (omega arith)
some_is (Some fs) e = (fs, refl)

module _ (s : List ℕ) {from to v : ℕ} (x : Shaped s from to v) (chain : is_some (fields_of (part (to + 1) (length s - 7) s)) ≡ true) where
  abbrev end : ℕ
  end = length s - 7

  abbrev c : List ℕ
  c = part from to s

  chained_body : (fs : List Field) × (fields_of (part (to + 1) end s) ≡ Some fs)
  chained_body = some_is (fields_of (part (to + 1) end s)) chain

  abbrev body : List Field
  body = chained_body.0

  body_chain : Chain (part (to + 1) end s) body
  body_chain = fields_only (part (to + 1) end s) body chained_body.1

  tail_is : (drop end s ≡ field_bytes (field 10 (fixed 3 v))) × (v < 1000)
  tail_is =
      let t : part end (length s) s ≡ drop end s = take_all (length s - end) (drop end s) (rw length-drop (omega arith)) in
      trailer_only (drop end s) v (rw t at x.trailer)

  rest_is : drop (to + 1) s ≡ bytes_of body ++ field_bytes (field 10 (fixed 3 v))
  rest_is =
      let k = end - (to + 1) in
      let q : to + 1 + k ≡ end = omega (arith, x.order) in
      sym (take-append-drop k (drop (to + 1) s)) ∙ rw (drop-drop k (to + 1) s, q, tail_is.0, ← body_chain.same)

  third_is : drop x.at s ≡ field_bytes (field 35 c) ++ (bytes_of body ++ field_bytes (field 10 (fixed 3 v)))
  third_is = (found s x.at (opened s x.head).third).same ∙ rw rest_is

  count_is : x.count ≡ length (bytes_of (field 35 c ∷ body))
  unfolding bytes_of
  count_is =
      let b = bytes_of body in
      let z = field_bytes (field 10 (fixed 3 v)) in
      rw length-append (omega (arith, x.counts, ap length third_is, length-drop x.at s, length-append (field_bytes (field 35 c)) (b ++ z), length-append b z, length_ten v))

  shaped_well : Well s c body v
  shaped_well =
      let o = opened s x.head in
      let f = found s 10 o.nine in
      let g = found s x.at o.third in
      let m : part o.low o.high s ≡ decimal (length (bytes_of (field 35 c ∷ body))) = sym (decimal_back 5 (part o.low o.high s) o.count) ∙ ap decimal count_is in
      let n : drop 10 s ≡ field_bytes (field 9 (decimal (length (bytes_of (field 35 c ∷ body))))) ++ (field_bytes (field 35 c) ++ (bytes_of body ++ field_bytes (field 10 (fixed 3 v)))) = rw (m, o.next, third_is) at f.same in
      record {
        same = sym (take-append-drop 10 s) ∙ ap (λ (l : List ℕ). l ++ drop 10 s) o.begin ∙ ap (λ (l : List ℕ). preamble ++ l) n ∙ sym (whole_is c body v);
        fair = rw (g.fair, body_chain.fair);
        small = tail_is.1;
        short = x.short;
      }

  pub shaped_held : Held s
  shaped_held = record { c = c; body = body; v = v; well = shaped_well }

-- ---- read by fields
field_is : (f : Field) (t : ℕ) (v : List ℕ) → f.tag ≡ t → f.text ≡ v → f ≡ field t v
field_is f t v p q = ap (λ (u : ℕ). field u f.text) p ∙ ap (field t) q

-- all but the last, and the last
pub front_last : (a f : Field) (fs : List Field) → front_of (f ∷ fs) ++ (last_of a (f ∷ fs) ∷ []) ≡ f ∷ fs
front_last a f [] = refl
front_last a f (g ∷ fs) = ap (λ (r : List Field). f ∷ r) (front_last f g fs)

reads_is : (r : Option ℕ) (n : ℕ) → reads r n ≡ true → r ≡ Some n
reads_is None n e = let z : ◌≡◌ {A = ℕ} 0 1 = cc in absurd (omega arith)
reads_is (Some v) n e = ap Some (eqb-true v n e)

pub counts_is : (b : Field) (fs : List Field) → counts b fs ≡ true → b ≡ field 9 (decimal (length (bytes_of fs)))
counts_is b fs e =
    let d = both (eqb b.tag 9) (reads (whole_of 5 b.text) (length (bytes_of fs))) e in
    field_is b 9 (decimal (length (bytes_of fs))) (eqb-true b.tag 9 d.0) (sym (decimal_back 5 b.text (reads_is (whole_of 5 b.text) (length (bytes_of fs)) d.1)))

pub begins_is : (a : Field) → begins a ≡ true → a ≡ field 8 begin
begins_is a e =
    let d = both (eqb a.tag 8) (equal a.text begin) e in
    field_is a 8 begin (eqb-true a.tag 8 d.0) (equal_is a.text begin d.1)

pub sum_is : (z : Field) (v : ℕ) → sum_of z ≡ Some v → (z ≡ field 10 (fixed 3 v)) × (v < 1000)
sum_is z v e = go (eqb z.tag 10) (eqb (length z.text) 3) refl refl e
  where
    go : (a b : Bool) → eqb z.tag 10 ≡ a → eqb (length z.text) 3 ≡ b → cond (a && b) (digits_of 3 z.text) None ≡ Some v
        → (z ≡ field 10 (fixed 3 v)) × (v < 1000)
    go true true p q h =
        let d = three_digits z.text v (eqb-true (length z.text) 3 q) h in
        (field_is z 10 (fixed 3 v) (eqb-true z.tag 10 p) (sym d.0), d.1)
    go true false p q h = let z : ◌≡◌ {A = ℕ} 0 1 = cc in absurd (omega arith)
    go false b p q h = let z : ◌≡◌ {A = ℕ} 0 1 = cc in absurd (omega arith)

fair_front : (a b : List Field) → all_fair (a ++ b) ≡ true → all_fair a ≡ true
fair_front [] b h = refl
fair_front (f ∷ a) b h = let d = both (fair f) (all_fair (a ++ b)) h in rw (d.0, fair_front a b d.1)

after_two : (a b c : Field) (fs : List Field) → all_fair (a ∷ b ∷ c ∷ fs) ≡ true → (fair c ≡ true) × (all_fair fs ≡ true)
after_two a b c fs h = both (fair c) (all_fair fs) (both (fair b) (fair c && all_fair fs) (both (fair a) (fair b && (fair c && all_fair fs)) h).1).1

module _ (s : List ℕ) (a b c : Field) (fs : List Field) (v : ℕ) (e : fields_of s ≡ Some (a ∷ b ∷ c ∷ fs)) (short : length s ≤ 8192)
    (first : begins a ≡ true) (second : counts b (c ∷ front_of fs) ≡ true) (third : eqb c.tag 35 ≡ true) (last : sum_of (last_of c fs) ≡ Some v) where
  -- 35 is not the last
  others : front_of fs ++ (last_of c fs ∷ []) ≡ fs
  others = go fs last
    where
      go : (gs : List Field) → sum_of (last_of c gs) ≡ Some v → front_of gs ++ (last_of c gs ∷ []) ≡ gs
      go [] h = absurd (omega (arith, ap (λ (f : Field). f.tag) (sum_is c v h).0, eqb-true c.tag 35 third))
      go (g ∷ gs) h = front_last c g gs

  third_field : c ≡ field 35 c.text
  third_field = field_is c 35 c.text (eqb-true c.tag 35 third) refl

  all_fields : a ∷ b ∷ c ∷ fs ≡ ended (field 35 c.text ∷ front_of fs) v
  all_fields = cc (begins_is a first, counts_is b (c ∷ front_of fs) second, third_field, others, (sum_is (last_of c fs) v last).0)

  fields_held : Held s
  fields_held =
      let h = fields_only s (a ∷ b ∷ c ∷ fs) e in
      let g : all_fair (ended (field 35 c.text ∷ front_of fs) v) ≡ true = ap all_fair (sym all_fields) ∙ h.fair in
      let d = after_two (field 8 begin) (field 9 (decimal (length (bytes_of (field 35 c.text ∷ front_of fs))))) (field 35 c.text) (front_of fs ++ (field 10 (fixed 3 v) ∷ [])) g in
      record {
        c = c.text;
        body = front_of fs;
        v = v;
        well = record {
          same = sym h.same ∙ ap bytes_of all_fields;
          fair = rw (d.0, fair_front (front_of fs) (field 10 (fixed 3 v) ∷ []) d.1);
          small = (sum_is (last_of c fs) v last).1;
          short = short;
        };
      }

-- broken, or held
pub frame_cases : (s : List ℕ) → (frame_of s ≡ Err FrameError.BadFrame) ⊎ Held s
unfolding frame_of
frame_cases s = go (leb 1 (length s)) (leb (length s) 8192) (fields_of s) refl refl
  where
    summing : (a b c : Field) (fs : List Field) (r : Option ℕ) (t : Result Framed FrameError) → fields_of s ≡ Some (a ∷ b ∷ c ∷ fs) → length s ≤ 8192
        → begins a ≡ true → counts b (c ∷ front_of fs) ≡ true → eqb c.tag 35 ≡ true → sum_of (last_of c fs) ≡ r
        → (summed r (a ∷ b ∷ c ∷ front_of fs) t ≡ Err FrameError.BadFrame) ⊎ Held s
    summing a b c fs None t e l f g h i = inl refl
    summing a b c fs (Some v) t e l f g h i = inr (fields_held s a b c fs v e l f g h i)

    testing : (a b c : Field) (fs : List Field) (x y z : Bool) → fields_of s ≡ Some (a ∷ b ∷ c ∷ fs) → length s ≤ 8192
        → begins a ≡ x → counts b (c ∷ front_of fs) ≡ y → eqb c.tag 35 ≡ z
        → (cond (x && (y && z)) (summed (sum_of (last_of c fs)) (a ∷ b ∷ c ∷ front_of fs) (typed c.text (length (bytes_of (a ∷ b ∷ c ∷ []))))) (Err FrameError.BadFrame) ≡ Err FrameError.BadFrame) ⊎ Held s
    testing a b c fs true true true e l f g h = summing a b c fs (sum_of (last_of c fs)) (typed c.text (length (bytes_of (a ∷ b ∷ c ∷ [])))) e l f g h refl
    testing a b c fs true true false e l f g h = inl refl
    testing a b c fs true false z e l f g h = inl refl
    testing a b c fs false y z e l f g h = inl refl

    go : (x y : Bool) (o : Option (List Field)) → leb (length s) 8192 ≡ y → fields_of s ≡ o
        → (cond (x && y) (chained o) (Err FrameError.BadFrame) ≡ Err FrameError.BadFrame) ⊎ Held s
    go false y o p e = inl refl
    go true false o p e = inl refl
    go true true None p e = inl refl
    go true true (Some []) p e = inl refl
    go true true (Some (a ∷ [])) p e = inl refl
    go true true (Some (a ∷ b ∷ [])) p e = inl refl
    go true true (Some (a ∷ b ∷ c ∷ fs)) p e = testing a b c fs (begins a) (counts b (c ∷ front_of fs)) (eqb c.tag 35) e (leb-true (length s) 8192 p) refl refl refl

-- the frame by its places
pub by_places : (s : List ℕ) → frame_of s ≡ frame_in s (parts_of s)
by_places s = go (parts_of s) refl (frame_cases s)
  where
    held : Held s → frame_of s ≡ frame_in s (parts_of s)
    held h =
        frame_well s h.c h.body h.v h.well
        ∙ rw (parts_well s h.c h.body h.v h.well, chain_well s h.c h.body h.v h.well)

    chained_or : {from to v : ℕ} (z : Bool) → parts_of s ≡ Some (shape from to v) → is_some (fields_of (part (to + 1) (length s - 7) s)) ≡ z
        → frame_of s ≡ Err FrameError.BadFrame → frame_of s ≡ frame_in s (parts_of s)
    chained_or true e p q = held (shaped_held s (shaped s e) p)
    chained_or false e p q = q ∙ rw (e, p)

    go : (x : Option Shape) → parts_of s ≡ x → (frame_of s ≡ Err FrameError.BadFrame) ⊎ Held s → frame_of s ≡ frame_in s (parts_of s)
    go x e (inr h) = held h
    go None e (inl q) = q ∙ rw e
    go (Some x) e (inl q) = chained_or (is_some (fields_of (part (x.to + 1) (length s - 7) s))) e refl q

module _ (s : List ℕ) where
  pub no_frame : parts_of s ≡ None → frame_of s ≡ Err FrameError.BadFrame
  no_frame e = by_places s ∙ rw e

  module _ {from to v : ℕ} (e : parts_of s ≡ Some (shape from to v)) where
    pub no_chain : is_some (fields_of (part (to + 1) (length s - 7) s)) ≡ false → frame_of s ≡ Err FrameError.BadFrame
    no_chain p = by_places s ∙ rw (e, p)

    pub a_chain : is_some (fields_of (part (to + 1) (length s - 7) s)) ≡ true → frame_of s ≡ judged s from to v
    a_chain p = by_places s ∙ rw (e, p)

  pub no_outline : parts_of s ≡ None → outline_of s ≡ Err FrameError.BadFrame
  unfolding outline_of
  no_outline e = rw e

  pub an_outline : {from to v : ℕ} → parts_of s ≡ Some (shape from to v) → outline_of s ≡ judged s from to v
  unfolding outline_of
  an_outline e = rw e

  module _ (from to v u : ℕ) (sum : u ≡ total (take (length s - 7) s) % 256) where
    pub other_sum : (u ≡ v → ⊥) → judged s from to v ≡ Err FrameError.BadSum
    other_sum h = rw (← sum, ne_eqb v u (λ q. h (sym q)))

    pub right_sum : u ≡ v → judged s from to v ≡ typed (part from to s) (to + 1)
    right_sum h = rw (← sum, eq-eqb v u (sym h))

-- where the type stands
pub record Placed (s : List ℕ) (from to : ℕ) : Type 0 where
  pub some : from < to
  pub high : to < length s
  pub long : 7 ≤ length s
  pub order : to + 1 ≤ length s - 7

pub type_placed : (s : List ℕ) {from to v : ℕ} → parts_of s ≡ Some (shape from to v) → Placed s from to
type_placed s e =
    let x = shaped s e in
    let i = opened_inside s x.head in
    record { some = i.some; high = i.high; long = omega (arith, x.counts); order = x.order }

-- the same where the shape was read, or its want turned into a refusal
pub shape_placed : (s : List ℕ) (o : Option Shape) (r : Result Shape FrameError) (x : Shape) → o ≡ parts_of s → o ≡ result_ok r → r ≡ Ok x → Placed s x.from x.to
shape_placed s o r x p q e = type_placed s (sym p ∙ q ∙ ap result_ok e)
