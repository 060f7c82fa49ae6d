-- A message whose frame holds but for its sum and its type: what it is, and how it is read. Assumes nothing.
use Rattle.std.specs.Prelude.{Some}
use Rattle.std.proofs.Common.{◌≡◌, ℕ, ◌+◌, ◌-◌, ◌<◌, ◌≤◌, true, List, [], ◌∷◌, ◌++◌, length, take, drop, sym, refl, ap, ◌∙◌, append_assoc, append-nil, arith, length-append, take_all, take_at, drop_at, eq-eqb, le-leb}
use lib.Seq.{take-append_seam}
use Rattle.digits.specs.Digits.{whole_of}
use Rattle.digits.proofs.Width.{both}
use Rattle.text.specs.Text.{fixed, width_to, width_of, decimal}
use Rattle.text.proofs.Written.{whole_back, read_fixed, length_fixed, digits_fixed, digits_decimal, length_decimal, width_pos}
use Rattle.chain.specs.Fields.{Field, field, fields_of}
use Rattle.chain.specs.Bytes.{field_bytes, bytes_of, fair, all_fair}
use Rattle.frame.specs.Frames.{begin, last_of, front_of, frame_of, body_of, headed, ended}
use Rattle.chain.specs.Places.{part}
use Rattle.frame.specs.ByPlace.{opening, shape, preamble, head_of, trailer_of, parts_of, judged}
use Rattle.chain.proofs.Ahead.{digits_free}
use Rattle.chain.proofs.Inverse.{is_fair, fields_back, Stands, stands, length_field}

-- the type's text is c, the fields after it are body, and the trailer says v
pub record Well (s c : List ℕ) (body : List Field) (v : ℕ) : Type 0 where
  pub same : s ≡ bytes_of (ended (field 35 c ∷ body) v)
  pub fair : all_fair (field 35 c ∷ body) ≡ true
  pub small : v < 1000
  pub short : length s ≤ 8192

-- ---- bytes and fairness of fields in a row
pub bytes_append : (a b : List Field) → bytes_of (a ++ b) ≡ bytes_of a ++ bytes_of b
unfolding bytes_of
bytes_append [] b = refl
bytes_append (f ∷ a) b = rw (bytes_append a b) (sym (append_assoc (field_bytes f) (bytes_of a) (bytes_of b)))

pub fair_append : (a b : List Field) → all_fair a ≡ true → all_fair b ≡ true → all_fair (a ++ b) ≡ true
fair_append [] b h k = k
fair_append (f ∷ a) b h k = let d = both (fair f) (all_fair a) h in rw (d.0, fair_append a b d.1 k)

-- ---- the fields of the frame
pub tags : (length (decimal 9) ≡ 1) × (length (decimal 35) ≡ 2) × (decimal 10 ≡ 49 ∷ 48 ∷ [])
unfolding decimal width_of width_to fixed
tags = (refl, refl, refl)

pub eight_bytes : field_bytes (field 8 begin) ≡ preamble
unfolding field_bytes decimal width_of width_to fixed
eight_bytes = refl

pub eight_fair : fair (field 8 begin) ≡ true
unfolding fair
eight_fair = refl

pub nine_fair : (n : ℕ) → fair (field 9 (decimal n)) ≡ true
unfolding width_of
nine_fair n =
    is_fair (field 9 (decimal n)) (record { low = omega arith; high = omega arith; some = rw length_decimal (width_pos 17 n); free = digits_free 1 (decimal n) refl (digits_decimal n) })

pub ten_fair : (v : ℕ) → fair (field 10 (fixed 3 v)) ≡ true
ten_fair v =
    is_fair (field 10 (fixed 3 v)) (record { low = omega arith; high = omega arith; some = rw length_fixed (omega arith); free = digits_free 1 (fixed 3 v) refl (digits_fixed 3 v) })

pub ten_bytes : (v : ℕ) → field_bytes (field 10 (fixed 3 v)) ≡ 49 ∷ 48 ∷ 61 ∷ (fixed 3 v ++ (1 ∷ []))
unfolding field_bytes
ten_bytes v = rw tags.2

pub length_ten : (v : ℕ) → length (field_bytes (field 10 (fixed 3 v))) ≡ 7
length_ten v = rw (ten_bytes, length-append, length_fixed)

-- what the trailer says
pub trailer_back : (v : ℕ) → v < 1000 → trailer_of (field_bytes (field 10 (fixed 3 v))) ≡ Some v
unfolding trailer_of fixed
trailer_back v h = rw ten_bytes (read_fixed 3 v (omega arith) (omega arith) (omega arith))

-- all of it, field by field
pub whole_is : (c : List ℕ) (body : List Field) (v : ℕ)
    → bytes_of (ended (field 35 c ∷ body) v)
    ≡ preamble ++ (field_bytes (field 9 (decimal (length (bytes_of (field 35 c ∷ body))))) ++ (field_bytes (field 35 c) ++ (bytes_of body ++ field_bytes (field 10 (fixed 3 v)))))
unfolding bytes_of
whole_is c body v = rw (bytes_append body (field 10 (fixed 3 v) ∷ []), append-nil (field_bytes (field 10 (fixed 3 v))), eight_bytes)

-- ---- the last field and those before it
pub last_of_lem : (a z : Field) (fs : List Field) → last_of a (fs ++ (z ∷ [])) ≡ z
last_of_lem a z [] = refl
last_of_lem a z (f ∷ fs) = last_of_lem f z fs

pub front_of_lem : (z : Field) (fs : List Field) → front_of (fs ++ (z ∷ [])) ≡ fs
front_of_lem z [] = refl
front_of_lem z (f ∷ []) = refl
front_of_lem z (f ∷ g ∷ fs) = ap (λ (r : List Field). f ∷ r) (front_of_lem z (g ∷ fs))

module _ (s c : List ℕ) (body : List Field) (v : ℕ) (x : Well s c body v) where
  abbrev between : List Field
  between = field 35 c ∷ body

  abbrev n : ℕ
  n = length (bytes_of between)

  abbrev d : ℕ
  d = length (decimal n)

  abbrev nine : Field
  nine = field 9 (decimal n)

  abbrev ten : Field
  ten = field 10 (fixed 3 v)

  whole : s ≡ preamble ++ (field_bytes nine ++ (field_bytes (field 35 c) ++ (bytes_of body ++ field_bytes ten)))
  whole = x.same ∙ whole_is c body v

  pub inner_length : n ≡ 4 + length c + length (bytes_of body)
  unfolding bytes_of
  inner_length = rw (length-append, length_field, tags.1)

  pub whole_length : length s ≡ 20 + d + n
  whole_length =
      ap length whole ∙ rw (
        length-append (field_bytes nine),
        length_field nine,
        tags.0,
        length-append (field_bytes (field 35 c)),
        length_field (field 35 c),
        tags.1,
        length-append (bytes_of body),
        length_ten,
      ) (omega (arith, inner_length))

  -- ---- by places
  abbrev at : ℕ
  at = 13 + d

  abbrev from : ℕ
  from = at + 3

  abbrev to : ℕ
  to = at + 3 + length c

  begins_well : take 10 s ≡ preamble
  begins_well = rw whole

  fairs : (fair (field 35 c) ≡ true) × (all_fair body ≡ true)
  fairs = both (fair (field 35 c)) (all_fair body) x.fair

  nine_stands : Stands s 10 nine (field_bytes (field 35 c) ++ (bytes_of body ++ field_bytes ten)) 12 (12 + d)
  nine_stands = rw tags.0 at (stands s 10 nine (field_bytes (field 35 c) ++ (bytes_of body ++ field_bytes ten)) (nine_fair n) (rw whole))

  third_stands : Stands s at (field 35 c) (bytes_of body ++ field_bytes ten) from to
  third_stands =
      let q : 12 + d + 1 ≡ at = omega arith in
      let e : drop at s ≡ field_bytes (field 35 c) ++ (bytes_of body ++ field_bytes ten) = rw q at nine_stands.next in
      rw tags.1 at (stands s at (field 35 c) (bytes_of body ++ field_bytes ten) fairs.0 e)

  pub type_at : part from to s ≡ c
  type_at = third_stands.text

  pub count_back : whole_of 5 (decimal n) ≡ Some n
  count_back = whole_back 5 n (omega arith) (omega arith) (omega (arith, whole_length, x.short))

  head_well : head_of s ≡ Some (opening n at from to)
  unfolding head_of
  head_well =
      let q : 12 + d + 1 ≡ at = omega arith in
      rw (begins_well, nine_stands.step, nine_stands.text, count_back, q, third_stands.step)

  body_at : part (to + 1) (length s - 7) s ≡ bytes_of body
  body_at =
      let w : length s - 7 - (to + 1) ≡ length (bytes_of body) = omega (arith, whole_length, inner_length) in
      rw (w, third_stands.next) (take-append_seam (bytes_of body) (field_bytes ten))

  pub chain_well : fields_of (part (to + 1) (length s - 7) s) ≡ Some body
  chain_well = rw body_at (fields_back body fairs.1)

  front : s ≡ bytes_of (headed between) ++ field_bytes ten
  unfolding bytes_of
  front = whole ∙ rw (eight_bytes) (simp append_assoc)

  front_length : length (bytes_of (headed between)) ≡ length s - 7
  front_length = omega (arith, ap length front, length-append (bytes_of (headed between)) (field_bytes ten), length_ten v)

  pub summed_at : take (length s - 7) s ≡ bytes_of (headed between)
  summed_at = ap (take (length s - 7)) front ∙ take_at (bytes_of (headed between)) (field_bytes ten) (length s - 7) front_length

  ten_at : part (length s - 7) (length s) s ≡ field_bytes ten
  ten_at =
      let e : drop (length s - 7) s ≡ field_bytes ten = ap (drop (length s - 7)) front ∙ drop_at (bytes_of (headed between)) (field_bytes ten) (length s - 7) front_length in
      rw e (take_all (length s - (length s - 7)) (field_bytes ten) (omega (arith, length_ten v, whole_length)))

  pub parts_well : parts_of s ≡ Some (shape from to v)
  unfolding parts_of
  parts_well =
      rw (
        le-leb (length s) 8192 x.short,
        head_well,
        eq-eqb (at + n + 7) (length s) (omega (arith, whole_length)),
        le-leb (to + 1) (length s - 7) (omega (arith, whole_length, inner_length)),
        ten_at,
        trailer_back v x.small,
      )

  -- ---- by fields
  pub fields_well : fields_of s ≡ Some (field 8 begin ∷ nine ∷ field 35 c ∷ (body ++ (ten ∷ [])))
  fields_well =
      let fs = field 8 begin ∷ nine ∷ field 35 c ∷ (body ++ (ten ∷ [])) in
      let h : all_fair fs ≡ true = rw (eight_fair, nine_fair n, fairs.0) (fair_append body (ten ∷ []) fairs.1 (rw (ten_fair v))) in
      ap fields_of x.same ∙ fields_back fs h

  pub body_well : body_of s ≡ body
  unfolding body_of
  body_well = rw fields_well (front_of_lem ten body)

  from_well : length (bytes_of (field 8 begin ∷ nine ∷ field 35 c ∷ [])) ≡ to + 1
  unfolding bytes_of
  from_well = rw (
    append-nil,
    eight_bytes,
    length-append preamble,
    length-append (field_bytes nine),
    length_field nine,
    length_field (field 35 c),
    tags.0,
    tags.1,
  ) (omega arith)

  pub frame_well : frame_of s ≡ judged s from to v
  unfolding frame_of
  frame_well =
      rw (
        le-leb 1 (length s) (omega (arith, whole_length)),
        le-leb (length s) 8192 x.short,
        fields_well,
        last_of_lem (field 35 c) ten body,
        front_of_lem ten body,
        count_back,
        eq-eqb n n refl,
        length_fixed 3 v,
        read_fixed 3 v (omega arith) (omega arith) x.small,
        from_well,
        summed_at,
        type_at,
      )
