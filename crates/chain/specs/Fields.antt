-- A message is a chain of fields (document 01, "Frame"). Assumes nothing.
use Rattle.std.specs.Prelude.{Option, Some, None}
use Rattle.std.specs.Prelude.{ℕ, ◌+◌, List, [], ◌∷◌, ◌++◌, cond, eqb, take, drop}
use Rattle.digits.specs.Digits.{ranged_of}

pub record Field : Type 0 where
  pub tag : ℕ
  pub text : List ℕ

abbrev pub field : ℕ → List ℕ → Field
field t v = record { tag = t; text = v }

-- how many bytes stand before the first x
abbrev pub ahead : ℕ → List ℕ → ℕ
ahead x [] = 0
ahead x (b ∷ bs) = cond (eqb b x) 0 (ahead x bs + 1)

-- the bytes before the first x
abbrev pub before : ℕ → List ℕ → List ℕ
before x bs = take (ahead x bs) bs

-- the bytes after the first x
abbrev pub behind : ℕ → List ℕ → List ℕ
behind x bs = drop (ahead x bs + 1) bs

-- a tag that was read, and a value of at least one byte
abbrev pub named : Option ℕ → List ℕ → Option Field
named None v = None
named (Some t) [] = None
named (Some t) (b ∷ v) = Some (field t (b ∷ v))

-- a field is a tag of 1 to 99,999 without leading zero, '=' (61), and a value; p is all of it up to its SOH
unfoldable pub field_of : List ℕ → Option Field
field_of p = named (ranged_of 5 1 99999 (before 61 p)) (behind 61 p)

-- one field more
abbrev pub then : Option Field → Option (List Field) → Option (List Field)
then None r = None
then (Some f) None = None
then (Some f) (Some fs) = Some (f ∷ fs)

-- nothing is left over
abbrev pub closed : List ℕ → Option (List Field)
closed [] = Some []
closed (b ∷ bs) = None

-- the fields of the bytes, of which p has come since the last SOH (1): SOH ends each field
unfoldable pub cut : List ℕ → List ℕ → Option (List Field)
cut p [] = closed p
cut p (b ∷ bs) = cond (eqb b 1) (then (field_of p) (cut [] bs)) (cut (p ++ (b ∷ [])) bs)

-- a chain of fields
unfoldable pub fields_of : List ℕ → Option (List Field)
fields_of s = cut [] s
