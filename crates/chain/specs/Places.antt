-- Fields by their places in the bytes. Assumes nothing.
use Rattle.std.specs.Prelude.{Option, Some, None}
use Rattle.std.specs.Prelude.{ℕ, ◌+◌, ◌-◌, ◌<◌, ◌≡◌, List, [], ◌∷◌, ◌++◌, Bool, true, false, cond, ltb, eqb, length, take, drop}
use Rattle.digits.specs.Digits.{ranged_of}
use Rattle.chain.specs.Fields.{Field, field, ahead, before, field_of}
use Rattle.chain.specs.declared.Step.{Step}
use Rattle.chain.specs.declared.Tag.{Tag}

-- a field by its tag, and where its value stands
abbrev pub step : ℕ → ℕ → ℕ → Step
step t from to = record { tag = t; from = from; to = to }

-- the bytes from..to
abbrev pub part : ℕ → ℕ → List ℕ → List ℕ
part from to s = take (to - from) (drop from s)

-- where the first x stands from a place on, or the end
abbrev pub first_of : ℕ → List ℕ → ℕ → ℕ
first_of x s at = at + ahead x (drop at s)

-- a field whose SOH stands at to: its value ends there
abbrev pub placed : ℕ → Option Field → Option Step
placed to None = None
placed to (Some f) = Some (step f.tag (to - length f.text) to)

-- the field that starts at a place, up to the next SOH
unfoldable pub field_at : List ℕ → ℕ → Option Step
field_at s at = cond (ltb (first_of 1 s at) (length s)) (placed (first_of 1 s at) (field_of (before 1 (drop at s)))) None

-- the tag of the field that starts at a place and where its '=' stands, or that no field starts there
abbrev pub Tells : List ℕ → ℕ → Option Tag → Type 0
Tells s at None = field_at s at ≡ None
Tells s at (Some t) = (t.mid ≡ first_of 61 s at) × ((t.mid < length s) × (ranged_of 5 1 99999 (part at t.mid s) ≡ Some t.tag))

-- whether the bytes are a chain
abbrev pub is_some : Option (List Field) → Bool
is_some None = false
is_some (Some fs) = true

-- ---- the fields from a place on
-- what stands for bytes that are no field: a tag that may stand in no place of a message, without a value
abbrev pub broken : Field
broken = field 8 []

-- one field more, unless the bytes up to SOH are none
abbrev pub onto : Option Field → List Field → List Field
onto None fs = broken ∷ []
onto (Some f) fs = f ∷ fs

-- nothing is left over
abbrev pub over : List ℕ → List Field
over [] = []
over (b ∷ bs) = broken ∷ []

-- the fields of the bytes up to the first that is none; p has come since the last SOH
unfoldable pub run : List ℕ → List ℕ → List Field
run p [] = over p
run p (b ∷ bs) = cond (eqb b 1) (onto (field_of p) (run [] bs)) (run (p ++ (b ∷ [])) bs)

-- the fields that are left from a place on
abbrev pub left : List ℕ → ℕ → List Field
left s at = run [] (drop at s)
