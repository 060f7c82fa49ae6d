-- A walk along a place, to the last number: whether the rules hold, where it ends and what is marked. Assumes nothing.
use Rattle.std.specs.Prelude.{Some, None}
use Rattle.std.specs.Option.{is_some}
use Rattle.std.specs.Prelude.{ℕ, ◌+◌, ◌-◌, ◌≡◌, List, [], ◌∷◌, true, false, cond, eqb, length, get_or, set}
use Rattle.chain.specs.Fields.{Field}
use Rattle.chain.specs.Bytes.{field_bytes}
use Rattle.chain.specs.Places.{left}
use Rattle.tags.specs.Tags.{tidy}
use Rattle.tags.specs.Slots.{slot_of, below, between, strays, Holds}
use Rattle.tags.specs.declared.Marks.{Marks}
use Rattle.place.specs.Places.{Place, split_from, Tells}

-- A field that starts at a place: its SOH is its last byte, and its value ends there.
abbrev pub soh_at : ℕ → Field → ℕ
soh_at at f = at + length (field_bytes f) - 1

-- One field more is marked by the slot of its tag.
abbrev pub mark_at : ℕ → Field → Marks → Marks
mark_at at f m = record { spans = set m.spans (slot_of f.tag) (Some (record { from = soh_at at f - length f.text; to = soh_at at f })) }

-- The fields from a place on, with the marks so far. The walk ends before the first field with the tag `stop`, before one
-- that breaches the rules of the place, or at the end.
unfoldable pub walk_on : ℕ → ℕ → ℕ → ℕ → ℕ → Marks → List Field → Place
walk_on stop named low high at m [] = record { ok = true; at = at; marks = m }
walk_on stop named low high at m (f ∷ fs) =
    cond (eqb f.tag stop) (record { ok = true; at = at; marks = m })
    (cond (strays (slot_of f.tag) named low high (is_some (get_or m.spans (slot_of f.tag) None))) (record { ok = false; at = at; marks = m })
    (walk_on stop named low high (soh_at at f + 1) (mark_at at f m) fs))

-- What a walk answers that starts with marks, and what that tells of the place, where they mark what has come of it.
pub record Walk (s : List ℕ) (start stop named low high : ℕ) (m : Marks) (r : Place) : Type 0 where
  pub exact : r ≡ walk_on stop named low high start m (left s start)
  pub tells : (e : List Field) → Holds named s m e → tidy (below named) (between low high) e ≡ true
      → Tells named s r (split_from stop named low high e (left s start))
