-- A place's values as the code remembers them: by the slot of their tag, as parts of the bytes. Assumes nothing.
use Rattle.std.specs.Prelude.{Option, Some, None}
use Rattle.std.specs.Option.{is_some}
use Rattle.std.specs.Prelude.{ℕ, ◌-◌, ◌<◌, ◌≡◌, List, [], Bool, false, cond, not, ◌&&◌, ◌||◌, leb, ltb, eqb, length, get_or, take, drop, replicate}
use Rattle.chain.specs.Fields.{Field, ahead}
use Rattle.chain.specs.Places.{part}
use Rattle.tags.specs.Tags.{named_tags, stands, lookup}
use Rattle.tags.specs.declared.Marks.{Marks}
use Rattle.tags.specs.declared.Span.{Span}

-- A tag's slot is its place among those named; every other tag has the slot after them.
unfoldable pub slot_of : ℕ → ℕ
slot_of t = ahead t named_tags

-- The tags of the slots below one, and of those from low up to high.
unfoldable pub below : ℕ → List ℕ
below named = take named named_tags

unfoldable pub between : ℕ → ℕ → List ℕ
between low high = take (high - low) (drop low named_tags)

-- Nothing is marked.
abbrev pub no_marks : Marks
no_marks = record { spans = replicate 22 None }

-- The bytes from..to of a span, or none where these are no places of the bytes, or there is no span.
unfoldable pub text_at : List ℕ → Option Span → List ℕ
text_at s None = []
text_at s (Some p) = cond (leb p.from p.to && leb p.to (length s)) (part p.from p.to s) []

-- What marks say of a tag.
unfoldable pub marked : List ℕ → Marks → ℕ → List ℕ
marked s m t = text_at s (get_or m.spans (slot_of t) None)

-- The marks say what the fields say, of every tag of the slots below one.
pub record Holds (named : ℕ) (s : List ℕ) (m : Marks) (fs : List Field) : Type 0 where
  pub size : length m.spans ≡ 22
  pub text : (t : ℕ) → slot_of t < named → marked s m t ≡ lookup fs t
  pub seen : (t : ℕ) → slot_of t < named → stands t fs ≡ is_some (get_or m.spans (slot_of t) None)

-- A field of slot k breaches the rules of a place of the slots from low up to high, where its tag was seen or not.
abbrev pub strays : ℕ → ℕ → ℕ → ℕ → Bool → Bool
strays k named low high seen = ltb k named && ((ltb k low || leb high k) || seen)

-- Bytes that are no field breach them: 8, which stands for such bytes, has slot 0, and the place does not end at it.
abbrev pub breaks : ℕ → ℕ → ℕ → ℕ → Bool
breaks stop named low high = not (eqb 8 stop) && strays 0 named low high false
