-- A place of a message and what follows it, and what a walk along it tells. Assumes nothing.
use Rattle.std.specs.Prelude.{Option, Some, None, Result, Ok, Err}
use Rattle.std.specs.Prelude.{ℕ, ◌≡◌, List, ◌++◌, Bool, true, false, cond}
use Rattle.chain.specs.Fields.{Field}
use Rattle.chain.specs.Places.{left}
use Rattle.tags.specs.Tags.{tidy, up_to, onward}
use Rattle.tags.specs.Slots.{below, between, Holds}
use Rattle.tags.specs.declared.Marks.{Marks}

-- A place and what follows it.
pub record Split : Type 0 where
  pub inside : List Field
  pub rest : List Field

-- The place up to a tag, unless a rule is breached.
abbrev pub split_at : ℕ → ℕ → ℕ → ℕ → List Field → Option Split
split_at stop named low high fs =
    cond (tidy (below named) (between low high) (up_to stop fs)) (Some (record { inside = up_to stop fs; rest = onward stop fs })) None

-- The same where e of the place has come before.
abbrev pub split_from : ℕ → ℕ → ℕ → ℕ → List Field → List Field → Option Split
split_from stop named low high e fs =
    cond (tidy (below named) (between low high) (e ++ up_to stop fs)) (Some (record { inside = e ++ up_to stop fs; rest = onward stop fs })) None

-- A place that was walked: whether its rules hold, where the walk ends, and what is marked then.
pub record Place : Type 0 where
  pub ok : Bool
  pub at : ℕ
  pub marks : Marks

-- A walk's answer, with what is marked then: where the place ends, or where the field stands that breaches a rule.
abbrev pub place_of : Result ℕ ℕ → Marks → Place
place_of (Ok at) m = record { ok = true; at = at; marks = m }
place_of (Err at) m = record { ok = false; at = at; marks = m }

-- A place whose rules hold.
abbrev pub passed : Place → Option Place
passed p = cond p.ok (Some p) None

-- What follows a place that was walked.
pub record Walked (named : ℕ) (s : List ℕ) (r : Place) (p : Split) : Type 0 where
  pub ok : r.ok ≡ true
  pub holds : Holds named s r.marks p.inside
  pub rest : left s r.at ≡ p.rest

-- What a walk tells.
abbrev pub Tells : ℕ → List ℕ → Place → Option Split → Type 0
Tells named s r None = r.ok ≡ false
Tells named s r (Some p) = Walked named s r p
