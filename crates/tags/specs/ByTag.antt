-- The values of a place by their tags. Assumes nothing.
use Rattle.std.specs.Prelude.{ℕ, List}
use Rattle.tags.specs.Slots.{marked}
use Rattle.tags.specs.declared.Values.{Values}

-- The value of a tag, or no bytes where it doesn't stand.
abbrev pub by_tag : Values → ℕ → List ℕ
by_tag v = marked v.text.now v.marks.now
