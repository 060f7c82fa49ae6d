-- What the functions of this crate leave of a store.
use Rattle.std.specs.Prelude.{ℕ}
use Rattle.std.proofs.lemmas.List.Edits.{sets}
use Rattle.cells.specs.Cells.{zeros}
use Rattle.heading.specs.Headings.{gap_at}
use Rattle.store.specs.Layout.{at_sides, sides_and_queue}
use Rattle.store.specs.Meaning.{State, st}

-- A gap before the number n: sides and queue are one run of zeros.
abbrev pub gap_s : ℕ → State → State
gap_s n s = st (gap_at s.head n) (sets s.store at_sides (zeros sides_and_queue))
