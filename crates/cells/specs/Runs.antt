-- The entries of a message as a run of numbers of their own, 9 to an entry.
use Rattle.std.specs.Prelude.{List, ℕ, ◌*◌}
use Rattle.book.specs.declared.Update.{Update}
use Rattle.cells.specs.Cells.{tab, update_at}

abbrev pub update_size : ℕ
update_size = 9

-- The first n of them.
abbrev pub updates_in : List ℕ → ℕ → List Update
updates_in run n = tab (λ (i : ℕ). update_at run (i * update_size)) n
