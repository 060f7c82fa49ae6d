-- What a reader leaves: its answer, and the entries in the run that its caller lends.
use Rattle.std.specs.Prelude.{Option, Some, None, Result}
use Rattle.std.specs.Prelude.{ℕ, ◌≤◌, ◌≡◌, List, length, get_or}
use Rattle.book.specs.declared.Update.{Update}
use Rattle.message.specs.Message.{Told, count_in}
use Rattle.message.specs.declared.Reading.{Reading}
use Rattle.message.specs.declared.Refusal.{Refusal}
use Rattle.cells.specs.Runs.{updates_in}

-- The numbers of a run that 64 entries fill.
abbrev pub run_size : ℕ
run_size = 576

-- The run ys that is left of a run xs is as long as it was, and the numbers that no entry may fill stay.
pub record Spared (xs ys : List ℕ) : Type 0 where
  pub size : length ys ≡ length xs
  pub behind : (k : ℕ) → run_size ≤ k → get_or ys k 0 ≡ get_or xs k 0

-- What the reader of a group answers for its updates: how many there are, where no rule is breached.
abbrev pub how_many : Option (List Update) → Option ℕ
how_many None = None
how_many (Some us) = Some (length us)

-- Of a run xs that was lent: how many updates there are, these in the run ys that is left, and what is spared of the run.
pub record Lists (o : Option (List Update)) (r : Option ℕ) (xs ys : List ℕ) : Type 0 where
  pub count : r ≡ how_many o
  pub entries : (us : List Update) → o ≡ Some us → updates_in ys (length us) ≡ us
  pub run : Spared xs ys

-- Of a run xs that was lent: the answer, its entries in the run ys that is left, and what is spared of the run.
pub record Reads (t : Told) (r : Result Reading Refusal) (xs ys : List ℕ) : Type 0 where
  pub reading : r ≡ t.reading
  pub entries : updates_in ys (count_in r) ≡ t.entries
  pub run : Spared xs ys
