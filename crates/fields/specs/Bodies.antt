-- What the fields between 35 and 10 leave that were read. Assumes nothing.
use Rattle.std.specs.Prelude.{Option, Some, None, Ok}
use Rattle.std.specs.Prelude.{ℕ, ◌≡◌, List}
use Rattle.message.specs.Message.{Message, told}
use Rattle.message.specs.declared.Reading.{Reading}
use Rattle.cells.specs.Runs.{updates_in}
use Rattle.group.specs.Reads.{Spared}

-- The reading that a message is told by, with its entries in the run.
pub record Tells (m : Message) (r : Reading) (ys : List ℕ) : Type 0 where
  pub reading : Ok r ≡ (told m).reading
  pub entries : updates_in ys r.count ≡ (told m).entries

-- What is read where the fields say a message, or breach a rule.
abbrev pub Answers : Option Message → Option Reading → List ℕ → Type 0
Answers None None ys = Unit {0}
Answers None (Some r) ys = ⊥
Answers (Some m) None ys = ⊥
Answers (Some m) (Some r) ys = Tells m r ys

-- Of a run xs that was lent: what is read, and what is spared of the run.
pub record Body (o : Option Message) (r : Option Reading) (xs ys : List ℕ) : Type 0 where
  pub answers : Answers o r ys
  pub run : Spared xs ys
