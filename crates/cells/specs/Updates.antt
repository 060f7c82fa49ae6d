-- The entries that a message's run of numbers holds.
use Rattle.std.specs.Prelude.{List}
use Rattle.book.specs.declared.Update.{Update}
use Rattle.cells.specs.declared.run.Updates.{Updates}
use Rattle.cells.specs.Runs.{updates_in}

abbrev pub updates_of : Updates → List Update
updates_of us = updates_in us.run.now us.count
