-- `Updates::at` meets its contract: the entry that it reads is the next of what is left.
use mathlib.Core.Path.{ap, sym, ◌∙◌}
use mathlib.Core.List.{◌∷◌}
use Prim.Native.Nat.{◌+◌}
use lib.ListN.{drop}
use Rattle.book.specs.declared.Update.{Update}
use Rattle.cells.specs.Runs.{updates_in}
use Rattle.cells.proofs.Runs.{next_left}
use Rattle.cells.proofs.run.Updates.at.Goals as goal

pub returns-clause-turn : goal.returns-clause-turn
returns-clause-turn c =
    let us = c.args.self in
    let i = c.args.i in
    next_left us.run.now us.count i c.requires ∙ ap (λ (u : Update). u ∷ drop (i + 1) (updates_in us.run.now us.count)) (sym c.load_update.ensures)
