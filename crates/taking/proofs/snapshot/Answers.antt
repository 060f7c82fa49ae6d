-- `snapshot` meets its contract: one that is not refused is followed.
use mathlib.Core.Path.{sym}
use native.Mathlib.Nat.{lt_of_lt_of_le}
use Rattle.cells.specs.Updates.{updates_of}
use Rattle.store.specs.Meaning.{st}
use Rattle.taking.proofs.Board.{not_refused}
use Rattle.taking.proofs.snapshot.Goals as goal

pub take_shown-requires : goal.take_shown-requires
take_shown-requires c =
    let a = c.args in
    let l = not_refused a.last (updates_of a.us) (st a.h a.store.now) c.requires c.find-i.result (sym c.in-Ok.ensures.number) in
    (c.requires.long, c.requires.room, lt_of_lt_of_le l c.requires.few)
