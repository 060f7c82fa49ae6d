-- `give_all` meets its contract: what is left to give, from here on, leaves the same.
use mathlib.Core.Path.{◌∙◌, sym, ap}
use mathlib.Core.List.{List}
use lib.ListN.{drop}
use Prim.Native.Nat.{◌+◌}
use Rattle.book.specs.declared.Update.{Update}
use Rattle.cells.specs.Updates.{updates_of}
use Rattle.store.specs.Meaning.{st}
use Rattle.deliver.specs.Gives.{give_all_s}
use Rattle.deliver.proofs.Giving.{give_formed}
use Rattle.deliver.proofs.give_all.Goals as goal

pub loop-i-preserved : goal.loop-i-preserved
unfolding give_all_s
loop-i-preserved c =
    let l = c.loop-i in
    let s = st l.g l.store in
    let u = c.at.result in (
      ap (give_all_s (drop (l.i + 1) (updates_of c.args.us))) c.give-g.ensures
          ∙ sym (ap (λ (us : List Update). give_all_s us s) c.at.ensures.turn) ∙ l.invariant.0,
      rw c.give-g.ensures (give_formed u s l.invariant.1),
    )
