-- `on_side` meets its contract: a breach leaves the store, and else the side is worked and saved from the first place that it may change.
use mathlib.Core.Path.{ap, sym, ◌∙◌}
use Rattle.std.proofs.lemmas.Result.{err_from_is_err_and}
use Rattle.book.proofs.Breaches.{no_breach}
use Rattle.deliver.specs.Gives.{taken}
use Rattle.deliver.proofs.Working.{side_refused, side_worked, side_stands}
use Rattle.deliver.proofs.on_side.Goals as goal

pub returns-in_err-breach : goal.returns-in_err-breach
returns-in_err-breach c =
    let p = err_from_is_err_and c.from_residual.result c.from_residual.ensures.1 in
    rw (p.1, p.2) (side_refused c.args.store.now c.args.at c.args.u c.load_side-s.ensures c.requires _ c.in_err-breach.ensures)

pub overflow_sub-u : goal.overflow_sub-u
overflow_sub-u c = (no_breach _ _ _ (sym c.in_ok-breach.ensures)).place

pub save_side_from-requires : goal.save_side_from-requires
save_side_from-requires c =
    (c.requires, side_stands c.args.store.now c.args.at c.args.u c.load_side-s.ensures c.worked-t.ensures c.first_changed-from.ensures.0)

pub returns : goal.returns
returns c =
    ap (taken 0) c.save_side_from.ensures
    ∙ side_worked c.args.store.now c.args.at c.args.u c.load_side-s.ensures c.in_ok-breach.ensures c.worked-t.ensures
