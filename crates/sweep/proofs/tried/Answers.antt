-- `tried` meets its contract: the sides up to where the first way goes are sound, and those from there on.
use Rattle.std.proofs.Common.{sym, ◌∙◌, eqb-true}
use Rattle.sweep.proofs.Columned.{settles, sides_join}
use Rattle.sweep.proofs.tried.Goals as goal

pub returns : goal.returns
returns c = λ e.
    let a = c.args in
    let xs = a.store.now in
    let first = settles c.way_of-way.result a.limits.most a.limits.full a.marks xs 0 c.settled-first.result c.sweep.result c.sweep.ensures c.way_of-way.ensures c.settled-first.ensures in
    let second =
    settles c.mixed_way-mixed.result a.limits.most a.limits.full a.marks xs c.settled-first.result a.n c.sweep-2.result c.sweep-2.ensures c.mixed_way-mixed.ensures
    (sym (eqb-true _ _ e) ∙ c.settled.ensures)
    in
    sides_join a.limits.most a.limits.full a.marks xs c.settled-first.result a.n first second
