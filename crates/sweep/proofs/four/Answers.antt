-- `four` meets its contract: each number is at most what comes of all four.
use Rattle.sweep.proofs.Columned.{four_spans, wrapped}
use Rattle.sweep.proofs.four.Goals as goal

pub returns : goal.returns
returns c =
    let a = c.args in
    let s = c.type_inv.store in
    let l = c.ranges.low in
    four_spans a.store.now a.at a.low _ _ _ _ (wrapped _ _ (s a.at) l) (wrapped _ _ (s _) l) (wrapped _ _ (s _) l) (wrapped _ _ (s _) l)
