-- `number` meets its contract: what a gap leaves is formed.
use Rattle.store.specs.Meaning.{st}
use Rattle.store.proofs.Cleared.{gap_canon}
use Rattle.count.proofs.number.Goals as goal

pub count_in-requires-2 : goal.count_in-requires-2
count_in-requires-2 c =
    let a = c.args in
    rw c.gap-g.ensures (gap_canon a.n (st a.h a.store.now) c.requires).formed
