-- `count_in` meets its contract: what has joined, or let go of, the queue is formed.
use Rattle.cells.specs.Updates.{updates_of}
use Rattle.store.specs.Meaning.{st}
use Rattle.store.specs.Canon.{Formed}
use Rattle.queue.specs.Joins.{either}
use Rattle.queue.proofs.Joining.{join_formed}
use Rattle.count.proofs.Board.{counted_formed}
use Rattle.count.proofs.count_in.Goals as goal
use Rattle.count.proofs.count_in.Goals.{in-Ok, in-Err}

pub give_all-head-requires : goal.give_all-head-requires
give_all-head-requires c =
    let a = c.args in
    let f = counted_formed a.n a.heard (st a.h a.store.now) c.requires in
    let j : Formed (st (either c.join.result) c.join.new.store) =
    rw (c.join.ensures.state, c.count-g.ensures) (join_formed a.n (updates_of a.us) _ f) in
    elim c.match-join.branch [ in-Ok w ↦ rw w.answer-is (rw w.in-Ok.is at j) | in-Err w ↦ rw w.answer-is (rw w.in-Err.is at j) ]
