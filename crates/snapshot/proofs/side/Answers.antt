-- Entry by entry, each at its place. Assumes nothing.
use Rattle.book.specs.Sides.{no_entry}
use Rattle.text.proofs.Stores.{left_more, left_none}
use Rattle.snapshot.proofs.Sides.{side_more, side_end}
use lib.ListN.{drop_of_length-le}
use native.Mathlib.Omega.{arith}
use Rattle.snapshot.proofs.side.Goals as goal

pub loop-i-preserved : goal.loop-i-preserved
loop-i-preserved c =
    let l = c.loop-i in
    let x = c.args in
    let p = c.entry-next.ensures in
    let more = side_more x.depth x.sort l.i x.held.now no_entry c.loop-i-test.true in
    record { near = omega (arith, p.1, l.invariant.near); left = left_more (rw more at l.invariant.left) p.0 }

pub returns : goal.returns
returns c =
    let l = c.loop-i in
    let left = rw (drop_of_length-le c.args.held.now {i = l.i} c.loop-i-test.false, side_end) at l.invariant.left in
    (left_none left, omega (arith, l.invariant.near))
