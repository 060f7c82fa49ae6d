-- `salvage::fill` meets its contract: what is left of the pieces fills what is left of the room. Assumes nothing.
use native.Mathlib.Omega.{arith}
use Rattle.salvage.proofs.Filling.{going_start, going_full, going_end, going_on}
use Rattle.salvage.proofs.fill.Goals as goal

pub loop-i-init : goal.loop-i-init
loop-i-init c = let p = c.requires in (going_start _ _ _ p.0 p.1, c.message_at-m.ensures)

pub overflow_sub-room : goal.overflow_sub-room
overflow_sub-room c = let g = c.loop-i.invariant.0 in omega (arith, g.room)

pub shape_of-out-then-room-at-lt-PIECE : goal.shape_of-out-then-room-at-lt-PIECE
shape_of-out-then-room-at-lt-PIECE c = c.loop-i.invariant.0.long

pub returns-then-room-at-lt-PIECE : goal.returns-then-room-at-lt-PIECE
returns-then-room-at-lt-PIECE c = going_full _ _ _ _ _ _ _ c.loop-i.invariant.0 c.if-room-at-lt-PIECE.true

pub first-kind-requires : goal.first-kind-requires
first-kind-requires c = (c.loop-i-test.true, c.loop-i.invariant.1)

pub put-requires : goal.put-requires
put-requires c = let g = c.loop-i.invariant.0 in omega (arith, g.room, g.long, c.if-room-at-lt-PIECE.false)

pub overflow_add-i : goal.overflow_add-i
overflow_add-i c = let f = c.first-kind.ensures in omega (arith, f.inside)

pub overflow_add-at : goal.overflow_add-at
overflow_add-at c =
    let g = c.loop-i.invariant.0 in
    omega (arith, g.room, c.if-room-at-lt-PIECE.false)

pub overflow_add-k : goal.overflow_add-k
overflow_add-k c =
    let g = c.loop-i.invariant.0 in
    omega (arith, g.room, g.few, c.if-room-at-lt-PIECE.false)

pub loop-i-smaller : goal.loop-i-smaller
loop-i-smaller c =
    let f = c.first-kind.ensures in
    omega (arith, f.some, f.inside)

pub loop-i-preserved : goal.loop-i-preserved
loop-i-preserved c =
    (going_on _ _ _ _ _ _ _ c.loop-i.invariant.0 _ _ _ _ c.if-room-at-lt-PIECE.false c.first-kind.ensures c.put.ensures, c.first-kind.ensures.after)

pub shape_of-out : goal.shape_of-out
shape_of-out c = c.loop-i.invariant.0.long

pub returns : goal.returns
returns c = going_end _ _ _ _ _ _ _ c.loop-i.invariant.0 c.loop-i-test.false
