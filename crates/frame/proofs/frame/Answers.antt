-- `frame::frame` meets its contract: where the type and the fields after it stand. Assumes nothing.
use Rattle.std.proofs.Common.{arith}
use Rattle.frame.proofs.Framing.{shape_placed}
use Rattle.frame.proofs.frame.Goals as goal

pub overflow_add-to : goal.overflow_add-to
overflow_add-to c = let x = shape_placed _ _ _ _ c.parts.ensures c.ok_or.ensures.ok_part c.in_ok-from.was in omega (arith, x.high)

pub overflow_sub-s : goal.overflow_sub-s
overflow_sub-s c = let x = shape_placed _ _ _ _ c.parts.ensures c.ok_or.ensures.ok_part c.in_ok-from.was in x.long

pub slice_bounds-chain-count : goal.slice_bounds-chain-count
slice_bounds-chain-count c = let x = shape_placed _ _ _ _ c.parts.ensures c.ok_or.ensures.ok_part c.in_ok-from.was in x.order

pub slice_bounds-chain-start : goal.slice_bounds-chain-start
slice_bounds-chain-start c = let x = shape_placed _ _ _ _ c.parts.ensures c.ok_or.ensures.ok_part c.in_ok-from.was in x.order

pub judge-requires : goal.judge-requires
judge-requires c =
    let x = shape_placed _ _ _ _ c.parts.ensures c.ok_or.ensures.ok_part c.in_ok-from.was in
    (x.long, (omega (arith, x.some), x.high))
