-- `frame::outline` meets its contract: where the type stands. Assumes nothing.
use Rattle.std.proofs.Common.{arith}
use Rattle.frame.proofs.Framing.{shape_placed}
use Rattle.frame.proofs.outline.Goals as goal

pub judge-requires : goal.judge-requires
judge-requires c =
    let x = shape_placed _ _ _ _ c.parts.ensures c.ok_or.ensures.ok_part c.in_ok-from.was in
    (x.long, (omega (arith, x.some), x.high))
