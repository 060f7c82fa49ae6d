-- `frame::parts` meets its contract: the places of an opening are small enough to be added. Assumes nothing.
use Rattle.std.proofs.Common.{sym, arith}
use Rattle.frame.proofs.Opened.{opened_inside}
use Rattle.frame.proofs.parts.Goals as goal

pub overflow_add-at : goal.overflow_add-at
overflow_add-at c = let i = opened_inside _ (sym c.in_ok-count.ensures) in omega (arith, i.small, i.low, i.some, i.high)

pub overflow_add-at-2 : goal.overflow_add-at-2
overflow_add-at-2 c = let i = opened_inside _ (sym c.in_ok-count.ensures) in omega (arith, i.small, i.low, i.some, i.high)

pub overflow_add-to : goal.overflow_add-to
overflow_add-to c = let i = opened_inside _ (sym c.in_ok-count.ensures) in omega (arith, i.high)
