-- `frame::head` meets its contract: what was read of 9 lies in the message. Assumes nothing.
use Rattle.std.proofs.Common.{sym, arith}
use Rattle.frame.proofs.Opened.{tagged_found}
use Rattle.frame.proofs.head.Goals as goal

pub slice_bounds-whole-count : goal.slice_bounds-whole-count
slice_bounds-whole-count c = let f = tagged_found _ _ _ (sym c.in_ok-nine.ensures) in omega (arith, f.some, f.high)

pub slice_bounds-whole-start : goal.slice_bounds-whole-start
slice_bounds-whole-start c = let f = tagged_found _ _ _ (sym c.in_ok-nine.ensures) in omega (arith, f.some, f.high)

pub slice_bounds-whole-end : goal.slice_bounds-whole-end
slice_bounds-whole-end c = let f = tagged_found _ _ _ (sym c.in_ok-nine.ensures) in omega (arith, f.some, f.high)

pub overflow_add-at : goal.overflow_add-at
overflow_add-at c = let f = tagged_found _ _ _ (sym c.in_ok-nine.ensures) in omega (arith, f.high)
