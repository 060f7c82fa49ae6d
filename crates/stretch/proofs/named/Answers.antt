-- `stretch::named` meets its contract: what was read of 9 lies in the head, and counts small enough to be added. Assumes nothing.
use Rattle.std.proofs.Common.{sym, arith}
use Rattle.digits.proofs.Width.{whole_below}
use Rattle.frame.proofs.Opened.{tagged_found}
use Rattle.stretch.proofs.named.Goals as goal

pub slice_bounds-whole-count : goal.slice_bounds-whole-count
slice_bounds-whole-count c = let f = tagged_found _ _ _ (sym c.in_ok-from.ensures) in omega (arith, f.some, f.high)

pub slice_bounds-whole-start : goal.slice_bounds-whole-start
slice_bounds-whole-start c = let f = tagged_found _ _ _ (sym c.in_ok-from.ensures) in omega (arith, f.some, f.high)

pub slice_bounds-whole-end : goal.slice_bounds-whole-end
slice_bounds-whole-end c = let f = tagged_found _ _ _ (sym c.in_ok-from.ensures) in omega (arith, f.some, f.high)

pub overflow_add-result : goal.overflow_add-result
overflow_add-result c = let f = tagged_found _ _ _ (sym c.in_ok-from.ensures) in omega (arith, f.high)

pub overflow_add-result-2 : goal.overflow_add-result-2
overflow_add-result-2 c =
    let f = tagged_found _ _ _ (sym c.in_ok-from.ensures) in
    omega (arith, f.high, whole_below 5 _ (sym c.in_ok-count.ensures))

pub overflow_add-result-3 : goal.overflow_add-result-3
overflow_add-result-3 c =
    let f = tagged_found _ _ _ (sym c.in_ok-from.ensures) in
    omega (arith, f.high, whole_below 5 _ (sym c.in_ok-count.ensures))
