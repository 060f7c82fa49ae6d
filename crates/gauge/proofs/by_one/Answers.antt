-- `gauge::by_one` meets its contract: the whole answer is what is left gives, after the digits that wrote v. Assumes nothing.
use Rattle.std.proofs.Common.{sym, arith}
use Rattle.digits.proofs.Width.{small}
use Rattle.digits.proofs.Steps.{none, long, too_wide_lem, fit}
use Rattle.gauge.proofs.by_one.Goals as goal
use Rattle.gauge.proofs.by_one.Goals.{then-n-eq0-via-then-n-eq0, then-n-eq0-via-else-n-eq0+then-width-n, then-n-eq0-via-else-n-eq0+else-width-n+then-width-gt-WIDTH}

pub returns-then-n-eq0 : goal.returns-then-n-eq0
returns-then-n-eq0 c =
    elim c.then-n-eq0.branch [
      | then-n-eq0-via-then-n-eq0 w ↦ sym (none _ _ w.if-n-eq0.true)
      | then-n-eq0-via-else-n-eq0+then-width-n w ↦ sym (long _ _ (omega arith) w.if-width-n.true)
      | then-n-eq0-via-else-n-eq0+else-width-n+then-width-gt-WIDTH w ↦ sym (too_wide_lem _ _ w.if-width-gt-WIDTH.true)
    ]

pub loop-b-init : goal.loop-b-init
loop-b-init c = (omega arith, fit _ _ (omega arith) c.if-width-n.false c.if-width-gt-WIDTH.false)

pub overflow_mul-v : goal.overflow_mul-v
overflow_mul-v c = let l = c.loop-b in omega (arith, small {j = l.b-index} (omega arith), l.invariant.0)

pub overflow_add-v : goal.overflow_add-v
overflow_add-v c = let l = c.loop-b in omega (arith, small {j = l.b-index} (omega arith), l.invariant.0)
