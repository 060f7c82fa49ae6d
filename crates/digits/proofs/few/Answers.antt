-- `digits::few` meets its contract: the whole answer is what is left gives, after the digits that wrote v. Assumes nothing.
use Rattle.std.proofs.Common.{sym, ◌∙◌, arith}
use Rattle.digits.proofs.Width.{push, small}
use Rattle.digits.proofs.Steps.{none, long, fit, one, done}
use Rattle.digits.proofs.few.Goals as goal

pub returns-then-n-eq0 : goal.returns-then-n-eq0
returns-then-n-eq0 c = sym (none _ _ c.if-n-eq0.true)

pub returns-then-n-width : goal.returns-then-n-width
returns-then-n-width c = sym (long _ _ (omega arith) c.if-n-width.true)

pub loop-b-init : goal.loop-b-init
loop-b-init c = (omega arith, fit _ _ (omega arith) c.if-n-width.false (omega (arith, c.requires)))

pub overflow_mul-v : goal.overflow_mul-v
overflow_mul-v c = let l = c.loop-b in omega (arith, small {j = l.b-index} (omega (arith, c.loop-b-test.true, c.if-n-width.false, c.requires)), l.invariant.0)

pub overflow_add-v : goal.overflow_add-v
overflow_add-v c = let l = c.loop-b in omega (arith, small {j = l.b-index} (omega (arith, c.loop-b-test.true, c.if-n-width.false, c.requires)), l.invariant.0)

pub loop-b-preserved : goal.loop-b-preserved
loop-b-preserved c =
    let l = c.loop-b in
    (push l.b-index l.invariant.0 (omega arith), l.invariant.1 ∙ one _ _ _ _ c.worth-d.ensures c.loop-b-test.true (omega arith))

pub returns : goal.returns
returns c = sym (c.loop-b.invariant.1 ∙ done _ _ _ c.loop-b-test.false)
