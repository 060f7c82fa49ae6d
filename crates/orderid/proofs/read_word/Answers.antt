-- A turn takes one byte more of the word, which stays in the range of so many bytes. Assumes nothing.
use Rattle.std.proofs.Common.{arith, ◌∙◌, add-one}
use Rattle.orderid.proofs.Steps.{more}
use Rattle.orderid.proofs.Words.{top_step, top_small}
use Rattle.orderid.proofs.read_word.Goals as goal

pub overflow_mul-v : goal.overflow_mul-v
overflow_mul-v c = omega (arith, top_small c.loop-b.b-index (omega arith))

pub overflow_add-v : goal.overflow_add-v
overflow_add-v c = omega (arith, top_small c.loop-b.b-index (omega arith))

pub loop-b-preserved : goal.loop-b-preserved
loop-b-preserved c =
    let l = c.loop-b in
    (rw (add-one, c.from.ensures) (top_step l.b-index l.invariant.0 (omega arith)), rw c.from.ensures (l.invariant.1 ∙ more _ _ _ c.loop-b-test.true c.if-b-lt-FIRST.false c.if-b-gt-LAST.false))
