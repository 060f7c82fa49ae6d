-- `digits::long` meets its contract: the whole answer is what is left gives, after the digits that wrote v. Assumes nothing.
use Rattle.std.proofs.Common.{◌+◌, ◌-◌, ◌%◌, length, sym, ◌∙◌, arith}
use Rattle.digits.proofs.Width.{below, small, push_four}
use Rattle.digits.proofs.Steps.{begun, done}
use Rattle.digits.proofs.Parts.{after_first, none_first, after_next, none_next}
use Rattle.digits.proofs.long.Goals as goal

pub returns-in_err-v : goal.returns-in_err-v
returns-in_err-v c =
    let s = c.args.text.now in
    c.from_residual.ensures ∙ sym (begun s 18 (omega (arith, c.requires.0)) c.requires.1 ∙ none_first s ((length s - 1) % 4 + 1) (omega arith) c.requires.0 (sym c.in_err-v.ensures))

pub loop-i-init : goal.loop-i-init
loop-i-init c =
    let s = c.args.text.now in
    let a = after_first s ((length s - 1) % 4 + 1) (omega arith) c.requires.0 (sym c.in_ok-v.ensures) in
    (omega (arith, c.requires.0), omega (arith, c.requires.0), a.1, begun s 18 (omega (arith, c.requires.0)) c.requires.1 ∙ a.0)

pub returns-in_err-v-2 : goal.returns-in_err-v-2
returns-in_err-v-2 c =
    let l = c.loop-i in
    c.from_residual-in_err-v-2.ensures ∙ sym (l.invariant.3 ∙ none_next _ l.i l.v (omega (arith, c.loop-i-test.true, l.invariant.1)) (sym c.in_err-v-2.ensures))

pub overflow_mul-v : goal.overflow_mul-v
overflow_mul-v c =
    let l = c.loop-i in
    omega (arith, push_four l.i {w = 0} l.invariant.2 (omega arith), small {j = l.i + 4} (omega (arith, c.loop-i-test.true, l.invariant.1, c.requires.1)))

pub overflow_add-v : goal.overflow_add-v
overflow_add-v c =
    let l = c.loop-i in
    let w = below 4 _ (sym c.in_ok-v-2.ensures) in
    omega (arith, push_four l.i l.invariant.2 w, small {j = l.i + 4} (omega (arith, c.loop-i-test.true, l.invariant.1, c.requires.1)))

pub loop-i-preserved : goal.loop-i-preserved
loop-i-preserved c =
    let l = c.loop-i in
    let e = sym c.in_ok-v-2.ensures in
    (omega (arith, c.loop-i-test.true, l.invariant.1), omega (arith, l.invariant.1), push_four l.i l.invariant.2 (below 4 _ e), l.invariant.3 ∙ after_next _ l.i l.v (omega (arith, c.loop-i-test.true, l.invariant.1)) e)

pub returns : goal.returns
returns c =
    let l = c.loop-i in
    sym (l.invariant.3 ∙ done _ _ _ c.loop-i-test.false)
