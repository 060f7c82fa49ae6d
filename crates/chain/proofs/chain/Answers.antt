-- `chain::chain` meets its contract: the whole is a chain as what is left is one. Assumes nothing.
use mathlib.Core.Path.{ap, sym, ◌∙◌}
use native.Mathlib.Omega.{arith}
use Rattle.chain.specs.Places.{is_some}
use Rattle.chain.proofs.Walk.{found, ends, goes_on_lem, all_read}
use Rattle.chain.proofs.chain.Goals as goal

pub returns-in_default : goal.returns-in_default
returns-in_default c = sym (c.loop-at.invariant ∙ ends _ _ c.loop-at-test.true (sym c.in_default.ensures))

pub overflow_add-at : goal.overflow_add-at
overflow_add-at c = let f = found _ _ (sym c.in-Some.ensures) in omega (arith, f.high)

pub loop-at-smaller : goal.loop-at-smaller
loop-at-smaller c =
    let f = found _ _ (sym c.in-Some.ensures) in
    omega (arith, f.low, f.some, f.high)

pub loop-at-preserved : goal.loop-at-preserved
loop-at-preserved c = c.loop-at.invariant ∙ goes_on_lem _ _ c.loop-at-test.true (sym c.in-Some.ensures)

pub returns : goal.returns
returns c = sym (c.loop-at.invariant ∙ ap is_some (all_read _ _ c.loop-at-test.false))
