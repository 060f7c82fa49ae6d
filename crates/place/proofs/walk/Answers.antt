-- `place::walk` meets its contract: the whole place is what was passed and what is left. Assumes nothing.
use mathlib.Core.Path.{sym, ◌∙◌}
use native.Mathlib.Omega.{arith}
use Rattle.chain.proofs.Walk.{found}
use Rattle.place.proofs.Walking.{seen_as, tells_end, tells_broken, tells_stop, tells_stray, walk_more}
use Rattle.place.proofs.walk.Goals as goal

pub returns-in_default : goal.returns-in_default
returns-in_default c = tells_broken _ _ _ _ _ _ _ _ _ c.loop-at.invariant c.loop-at-test.true (sym c.field.ensures ∙ c.in_default.is)

pub returns-then-tag-stop : goal.returns-then-tag-stop
returns-then-tag-stop c =
    tells_stop _ _ _ _ _ _ _ _ _ c.loop-at.invariant _ _ _ c.loop-at-test.true (sym c.in-Some.ensures) c.if-tag-stop.true

pub returns-then-stray : goal.returns-then-stray
returns-then-stray c =
    tells_stray _ _ _ _ _ _ _ _ _ c.loop-at.invariant _ _ _ c.loop-at-test.true (sym c.in-Some.ensures) c.if-tag-stop.false _ c.slot-k.ensures.0 (rw (c.from.ensures, seen_as c.is_some.result, c.is_some.ensures) at (sym c.stray.ensures ∙ c.if-stray.true))

pub overflow_add-at : goal.overflow_add-at
overflow_add-at c = let f = found _ _ (sym c.in-Some.ensures) in omega (arith, f.high)

pub loop-at-smaller : goal.loop-at-smaller
loop-at-smaller c = let f = found _ _ (sym c.in-Some.ensures) in omega (arith, f.low, f.some, f.high)

pub loop-at-preserved : goal.loop-at-preserved
loop-at-preserved c =
    walk_more _ _ _ _ _ _ _ _ _ c.loop-at.invariant _ _ _ c.loop-at-test.true (sym c.in-Some.ensures) c.if-tag-stop.false _ c.slot-k.ensures.0 (rw (c.from.ensures, seen_as c.is_some.result, c.is_some.ensures) at (sym c.stray.ensures ∙ c.if-stray.false)) c.slot-k.ensures.1

pub returns : goal.returns
returns c = tells_end _ _ _ _ _ _ _ _ _ c.loop-at.invariant c.loop-at-test.false
