-- `group::listed` meets its contract: the whole group is what was said and what is left, at each entry. Assumes nothing.
use mathlib.Core.Path.{refl, sym, ◌∙◌}
use native.Mathlib.Omega.{arith}
use Rattle.chain.proofs.Walk.{found}
use Rattle.place.proofs.Walking.{walk_ended, walk_breached, walked_forth}
use Rattle.group.proofs.Reading.{spared_all, spared_more}
use Rattle.group.proofs.Listing.{lists_all, lists_none, lists_start, all_there, some_missing, torn, early, lists_skip, no_more, strayed, ended_bad, ended_passed, ended_said}
use Rattle.group.proofs.listed.Goals as goal

pub loop-at-init : goal.loop-at-init
loop-at-init c = let p = c.requires in (lists_start _ _ _ _ _ _ p.1.1 p.0 p.1.0, spared_all _)

pub returns-in_err-tag : goal.returns-in_err-tag
returns-in_err-tag c =
    lists_none _ _ _ _ (torn _ _ _ _ _ _ _ _ _ _ c.loop-at.invariant.0 c.loop-at-test.true (sym c.field.ensures ∙ c.in_err-tag.was)) c.from_residual.ensures c.loop-at.invariant.1

pub overflow_add-at : goal.overflow_add-at
overflow_add-at c = let f = found _ _ (sym c.field.ensures ∙ c.in_ok-tag.was) in omega (arith, f.high)

pub returns-then-k-lt-NAMED : goal.returns-then-k-lt-NAMED
returns-then-k-lt-NAMED c =
    lists_none _ _ _ _
    (early _ _ _ _ _ _ _ _ _ _ c.loop-at.invariant.0 _ _ _ c.loop-at-test.true (sym c.field.ensures ∙ c.in_ok-tag.was) c.if-tag-first.true _ c.slot-k.ensures.0 c.if-k-lt-NAMED.true)
    refl c.loop-at.invariant.1

pub loop-at-smaller-then-tag-first : goal.loop-at-smaller-then-tag-first
loop-at-smaller-then-tag-first c =
    let f = found _ _ (sym c.field.ensures ∙ c.in_ok-tag.was) in omega (arith, f.low, f.some, f.high)

pub loop-at-preserved-then-tag-first : goal.loop-at-preserved-then-tag-first
loop-at-preserved-then-tag-first c = (
  lists_skip _ _ _ _ _ _ _ _ _ _ c.loop-at.invariant.0 _ _ _ c.loop-at-test.true (sym c.field.ensures ∙ c.in_ok-tag.was) c.if-tag-first.true _ c.slot-k.ensures.0 c.if-k-lt-NAMED.false,
  c.loop-at.invariant.1,
)

pub returns-then-more-eq0 : goal.returns-then-more-eq0
returns-then-more-eq0 c =
    lists_none _ _ _ _
    (no_more _ _ _ _ _ _ _ _ _ _ c.loop-at.invariant.0 _ _ _ c.loop-at-test.true (sym c.field.ensures ∙ c.in_ok-tag.was) c.if-tag-first.false c.if-more-eq0.true)
    refl c.loop-at.invariant.1

pub returns-in_err-at : goal.returns-in_err-at
returns-in_err-at c =
    lists_none _ _ _ _
    (strayed _ _ _ _ _ _ _ _ _ _ c.loop-at.invariant.0 _ _ _ c.loop-at-test.true (sym c.field.ensures ∙ c.in_ok-tag.was) c.if-tag-first.false c.if-more-eq0.false _ c.slot-k.ensures.0 c.slot-k.ensures.1
    c.no_marks-marks.ensures c.walk.ensures (walk_breached _ _ c.ok.ensures.value c.in_err-at.was))
    c.from_residual-in_err-at.ensures c.loop-at.invariant.1

pub returns-in_err-u : goal.returns-in_err-u
returns-in_err-u c =
    lists_none _ _ _ _
    (ended_bad _ _ _ _ _ _ _ _ _ _ c.loop-at.invariant.0 _ _ _ c.loop-at-test.true (sym c.field.ensures ∙ c.in_ok-tag.was) c.if-tag-first.false c.if-more-eq0.false _ c.slot-k.ensures.0 c.slot-k.ensures.1
    c.no_marks-marks.ensures (rw (walk_ended c.ok.ensures.value c.in_ok-at.was) at c.walk.ensures) refl (sym c.entry.ensures ∙ c.in_err-u.was))
    c.from_residual-in_err-u.ensures c.loop-at.invariant.1

pub loop-at-smaller-in-Some : goal.loop-at-smaller-in-Some
loop-at-smaller-in-Some c =
    let f = found _ _ (sym c.field.ensures ∙ c.in_ok-tag.was) in
    let g = walked_forth (rw (walk_ended c.ok.ensures.value c.in_ok-at.was) at c.walk.ensures) in
    omega (arith, f.low, f.some, f.high, g, c.loop-at-test.true)

pub loop-at-preserved-in-Some : goal.loop-at-preserved-in-Some
loop-at-preserved-in-Some c = (
  ended_said _ _ _ _ _ _ _ _ _ _ c.loop-at.invariant.0 _ _ _ c.loop-at-test.true (sym c.field.ensures ∙ c.in_ok-tag.was) c.if-tag-first.false c.if-more-eq0.false _ c.slot-k.ensures.0 c.slot-k.ensures.1
      c.no_marks-marks.ensures (rw (walk_ended c.ok.ensures.value c.in_ok-at.was) at c.walk.ensures) refl _ (sym c.entry.ensures ∙ c.in_ok-u.was ∙ rw c.in-Some.is) _ c.after-next.ensures _ c.save_update.ensures,
  spared_more _ _ (omega (arith, c.loop-at.invariant.0.kept.room)) c.save_update.ensures c.loop-at.invariant.1,
)

pub loop-at-smaller : goal.loop-at-smaller
loop-at-smaller c =
    let f = found _ _ (sym c.field.ensures ∙ c.in_ok-tag.was) in
    let g = walked_forth (rw (walk_ended c.ok.ensures.value c.in_ok-at.was) at c.walk.ensures) in
    omega (arith, f.low, f.some, f.high, g, c.loop-at-test.true)

pub loop-at-preserved : goal.loop-at-preserved
loop-at-preserved c = (
  ended_passed _ _ _ _ _ _ _ _ _ _ c.loop-at.invariant.0 _ _ _ c.loop-at-test.true (sym c.field.ensures ∙ c.in_ok-tag.was) c.if-tag-first.false c.if-more-eq0.false _ c.slot-k.ensures.0 c.slot-k.ensures.1
      c.no_marks-marks.ensures (rw (walk_ended c.ok.ensures.value c.in_ok-at.was) at c.walk.ensures) refl (sym c.entry.ensures ∙ c.in_ok-u.was ∙ rw c.in_default.is),
  c.loop-at.invariant.1,
)

pub returns-then-more-eq0-2 : goal.returns-then-more-eq0-2
returns-then-more-eq0-2 c =
    lists_all _ _ _ _ (all_there _ _ _ _ _ _ _ _ _ _ c.loop-at.invariant.0 c.loop-at-test.false c.if-more-eq0-2.true) c.loop-at.invariant.1

pub returns-else-more-eq0-2 : goal.returns-else-more-eq0-2
returns-else-more-eq0-2 c =
    lists_none _ _ _ _ (some_missing _ _ _ _ _ _ _ _ _ _ c.loop-at.invariant.0 c.loop-at-test.false c.if-more-eq0-2.false) refl c.loop-at.invariant.1
