-- `chain::tag_at` meets its contract: what is left of the bytes before '=' is read as digits are. Assumes nothing.
use Rattle.chain.proofs.Tagging.{ends, here, at_zero, at_leading, at_tag, no_digit, too_long, goes_on_lem}
use Rattle.chain.proofs.tag_at.Goals as goal
use Rattle.chain.proofs.tag_at.Goals.{then-b-ne-EQUALS-via-then-b-ne-EQUALS, then-b-ne-EQUALS-via-else-b-ne-EQUALS+then-v-eq0, then-b-ne-EQUALS-via-else-b-ne-EQUALS+else-v-eq0+then-s-at-eq-ZERO}

pub returns-then-b-ne-EQUALS : goal.returns-then-b-ne-EQUALS
returns-then-b-ne-EQUALS c =
    let v = c.loop-i.invariant in
    let l = c.loop-i-test.true in
    elim c.then-b-ne-EQUALS.branch [
      | then-b-ne-EQUALS-via-then-b-ne-EQUALS w ↦ no_digit _ _ _ _ v l w.if-b-ne-EQUALS.true _ c.worth-d.ensures c.if-d-gt9.true
      | then-b-ne-EQUALS-via-else-b-ne-EQUALS+then-v-eq0 w ↦ at_zero _ _ _ _ v l w.if-b-ne-EQUALS.false w.if-v-eq0.true
      | then-b-ne-EQUALS-via-else-b-ne-EQUALS+else-v-eq0+then-s-at-eq-ZERO w ↦ at_leading _ _ _ _ v l w.if-b-ne-EQUALS.false w.if-v-eq0.false w.if-s-at-eq-ZERO.true
    ]

pub returns-then-d-gt9 : goal.returns-then-d-gt9
returns-then-d-gt9 c =
    let w = c.loop-i.invariant in
    let l = c.loop-i-test.true in
    let q = c.if-b-ne-EQUALS.false in
    (here _ _ _ _ w l q, (l, at_tag _ _ _ _ w l q c.if-v-eq0.false c.if-s-at-eq-ZERO.false))

pub returns-then-i-at-ge-TAG_DIGITS : goal.returns-then-i-at-ge-TAG_DIGITS
returns-then-i-at-ge-TAG_DIGITS c = too_long _ _ _ _ c.loop-i.invariant c.loop-i-test.true _ c.worth-d.ensures c.if-d-gt9.false c.if-i-at-ge-TAG_DIGITS.true

pub loop-i-preserved : goal.loop-i-preserved
loop-i-preserved c = goes_on_lem _ _ _ _ c.loop-i.invariant c.loop-i-test.true _ c.worth-d.ensures c.if-d-gt9.false c.if-i-at-ge-TAG_DIGITS.false

pub returns : goal.returns
returns c = ends _ _ _ _ c.loop-i.invariant c.loop-i-test.false
