-- A turn packs the last byte of the word that is left below those packed before. Assumes nothing.
use Rattle.std.proofs.Common.{◌≡◌, ◌-◌, sym, ◌∙◌, arith}
use Rattle.orderid.proofs.Packs.{pack_all, pack_none, pack_over, pack_more, pack_lt, pack_small}
use Rattle.orderid.proofs.packed.Goals as goal

pub loop-k-init : goal.loop-k-init
loop-k-init c = (omega arith, pack_all _)

pub returns-then-m-eq0 : goal.returns-then-m-eq0
returns-then-m-eq0 c = sym (pack_none (8 - c.loop-k._k) c.loop-k.v) ∙ rw c.if-m-eq0.true at c.loop-k.invariant.1

pub overflow_mul-v : goal.overflow_mul-v
overflow_mul-v c = omega (arith, pack_small c.loop-k._k c.loop-k-test.true c.loop-k.invariant.0)

pub overflow_add-v-in-loop-k : goal.overflow_add-v-in-loop-k
overflow_add-v-in-loop-k c = omega (arith, pack_small c.loop-k._k c.loop-k-test.true c.loop-k.invariant.0)

pub loop-k-preserved : goal.loop-k-preserved
loop-k-preserved c =
    let l = c.loop-k in
    (pack_lt l._k l.invariant.0 (omega arith), sym (pack_more l._k l.m l.v c.if-m-eq0.false c.loop-k-test.true) ∙ l.invariant.1)

pub returns : goal.returns
returns c =
    let l = c.loop-k in
    let z : 8 - l._k ≡ 0 = omega arith in
    sym (pack_over l.m l.v) ∙ rw z at l.invariant.1
