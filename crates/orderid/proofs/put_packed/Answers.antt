-- A turn writes the lowest byte that is left. Assumes nothing.
use Prim.Native.Nat.{◌+◌, ◌-◌, ◌<◌}
use Rattle.orderid.proofs.Packs.{bytes_none, bytes_any, bytes_more, bytes_less}
use Rattle.text.proofs.Stores.{left_more, left_none}
use mathlib.Core.Path.{◌≡◌, ◌∙◌}
use native.Mathlib.Omega.{arith}
use Rattle.orderid.proofs.put_packed.Goals as goal

pub loop-v-preserved : goal.loop-v-preserved
loop-v-preserved c =
    let l = c.loop-v in
    let x = c.args in
    let w = c.put-a.ensures in
    let t = c.loop-v-test.true in
    let k = x.at + 8 - l.a in
    let j = x.at + 8 - c.put-a.result in
    let z : 0 < k = bytes_any k l.v t l.invariant.3 in
    let q : k ≡ j + 1 = omega (arith, w.next) in
    let m = rw (bytes_more k j l.v t q) at l.invariant.4 in
    (omega (arith, w.next), omega (arith, w.next), c.put-a.auto.out ∙ l.invariant.2, bytes_less k j l.v q l.invariant.3, left_more m w)

pub returns : goal.returns
returns c =
    let l = c.loop-v in
    (left_none (rw (bytes_none (c.args.at + 8 - l.a) l.v c.loop-v-test.false) at l.invariant.4), l.invariant.1)
