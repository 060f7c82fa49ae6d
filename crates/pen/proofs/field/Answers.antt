-- A tag, a value and SOH. Assumes nothing.
use Rattle.pen.proofs.Laws.{a_field}
use native.Mathlib.Omega.{arith}
use Rattle.pen.proofs.field.Goals as goal

pub put-requires : goal.put-requires
put-requires g c =
    let k = g.met.V.Value.short c.args.value c.requires.2 in
    omega (arith, c.put_tag-b.ensures.1, c.put-d.ensures.next, k)

pub returns : goal.returns
returns g c =
    let v = c.put_tag-b.ensures in
    let x = c.put-d.ensures in
    let y = c.put.ensures in
    let k = g.met.V.Value.short c.args.value c.requires.2 in
    (a_field c.args.tag _ v.0 x y, omega (arith, v.1, x.next, y.next, k))
