-- `sweep` meets its contract: what was swept of the sides so far settles that each of them is sound.
use Rattle.std.proofs.Common.{◌≡◌, ℕ, ◌+◌, ◌-◌, ◌*◌, ◌/◌, ◌<◌, true, get_or, sym, ◌∙◌, arith, eq-eqb}
use Rattle.sides.specs.Side.{entry_scan, side_scan, room_of}
use Rattle.sweep.specs.Quick.{few_of}
use Rattle.sweep.proofs.Columned.{or_l, or_r, used, goes, side_fine_lem, side_more}
use Rattle.sweep.proofs.sweep.Goals as goal

pub loop-j-preserved : goal.loop-j-preserved
loop-j-preserved c =
    let l = c.loop-j in
    let a = c.args in
    let xs = a.store.now in
    let n = get_or xs (160 + l.j * 128) 0 in
    let ids = goes a.way.low a.limits.most a.way.top c.taken-c.result c.requires.2 c.if-span-c.false in
    λ L e z.
    let none : l.rest ≡ 0 = omega (arith, z, or_l l.rest c.behind.result) in
    let zero : c.behind.result ≡ 0 = omega (arith, z, or_r l.rest c.behind.result) in
    let held : (k : ℕ) → k < n - few_of n → entry_scan a.limits.most a.limits.full xs (160 + l.j * 128 + 1 + k * 5) ≡ true =
    λ k h. used a.way a.limits.most a.limits.full xs (160 + l.j * 128 + 1 + k * 5) L (c.taken-c.ensures.places a.limits.most a.way.top L.2 L.3 e ids k h)
    in
    let few = rw c.few.ensures.0 at (sym c.places.ensures ∙ c.if-not-places.false) in
    let fine =
    side_fine_lem c.room_of.result a.limits.most a.limits.full xs (160 + l.j * 128) c.if-room_of-n.false held few
    (sym c.behind.ensures ∙ eq-eqb c.behind.result 0 zero)
    in
    side_more (λ (i : ℕ). side_scan (room_of a.marks (i / 2)) a.limits.most a.limits.full xs (160 + i * 128) ≡ true) a.from l.j
    (l.invariant L (c.taken-c.ensures.columns e) none) (rw c.room_of.ensures.0 at fine)
