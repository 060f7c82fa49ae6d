-- `queue` meets its contract: a slot that isn't sound decides.
use mathlib.Core.Path.{◌≡◌}
use mathlib.Core.Bool.{Bool, false}
use Prim.Native.Nat.{ℕ}
use lib.ListN.{get_or}
use Rattle.store.specs.Layout.{at_number, at_followed, at_queued, slot_of}
use Rattle.sides.specs.Side.{each}
use Rattle.sides.proofs.Each.{each_false}
use Rattle.scan.specs.Scan.{slot_scan, low_of, queue_scan}
use Rattle.scan.proofs.queue.Goals as goal

pub returns-then-not-slot : goal.returns-then-not-slot
unfolding queue_scan
returns-then-not-slot c =
    let l = c.loop-i in
    let a = c.args in
    let xs = a.store.now in
    let f : ℕ → Bool = λ (k : ℕ). slot_scan (low_of xs k) (get_or xs at_number 0) (get_or xs at_followed 0) a.limits.most a.limits.full xs (slot_of k) in
    let e : each f (get_or xs at_queued 0) ≡ false =
    each_false f (get_or xs at_queued 0) l.i c.loop-i-test.true (rw (← l.invariant.0, ← c.slot.ensures) c.if-not-slot.true) in
    rw e
