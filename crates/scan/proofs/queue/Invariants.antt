-- `queue` meets its contract: each slot so far is sound, and `low` is the number before this one.
use mathlib.Core.Path.{◌≡◌}
use mathlib.Core.Bool.{true}
use Prim.Native.Nat.{ℕ}
use Rattle.store.specs.Layout.{slot_of}
use Rattle.sides.specs.Side.{each}
use Rattle.scan.specs.Scan.{slot_scan, low_of}
use Rattle.scan.proofs.queue.Given as goal

abbrev pub invariant-loop-i : goal.invariant-loop-i
invariant-loop-i l = (l.low ≡ low_of l.store l.i) × (each (λ (k : ℕ). slot_scan (low_of l.store k) l.high l.n l.limits.most l.limits.full l.store (slot_of k)) l.i ≡ true)
