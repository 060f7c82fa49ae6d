-- A turn writes the lowest byte that is left. Assumes nothing.
use Prim.Native.Nat.{◌+◌, ◌-◌, ◌^◌, ◌≤◌, ◌<◌}
use Rattle.orderid.specs.Words.{bytes_in}
use Rattle.text.specs.Text.{Left}
use lib.ListN.{length}
use mathlib.Core.Path.{◌≡◌}
use Rattle.orderid.proofs.put_packed.Given as goal

abbrev pub invariant-loop-v : goal.invariant-loop-v
invariant-loop-v l = (l.at ≤ l.a)
    × (l.a ≤ l.at + 8)
    × (length l.out ≡ length l.initial.out)
    × (l.v < 256 ^ (l.at + 8 - l.a))
    × Left l.out l.a (bytes_in (l.at + 8 - l.a) l.v) l.initial.out l.at (bytes_in 8 l.p)

abbrev pub decreases-loop-v : goal.decreases-loop-v
decreases-loop-v l = l.v
