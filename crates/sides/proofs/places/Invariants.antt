-- `places` meets its contract: each place so far is used.
use mathlib.Core.Path.{◌≡◌}
use mathlib.Core.Bool.{true}
use Prim.Native.Nat.{ℕ, ◌+◌, ◌*◌}
use Rattle.sides.specs.Side.{each, entry_scan}
use Rattle.sides.proofs.places.Given as goal

abbrev pub invariant-loop-i : goal.invariant-loop-i
invariant-loop-i l = each (λ (k : ℕ). entry_scan l.limits.most l.limits.full l.store (l.at + k * 5)) l.i ≡ true
