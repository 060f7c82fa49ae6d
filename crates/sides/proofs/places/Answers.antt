-- `places` meets its contract: each place so far is used, and one that isn't decides.
use mathlib.Core.Path.{sym}
use mathlib.Core.Bool.{Bool}
use Prim.Native.Nat.{ℕ, ◌+◌, ◌*◌}
use Rattle.sides.specs.Side.{entry_scan}
use Rattle.sides.proofs.Each.{each_false}
use Rattle.sides.proofs.places.Goals as goal

pub returns-then-not-entry : goal.returns-then-not-entry
returns-then-not-entry c =
    let a = c.args in
    let f : ℕ → Bool = λ (k : ℕ). entry_scan a.limits.most a.limits.full a.store.now (a.at + k * 5) in
    sym (each_false f a.n c.loop-i.i c.loop-i-test.true (rw (← c.entry.ensures) c.if-not-entry.true))
