-- `chain::chain` meets its contract: the whole is a chain as what is left is one. Assumes nothing.
use Prim.Native.Nat.{◌-◌}
use mathlib.Core.Path.{◌≡◌}
use lib.ListN.{length, drop}
use Rattle.chain.specs.Fields.{fields_of}
use Rattle.chain.specs.Places.{is_some}
use Rattle.chain.proofs.chain.Given as goal

abbrev pub invariant-loop-at : goal.invariant-loop-at
invariant-loop-at l = is_some (fields_of l.s) ≡ is_some (fields_of (drop l.at l.s))

abbrev pub decreases-loop-at : goal.decreases-loop-at
decreases-loop-at l = length l.s - l.at
