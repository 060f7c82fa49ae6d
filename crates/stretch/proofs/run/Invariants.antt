-- `stretch::run` meets its contract: where the run ends is where it ends from i on. Assumes nothing.
use Prim.Native.Nat.{◌+◌}
use mathlib.Core.Path.{◌≡◌}
use lib.ListN.{drop}
use Rattle.stretch.specs.Runs.{run_of}
use Rattle.stretch.proofs.run.Given as goal

abbrev pub invariant-loop-i : goal.invariant-loop-i
invariant-loop-i l = l.at + run_of (drop l.at l.rec) ≡ l.i + run_of (drop l.i l.rec)
