-- `stretch::run` meets its contract: where the run ends is where it ends from i on. Assumes nothing.
use Rattle.stretch.proofs.Running.{run_done, run_found, run_goes}
use Rattle.stretch.proofs.run.Goals as goal

pub returns-in-Some : goal.returns-in-Some
returns-in-Some c = run_found _ _ _ c.loop-i.invariant c.in-Some.ensures

pub loop-i-preserved : goal.loop-i-preserved
loop-i-preserved c = run_goes _ _ _ c.loop-i.invariant c.loop-i-test.true c.in_default.ensures

pub returns : goal.returns
returns c = run_done _ _ _ c.loop-i.invariant c.loop-i-test.false (c.loop-i.auto.i-end c.requires)
