-- `fours` meets its contract: the places so far are joined.
use Rattle.std.proofs.Common.{◌≡◌, ◌+◌, ◌*◌, arith}
use Rattle.sweep.proofs.Columned.{joins_more}
use Rattle.sweep.proofs.fours.Goals as goal

pub loop-i-preserved : goal.loop-i-preserved
loop-i-preserved g c =
    let l = c.loop-i in
    let a = c.args in
    let q : a.at + l.i * 20 ≡ a.at + l.i * 4 * 5 = omega arith in
    let e : (l.i + 1) * 4 ≡ l.i * 4 + 4 = omega arith in
    rw e (joins_more a.store.now a.at (l.i * 4) (l.i * 4) a.low a.full _ a.c l.acc _ (omega arith) l.invariant (rw q at c.turn-acc.ensures))

pub returns : goal.returns
returns g c =
    let l = c.loop-i in
    let q : l.i ≡ c.args.n = omega arith in
    rw (← q) l.invariant
