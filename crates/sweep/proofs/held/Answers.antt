-- `held` meets its contract: none of too few places is joined, and else each is, some of the last four twice.
use Rattle.std.proofs.Common.{◌≡◌, ◌+◌, ◌-◌, ◌*◌, ◌/◌, arith}
use Rattle.sweep.specs.Quick.{few_of}
use Rattle.sweep.proofs.Columned.{joins_more, few_none}
use Rattle.sweep.proofs.held.Goals as goal

pub returns-then-n-eq0 : goal.returns-then-n-eq0
returns-then-n-eq0 g c =
    let n = c.args.n in
    let q : n - few_of n ≡ n / 4 * 4 = omega (arith, few_none n c.if-n-lt4.false, c.if-n-eq0.true) in
    rw q c.fours-acc.ensures

pub returns : goal.returns
returns g c =
    let a = c.args in
    let l = c.if-n-lt4.false in
    let q : a.n - few_of a.n ≡ a.n - 4 + 4 = omega (arith, few_none a.n l, l) in
    rw q (joins_more a.store.now a.at (a.n / 4 * 4) (a.n - 4) a.low a.full _ a.c _ _ (omega (arith, l)) c.fours-acc.ensures c.turn.ensures)
