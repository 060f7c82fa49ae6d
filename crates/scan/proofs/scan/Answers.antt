-- `scan` meets its contract: a sound heading has the limits that the records, the books and the queue ask for.
use mathlib.Core.Path.{sym, ◌∙◌}
use native.Mathlib.Omega.{arith}
use Rattle.scan.proofs.Headings.{headed}
use Rattle.scan.proofs.scan.Goals as goal

pub records-requires : goal.records-requires
records-requires c =
    let h = headed c.args.store.now (sym c.heading.ensures ∙ c.if-not-heading.false) in
    omega (arith, h.few)

pub rest-requires : goal.rest-requires
rest-requires c =
    let h = headed c.args.store.now (sym c.heading.ensures ∙ c.if-not-heading.false) in
    omega (arith, h.few, h.room, h.base, h.last)
