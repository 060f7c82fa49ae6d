-- `turn` meets its contract: four places join the columns, and where words are mixed the second ones are held against the first ones.
use Rattle.std.proofs.Common.{ℕ, ap, sym, ◌∙◌}
use Rattle.sweep.specs.declared.Columns.{Columns}
use Rattle.sweep.proofs.Columned.{joins_four, not_mixed}
use Rattle.sweep.proofs.turn.Goals as goal
use Rattle.sweep.proofs.turn.Goals.{then-this-ne0, else-this-ne0}

pub returns : goal.returns
returns g c =
    let a = c.args in
    let b = c.if-this-ne0.branch in
    let e = c.if-this-ne0.even in
    let d : Columns = record { size = c.four-size.result; by = c.four-by.result; more = c.four-more.result; moment = c.four-moment.result; even = e.0; odd = e.1; price = c.four-price.result } in
    rw c.bitor.ensures (joins_four a.store.now a.at a.low a.full _ a.c d c.four-price.ensures c.four-size.ensures c.four-by.ensures c.four-more.ensures
    c.four-moment.ensures
    (λ m z. elim b [ then-this-ne0 w ↦ w.two.ensures (sym (ap (λ (p : ℕ × ℕ). p.0) w.even-is) ∙ z) | else-this-ne0 w ↦ not_mixed g.row.MIXED w.if-this-ne0.false m ])
    (λ m z. elim b [ then-this-ne0 w ↦ w.two-then-this-ne0.ensures (sym (ap (λ (p : ℕ × ℕ). p.1) w.even-is) ∙ z) | else-this-ne0 w ↦ not_mixed g.row.MIXED w.if-this-ne0.false m ]))
