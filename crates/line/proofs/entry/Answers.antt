-- Seven fields, one after the other. Assumes nothing.
use Rattle.pen.proofs.Laws.{last_field, next_field, price_fits}
use mir.Facts.{to_z-of_z}
use Rattle.line.proofs.entry.Goals as goal

pub returns : goal.returns
returns c =
    let f = price_fits c.args.e.now.price c.requires.2.price in
    let price = rw (to_z-of_z f) at c.field-b.ensures in
    let x = next_field _ _ c.by_field-f.ensures (next_field _ _ c.field-g.ensures (next_field _ _ c.field-h.ensures (last_field _ c.field.ensures))) in
    let y = next_field _ _ c.field-a.ensures (next_field _ _ price (next_field _ _ c.field-d.ensures x)) in
    (y.wrote, y.most)
