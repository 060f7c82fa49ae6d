-- Six fields, one after the other. Assumes nothing.
use Rattle.pen.proofs.Laws.{last_field, next_field}
use Rattle.snapshot.proofs.book_part.Goals as goal

pub returns : goal.returns
returns c =
    let x = next_field _ _ c.field-e.ensures (next_field _ _ c.field-f.ensures (last_field _ c.field.ensures)) in
    let y = next_field _ _ c.field-a.ensures (next_field _ _ c.field-b.ensures (next_field _ _ c.field-d.ensures x)) in
    (y.wrote, y.most)
