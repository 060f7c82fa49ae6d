-- 8, then 9. Assumes nothing.
use Rattle.pen.proofs.Laws.{last_field, next_field}
use Rattle.writer.proofs.opening.Goals as goal

pub returns : goal.returns
returns c =
    let x = next_field _ _ c.field-a.ensures (last_field _ c.field.ensures) in
    (x.wrote, x.most)
