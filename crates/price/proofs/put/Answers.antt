-- `price::put` meets its contract: a minus where the price is below 0, then the amount. Assumes nothing.
use Rattle.std.proofs.Common.{arith}
use Rattle.price.proofs.Back.{text_minus, text_plus}
use Rattle.text.proofs.Stores.{and_then}
use mir.Facts.{to_z-of_z}
use Rattle.price.proofs.put.Goals as goal

pub returns-then-p-lt0 : goal.returns-then-p-lt0
returns-then-p-lt0 c =
    let e = rw (to_z-of_z c.ranges.p) at c.unsigned_abs-m.ensures.value in
    (rw (text_minus _ (rw (to_z-of_z c.ranges.p) at c.if-p-lt0.true), ← e) (and_then c.put-b.ensures c.put_amount.ensures.0), omega (arith, c.put-b.ensures.next))

pub returns : goal.returns
returns c =
    let e = rw (to_z-of_z c.ranges.p) at c.unsigned_abs-m.ensures.value in
    (rw (text_plus _ (rw (to_z-of_z c.ranges.p) at c.if-p-lt0.false), ← e) c.put_amount-2.ensures.0, omega arith)
