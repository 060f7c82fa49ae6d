-- `price::put_amount` meets its contract. Assumes nothing.
use Rattle.std.proofs.Common.{arith, ne_eqb}
use Rattle.text.proofs.Stores.{and_then}
use Rattle.price.specs.PriceText.{amount_text, fraction_text}
use Rattle.price.proofs.put_amount.Goals as goal

pub returns : goal.returns
unfolding amount_text fraction_text
returns c = (rw (ne_eqb _ _ c.if-f-eq0.false) (and_then c.put_decimal-b.ensures.0 (and_then c.put-d.ensures c.put_decimals.ensures.0)), omega (arith, c.put-d.ensures.next))
