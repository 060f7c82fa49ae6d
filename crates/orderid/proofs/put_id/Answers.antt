-- The bytes of one word after those of the other. Assumes nothing.
use Rattle.orderid.proofs.Packs.{packed_bytes}
use Rattle.orderid.specs.OrderIds.{id_text}
use Rattle.orderid.specs.Words.{bytes_in}
use Rattle.text.proofs.Stores.{and_then, as_text}
use mathlib.Core.Path.{ap, ◌∙◌}
use native.Mathlib.Omega.{arith}
use Rattle.orderid.proofs.put_id.Goals as goal

pub returns : goal.returns
unfolding id_text
returns c =
    let x = c.put_packed-i.ensures in
    let y = c.put_packed.ensures in
    let p = ap (bytes_in 8) c.packed.ensures ∙ packed_bytes _ in
    let q = ap (bytes_in 8) c.packed-2.ensures ∙ packed_bytes _ in
    (and_then (as_text p x.0) (as_text q y.0), omega (arith, x.1, y.1))
