-- `digits::front` meets its contract. Assumes nothing.
use Rattle.std.proofs.Common.{arith}
use Rattle.digits.proofs.Fours.{first_known}
use Rattle.digits.proofs.front.Goals as goal

pub returns : goal.returns
returns c =
    let e = c.word-w.ensures in
    (omega arith, first_known _ e.0 c.args.text.now c.requires.1 e.1 e.2 e.3 e.4 c.args.count c.requires.0)
