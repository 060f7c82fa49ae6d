-- `digits::read` meets its contract. Assumes nothing.
use Rattle.std.proofs.Common.{arith}
use Rattle.digits.proofs.Steps.{none, long, too_wide_lem, widest}
use Rattle.digits.proofs.Plain.{as_plain}
use Rattle.digits.proofs.read.Goals as goal

pub returns-then-width-gt-WIDEST : goal.returns-then-width-gt-WIDEST
returns-then-width-gt-WIDEST c =
    too_wide_lem _ _ c.if-width-gt-WIDEST.true

pub returns-then-n-eq0 : goal.returns-then-n-eq0
returns-then-n-eq0 c =
    none _ _ c.if-n-eq0.true

pub returns-then-n-le-FEW : goal.returns-then-n-le-FEW
returns-then-n-le-FEW c =
    as_plain _ _ _ _ c.short.ensures (widest c.args.text.now c.args.width (omega (arith, c.if-n-eq0.false)) (omega (arith, c.if-n-le-FEW.true, c.requires)) c.if-width-gt-WIDEST.false) c.unwrap_or.ensures

pub returns-then-width-n : goal.returns-then-width-n
returns-then-width-n c =
    long _ _ (omega (arith, c.if-width-n.true)) c.if-width-n.true

pub returns : goal.returns
returns c =
    as_plain _ _ _ _ c.many.ensures (widest _ _ (omega (arith, c.if-n-le-FEW.false)) c.if-width-n.false c.if-width-gt-WIDEST.false) c.unwrap_or-2.ensures
