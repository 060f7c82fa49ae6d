-- `digits::written` meets its contract. Assumes nothing.
use Rattle.std.specs.Prelude.{Some}
use Rattle.std.proofs.Common.{sym, ap, ◌∙◌}
use Rattle.digits.proofs.Fours.{writes, writes_none}
use Rattle.digits.proofs.written.Goals as goal

pub returns-then-w-ne0 : goal.returns-then-w-ne0
returns-then-w-ne0 c =
    sym (writes_none c.args.w c.requires c.if-w-ne0.true)

pub returns : goal.returns
returns c =
    ap Some c.four.ensures ∙ sym (writes c.args.w c.requires c.if-w-ne0.false)
