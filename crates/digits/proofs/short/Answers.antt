-- `digits::short` meets its contract: one digit after the other. Assumes nothing.
use Rattle.std.proofs.Common.{sym}
use Rattle.digits.proofs.Singly.{no_first, is_one, no_second, is_two, no_third, is_three}
use Rattle.digits.proofs.short.Goals as goal

pub returns-then-a-gt9 : goal.returns-then-a-gt9
returns-then-a-gt9 c =
    sym (no_first _ c.requires.0 c.requires.1 _ c.worth-a.ensures c.if-a-gt9.true)

pub returns-then-n-eq1 : goal.returns-then-n-eq1
returns-then-n-eq1 c =
    sym (is_one _ c.requires.0 c.requires.1 _ c.worth-a.ensures c.if-a-gt9.false c.if-n-eq1.true)

pub returns-then-b-gt9 : goal.returns-then-b-gt9
returns-then-b-gt9 c =
    sym (no_second _ c.requires.0 c.requires.1 _ c.worth-a.ensures c.if-a-gt9.false c.if-n-eq1.false _ c.worth-b.ensures c.if-b-gt9.true)

pub returns-then-n-eq2 : goal.returns-then-n-eq2
returns-then-n-eq2 c =
    sym (is_two _ c.requires.0 c.requires.1 _ c.worth-a.ensures c.if-a-gt9.false c.if-n-eq1.false _ c.worth-b.ensures c.if-b-gt9.false c.if-n-eq2.true)

pub returns-then-c-gt9 : goal.returns-then-c-gt9
returns-then-c-gt9 c =
    sym (no_third _ c.requires.0 c.requires.1 _ c.worth-a.ensures c.if-a-gt9.false c.if-n-eq1.false _ c.worth-b.ensures c.if-b-gt9.false c.if-n-eq2.false _ c.worth-c.ensures c.if-c-gt9.true)

pub returns : goal.returns
returns c =
    sym (is_three _ c.requires.0 c.requires.1 _ c.worth-a.ensures c.if-a-gt9.false c.if-n-eq1.false _ c.worth-b.ensures c.if-b-gt9.false c.if-n-eq2.false _ c.worth-c.ensures c.if-c-gt9.false)
