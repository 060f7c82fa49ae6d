-- `digits::both` meets its contract. Assumes nothing.
use Rattle.std.specs.Prelude.{Some}
use Rattle.std.proofs.Common.{ℕ, ◌+◌, ◌*◌, sym, ap, ◌∙◌, arith}
use Rattle.digits.proofs.Words.{number}
use Rattle.digits.proofs.Parts.{writes_both, writes_both_none}
use Rattle.digits.proofs.both.Goals as goal

pub returns-then-w-more-ne0 : goal.returns-then-w-more-ne0
returns-then-w-more-ne0 c =
    sym (writes_both_none c.args.a c.args.b c.requires.0 c.requires.1 c.if-w-more-ne0.true)

pub overflow_mul-result : goal.overflow_mul-result
overflow_mul-result c =
    let e = c.four.ensures in
    omega (arith, e)

pub overflow_add-result : goal.overflow_add-result
overflow_add-result c =
    let e = c.four.ensures in
    let f = c.four-2.ensures in
    omega (arith, e, f)

pub returns : goal.returns
returns c =
    ap (λ (u : ℕ). Some (u * 10000 + c.four-2.result)) c.four.ensures ∙ ap (λ (u : ℕ). Some (number c.args.a * 10000 + u)) c.four-2.ensures ∙ sym (writes_both c.args.a c.args.b c.requires.0 c.requires.1 c.if-w-more-ne0.false)
