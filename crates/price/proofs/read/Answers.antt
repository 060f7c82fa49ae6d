-- `price::read` meets its contract: the sign, then the amount. Assumes nothing.
use Rattle.std.proofs.Common.{◌<◌, ◌^◌, Some, ap, sym, ◌∙◌, arith, rules}
use lib.IntN.{+ℤ_idl}
use mir.Syntax.{w64}
use mir.Facts.{to_z_pos}
use Rattle.price.specs.Price.{minus, plus}
use Rattle.price.proofs.Parts.{tail, price_none, price_minus, price_plus, amount_small}
use Rattle.price.proofs.Signed.{plus_fits, minus_fits, minus_is}
use Rattle.price.proofs.read.Goals as goal

pub returns-then-is_empty : goal.returns-then-is_empty
returns-then-is_empty c = sym (price_none c.args.text.now (search rules))

pub returns-in_err-amount : goal.returns-in_err-amount
returns-in_err-amount c =
    let d = rw tail at c.in_err-amount.ensures in
    c.from_residual.ensures ∙ sym (price_minus c.args.text.now (search rules) c.if-text-eq45.true ∙ ap minus (sym d))

pub overflow_cast-result : goal.overflow_cast-result
overflow_cast-result c = plus_fits _ (omega (arith, amount_small _ _ (sym c.in_ok-amount.ensures)))

pub overflow_sub-result : goal.overflow_sub-result
overflow_sub-result c =
    let l = amount_small _ _ (sym c.in_ok-amount.ensures) in
    let m : c.in_ok-amount.field-0 < 2 ^ 63 = omega arith in
    rw (to_z_pos w64 m, +ℤ_idl) (minus_fits _ m)

pub returns-then-text-eq45 : goal.returns-then-text-eq45
returns-then-text-eq45 c =
    let d = rw tail at c.in_ok-amount.ensures in
    let l = amount_small _ _ (sym c.in_ok-amount.ensures) in
    ap Some (minus_is _ (omega arith)) ∙ sym (price_minus c.args.text.now (search rules) c.if-text-eq45.true ∙ ap minus (sym d))

pub returns-in_err-amount-2 : goal.returns-in_err-amount-2
returns-in_err-amount-2 c =
    c.from_residual-in_err-amount-2.ensures
    ∙ sym (price_plus c.args.text.now (search rules) c.if-text-eq45.false ∙ ap plus (sym c.in_err-amount-2.ensures))

pub overflow_cast-result-2 : goal.overflow_cast-result-2
overflow_cast-result-2 c = plus_fits _ (omega (arith, amount_small _ _ (sym c.in_ok-amount-2.ensures)))

pub returns : goal.returns
returns c =
    let l = amount_small _ _ (sym c.in_ok-amount-2.ensures) in
    ap Some (to_z_pos w64 (omega arith)) ∙ sym (price_plus c.args.text.now (search rules) c.if-text-eq45.false ∙ ap plus (sym c.in_ok-amount-2.ensures))
