-- `price::amount` meets its contract, part by part. Assumes nothing.
use Rattle.std.proofs.Common.{◌+◌, drop, sym, ◌∙◌, arith, length-drop}
use Rattle.digits.proofs.Width.{below, digits_width}
use Rattle.price.specs.Price.{most_wholes, most_decimals}
use Rattle.price.proofs.Parts.{amount_no, amount_whole, amount_half, amount_both, fraction_lt, tail}
use Rattle.price.proofs.amount.Goals as goal

pub returns-in_err-w : goal.returns-in_err-w
returns-in_err-w c = c.from_residual.ensures ∙ sym (amount_no c.args.text.now c.find-p.result c.find-p.ensures.0 (sym c.in_err-w.ensures))

pub overflow_mul-result : goal.overflow_mul-result
overflow_mul-result c = omega (arith, below most_wholes _ (sym c.in_ok-w.ensures))

pub returns-then-p-text : goal.returns-then-p-text
returns-then-p-text c = sym (amount_whole c.args.text.now c.find-p.result c.find-p.ensures.0 _ (sym c.in_ok-w.ensures) c.if-p-text.true)

pub returns-in_err-f : goal.returns-in_err-f
returns-in_err-f c =
    let s = c.args.text.now in
    let p = c.find-p in
    c.from_residual-in_err-f.ensures
    ∙ sym (amount_half s p.result p.ensures.0 _ (sym c.in_ok-w.ensures) (omega arith) (rw (tail s (p.result + 1)) at (sym c.in_err-f.ensures)))

pub overflow_mul-result-2 : goal.overflow_mul-result-2
overflow_mul-result-2 c = omega (arith, below most_wholes _ (sym c.in_ok-w.ensures))

pub scale-requires : goal.scale-requires
scale-requires c =
    let s = c.args.text.now in
    let q = c.find-p.result + 1 in
    omega (arith, (digits_width most_decimals (drop q s) (rw (tail s q) at (sym c.in_ok-f.ensures))).0, length-drop q s)

pub overflow_mul-result-3 : goal.overflow_mul-result-3
overflow_mul-result-3 c =
    let s = c.args.text.now in
    let p = c.find-p.result in
    omega (arith, fraction_lt s p _ c.scale.result (rw (tail s (p + 1)) at (sym c.in_ok-f.ensures)) c.scale.ensures)

pub overflow_add-result : goal.overflow_add-result
overflow_add-result c =
    let s = c.args.text.now in
    let p = c.find-p.result in
    omega (arith, fraction_lt s p _ c.scale.result (rw (tail s (p + 1)) at (sym c.in_ok-f.ensures)) c.scale.ensures, below most_wholes _ (sym c.in_ok-w.ensures))

pub returns : goal.returns
returns c =
    let s = c.args.text.now in
    let p = c.find-p in
    let d = rw (tail s (p.result + 1)) at (sym c.in_ok-f.ensures) in
    rw c.scale.ensures (sym (amount_both s p.result p.ensures.0 _ _ (sym c.in_ok-w.ensures) (omega arith) d))
