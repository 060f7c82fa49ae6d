-- `digits::next` meets its contract. Assumes nothing.
use Rattle.std.proofs.Common.{take, drop, ◌∙◌, arith, length-drop, length-take-le}
use Rattle.digits.proofs.Fours.{same_digits, four_known}
use Rattle.digits.proofs.next.Goals as goal

pub returns : goal.returns
returns c =
    let s = c.args.text.now in
    let e = c.word.ensures in
    c.written.ensures ∙ same_digits _ (take 4 (drop c.args.at s)) (four_known _ s c.args.at c.requires e.1 e.2 e.3 e.4) (length-take-le 4 (drop c.args.at s) (omega (arith, c.requires, length-drop c.args.at s)))
