-- `digits::middle` meets its contract. Assumes nothing.
use Rattle.std.proofs.Common.{◌≡◌, ◌+◌, ◌-◌, length, ◌∙◌, arith}
use Rattle.digits.proofs.Fours.{four_known}
use Rattle.digits.proofs.Parts.{two_words}
use Rattle.digits.proofs.middle.Goals as goal

pub returns : goal.returns
returns c =
    let s = c.args.text.now in
    let f = c.word-b.ensures in
    let k = length s - 4 in
    let m : k + 4 ≡ length s = omega (arith, c.requires.0) in
    c.both.ensures ∙ two_words s k _ _ c.requires.0 c.requires.1 m c.front-a.ensures.1 (four_known _ s k (omega (arith, m)) f.1 f.2 f.3 f.4)
