-- `digits::first` meets its contract. Assumes nothing.
use Rattle.std.proofs.Common.{◌-◌, ◌++◌, take, replicate, ◌∙◌}
use Rattle.digits.proofs.Fours.{same_digits}
use Rattle.digits.proofs.Parts.{few_long}
use Rattle.digits.proofs.first.Goals as goal

pub returns : goal.returns
returns c =
    let s = c.args.text.now in
    c.written.ensures ∙ same_digits _ (replicate (4 - c.args.count) 48 ++ take c.args.count s) c.front.ensures.1 (few_long s c.args.count c.requires.0 c.requires.1)
