-- `price::find` meets its contract: the position of x, or the length where there is none. Assumes nothing.
use Rattle.std.proofs.Common.{rules, tests, eqb}
use Rattle.std.proofs.lemmas.Iterator.{YieldsList-from_slice}
use Rattle.std.proofs.lemmas.Iterator.Search.{position_from_yields_List}
use Rattle.price.proofs.Parts.{find_is}
use Rattle.price.proofs.find.Goals as goal

pub returns : goal.returns
returns c =
    find_is _ _ _ _
    (position_from_yields_List (λ b. eqb b c.args.x) _ _ c.position.result c.position.ensures.ran (YieldsList-from_slice _ c.iter.ensures.rest) (λ x b q k. search (rules, tests)))
    c.unwrap_or.ensures
