-- `chain::find_by_one` meets its contract: the position in the bytes from a place on is how far the first x is. Assumes nothing.
use Rattle.std.proofs.Common.{rules, tests}
use Rattle.std.proofs.lemmas.Iterator.{YieldsList-from_slice}
use Rattle.std.proofs.lemmas.Iterator.Search.{position_from_yields_List}
use lib.Dec.{eqb}
use Rattle.chain.proofs.Scan.{first_is, none_first}
use Rattle.chain.proofs.find_by_one.Goals as goal

pub returns-in-Some : goal.returns-in-Some
returns-in-Some c = first_is _ _ _ c.requires _ (position_from_yields_List (λ b. eqb b c.args.x) _ _ c.position.result c.position.ensures.ran (YieldsList-from_slice _ c.iter.ensures.rest) (λ x b q k. search (rules, tests))) _ c.in-Some.is

pub returns-in-None : goal.returns-in-None
returns-in-None c = none_first _ _ _ c.requires _ (position_from_yields_List (λ b. eqb b c.args.x) _ _ c.position.result c.position.ensures.ran (YieldsList-from_slice _ c.iter.ensures.rest) (λ x b q k. search (rules, tests))) c.in-None.is
