-- `ids_fine` meets its contract: what `all` answers is the definition's own walk.
use Rattle.std.proofs.Common.{ℕ, Bool, ◌≡◌, ◌&&◌, List, [], ◌∷◌, refl, ap, ◌∙◌, rules, tests}
use Rattle.std.specs.List.{list_all}
use Rattle.std.proofs.lemmas.Iterator.{YieldsList-from_slice}
use Rattle.std.proofs.lemmas.Iterator.Search.{all_from_yields_List}
use Rattle.board.specs.Ranges.{all, id_fine}
use Rattle.opening.proofs.ids_fine.Goals as goal

each : (f : ℕ → Bool) (xs : List ℕ) → list_all f xs ≡ all f xs
each f [] = refl
each f (x ∷ xs) = ap (λ (b : Bool). f x && b) (each f xs)

pub returns : goal.returns
returns c =
    let xs = c.args.ids.now in
    all_from_yields_List id_fine _ _ _ c.all.ensures.ran (YieldsList-from_slice xs cc) (λ x b q k. search (rules, tests)) ∙ each id_fine xs
