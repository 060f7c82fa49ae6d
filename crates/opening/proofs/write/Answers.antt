-- `write` meets its contract: what its steps leave is the opened channel's numbers.
use mathlib.Core.Path.{ap, ◌∙◌}
use mathlib.Core.List.{List}
use Prim.Native.Nat.{ℕ}
use lib.ListN.{set}
use lib.Seq.{sets}
use Rattle.cells.specs.Cells.{zeros}
use Rattle.heading.specs.declared.Heading.{Heading}
use Rattle.store.specs.Meaning.{head_words}
use Rattle.opening.specs.Steps.{ids_in}
use Rattle.opening.proofs.Written.{opens_some, opened_is}
use Rattle.store.specs.Layout.{layout_number}
use Rattle.opening.proofs.write.Goals as goal

pub returns : goal.returns
returns c =
    let a = c.args in
    let xs = a.store.now in
    let ids = a.ids.now in
    let p = opens_some a.depth ids c.requires.1 in
    c.put_ids.ensures
    ∙ ap (λ (ys : List ℕ). ids_in ys 0 ids) (c.save_heading.ensures
    ∙ ap (λ (ys : List ℕ). sets (set ys 0 layout_number) 1 (head_words c.fresh-h.result)) c.zero_run.ensures
    ∙ ap (λ (h : Heading). sets (set (sets xs 0 (zeros 7168)) 0 layout_number) 1 (head_words h)) c.fresh-h.ensures)
    ∙ opened_is a.depth ids xs c.requires.0 p.0 p.1
