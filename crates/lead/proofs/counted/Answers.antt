-- `lead::counted` meets its contract: 268, then the entries that it counts. Assumes nothing.
use mathlib.Core.Path.{refl, sym, ◌∙◌}
use native.Mathlib.Omega.{arith}
use Rattle.chain.proofs.Walk.{found}
use Rattle.lead.proofs.Ways.{torn_leads, bad_leads, good_leads}
use Rattle.lead.proofs.counted.Goals as goal

pub returns-in_err-from : goal.returns-in_err-from
returns-in_err-from c = torn_leads _ _ _ _ c.from_residual.ensures (sym c.field.ensures ∙ c.in_err-from.was)

pub slice_bounds-ranged-count : goal.slice_bounds-ranged-count
slice_bounds-ranged-count c = let f = found _ _ (sym c.field.ensures ∙ c.in_ok-from.was) in omega (arith, f.some, f.high)

pub slice_bounds-ranged-start : goal.slice_bounds-ranged-start
slice_bounds-ranged-start c = let f = found _ _ (sym c.field.ensures ∙ c.in_ok-from.was) in omega (arith, f.some, f.high)

pub slice_bounds-ranged-end : goal.slice_bounds-ranged-end
slice_bounds-ranged-end c = let f = found _ _ (sym c.field.ensures ∙ c.in_ok-from.was) in omega (arith, f.some, f.high)

pub returns-in_err-count : goal.returns-in_err-count
returns-in_err-count c =
    bad_leads _ _ _ _ (sym c.field.ensures ∙ c.in_ok-from.was) c.from_residual-in_err-count.ensures (sym c.ranged.ensures ∙ c.in_err-count.was)

pub overflow_add-result : goal.overflow_add-result
overflow_add-result c =
    let f = found _ _ (sym c.field.ensures ∙ c.in_ok-from.was) in omega (arith, f.high, c.well_formed.0.0)

pub returns : goal.returns
returns c = good_leads _ _ _ _ (sym c.field.ensures ∙ c.in_ok-from.was) c.requires refl (sym c.ranged.ensures ∙ c.in_ok-count.was)
