-- A refused quote carries zeros, and a quote and a state are settled. Assumes nothing.
use mathlib.Core.Path.{refl, sym, ◌∙◌}
use mathlib.Core.Bool.{true≢false}
use Rattle.std.specs.Prelude.{Ok, Err}
use Rattle.ask.specs.Laws.{RefusedCarriesZeros, QuoteSettled, StateSettled}

pub refused_carries_zeros : RefusedCarriesZeros
refused_carries_zeros depth (Ok q) e = absurd (true≢false e)
refused_carries_zeros depth (Err why) e = refl

pub quote_settled : QuoteSettled
quote_settled id now limit room xs r s ys zs a b = (a.answer ∙ sym b.answer, a.out ∙ sym b.out)

pub state_settled : StateSettled
state_settled id room xs r s ys zs a b = (a.answer ∙ sym b.answer, a.out ∙ sym b.out)
