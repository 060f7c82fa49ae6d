-- `digits::whole` meets its contract. Assumes nothing.
use Rattle.std.proofs.Common.{sym, ◌∙◌}
use Rattle.digits.proofs.Plain.{is_no, is_number}
use Rattle.digits.proofs.Steps.{led, unled}
use Rattle.digits.proofs.whole.Goals as goal

pub returns-then-leads : goal.returns-then-leads
returns-then-leads c = sym (led _ _ (sym c.leads.ensures ∙ c.if-leads.true))

pub returns-then-width-le-FEW : goal.returns-then-width-le-FEW
returns-then-width-le-FEW c = c.few.ensures ∙ sym (unled _ _ (sym c.leads.ensures ∙ c.if-leads.false))

pub returns-then-v : goal.returns-then-v
returns-then-v c = sym (unled _ _ (sym c.leads.ensures ∙ c.if-leads.false) ∙ is_no _ _ c.read-v.ensures c.if-v.true)

pub returns-else-v : goal.returns-else-v
returns-else-v c = sym (unled _ _ (sym c.leads.ensures ∙ c.if-leads.false) ∙ is_number _ _ c.read-v.ensures c.if-v.false)
