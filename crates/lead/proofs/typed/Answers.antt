-- `lead::typed` meets its contract: the type's own way to read. Assumes nothing.
use native.Mathlib.Omega.{arith}
use borrow.Author.Tests.{ne_eqb}
use Rattle.lead.specs.Messages.{typed_as}
use Rattle.lead.proofs.typed.Goals as goal

pub returns-in-88 : goal.returns-in-88
unfolding typed_as
returns-in-88 c = simp c.in-88.is c.with_group.ensures

pub returns-in-87 : goal.returns-in-87
unfolding typed_as
returns-in-87 c = simp c.in-87.is c.with_group-in-87.ensures

pub returns-in_default : goal.returns-in_default
unfolding typed_as
returns-in_default c = simp (ne_eqb c.args.kind 88 (λ q. omega arith), ne_eqb c.args.kind 87 (λ q. omega arith)) c.other.ensures
