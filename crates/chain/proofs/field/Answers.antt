-- `chain::field` meets its contract: the places that it finds are those of the field. Assumes nothing.
use mathlib.Core.Path.{sym}
use Rattle.chain.proofs.Reading.{no_end, no_text, a_field}
use Rattle.chain.proofs.field.Goals as goal
use Rattle.chain.proofs.field.Goals.{then-s-to-via-then-s-to, then-s-to-via-else-s-to+then-to-from}

pub returns-then-s-to : goal.returns-then-s-to
returns-then-s-to c =
    let h = c.in_ok-tag.ensures in
    elim c.then-s-to.branch [
      | then-s-to-via-then-s-to w ↦ sym (no_end _ _ _ _ _ h.0 h.1.0 h.1.1 c.find-to.ensures w.if-s-to.true)
      | then-s-to-via-else-s-to+then-to-from w ↦ sym (no_text _ _ _ _ _ h.0 h.1.0 h.1.1 c.find-to.ensures w.if-s-to.false w.if-to-from.true)
    ]

pub returns : goal.returns
returns c =
    let h = c.in_ok-tag.ensures in
    sym (a_field _ _ _ _ _ h.0 h.1.0 h.1.1 c.find-to.ensures c.if-s-to.false c.if-to-from.false)
