-- `stretch::message_of` meets its contract: the stretch that tag 9 names is the only one. Assumes nothing.
use Rattle.std.proofs.Common.{sym, ◌∙◌, arith}
use Rattle.stretch.proofs.Stretching.{no_length, too_short, unnamed, beyond, fails, holds}
use Rattle.stretch.proofs.message_of.Goals as goal

pub returns-in_err-get : goal.returns-in_err-get
returns-in_err-get c = c.from_residual.ensures ∙ no_length _ (too_short _ (omega (arith, c.in_err-get.ensures.lookup.0)))

pub returns-in_err-m : goal.returns-in_err-m
returns-in_err-m c =
    let h = c.in_ok-get.ensures.lookup in
    c.from_residual-in_err-m.ensures ∙ no_length _ (unnamed _ _ h.0.2 c.in_err-m.ensures)

pub returns-in_err-get-2 : goal.returns-in_err-get-2
returns-in_err-get-2 c =
    let h = c.in_ok-get.ensures.lookup in
    c.from_residual-in_err-get-2.ensures ∙ no_length _ (beyond _ _ h.0.2 c.in_ok-m.ensures (omega (arith, c.in_err-get-2.ensures.lookup.0)))

pub returns-then-accepted : goal.returns-then-accepted
returns-then-accepted c =
    let h = c.in_ok-get.ensures.lookup in
    let t = c.in_ok-get-2.ensures.lookup in
    holds _ _ h.0.2 c.in_ok-m.ensures _ t.0.2 t.0.1 (sym c.accepted.ensures ∙ c.if-accepted.true)

pub returns-else-accepted : goal.returns-else-accepted
returns-else-accepted c =
    let h = c.in_ok-get.ensures.lookup in
    let t = c.in_ok-get-2.ensures.lookup in
    no_length _ (fails _ _ h.0.2 c.in_ok-m.ensures _ t.0.2 (sym c.accepted.ensures ∙ c.if-accepted.false))
