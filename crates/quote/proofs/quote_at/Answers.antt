-- `quote::quote_at` meets its contract, test by test. Assumes nothing.
use mathlib.Core.Path.{sym, ◌∙◌}
use mir.Syntax.{w64}
use mir.Facts.{to_z-of_z}
use Rattle.store.specs.Meaning.{st}
use Rattle.quote.proofs.Asked.{not_followed, is_waiting, nothing_heard, is_quoted}
use Rattle.quote.proofs.quote_at.Goals as goal

pub returns-then-h-i : goal.returns-then-h-i
returns-then-h-i c = let a = c.args in sym (not_followed (st a.h a.store.now) a.i a.time a.limit c.if-h-i.true)

pub returns-then-waits : goal.returns-then-waits
returns-then-waits c = let a = c.args in sym (is_waiting (st a.h a.store.now) a.i a.time a.limit c.if-h-i.false (sym c.waits.ensures ∙ c.if-waits.true))

pub returns-then-h-eq0 : goal.returns-then-h-eq0
returns-then-h-eq0 c = let a = c.args in sym (nothing_heard (st a.h a.store.now) a.i a.time a.limit c.if-h-i.false (sym c.waits.ensures ∙ c.if-waits.false) c.if-h-eq0.true)

pub returns : goal.returns
returns c =
    let a = c.args in
    let g = to_z-of_z {w = w64} (record { sfits = c.age.type_inv }) ∙ c.age.ensures in
    c.aged.ensures
    ∙ rw (g, c.first_of.ensures, c.first_of-2.ensures)
    (sym (is_quoted (st a.h a.store.now) a.i a.time a.limit c.if-h-i.false (sym c.waits.ensures ∙ c.if-waits.false) c.if-h-eq0.false))
