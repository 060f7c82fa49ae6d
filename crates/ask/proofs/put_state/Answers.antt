-- `put_state` meets its contract: the four numbers are the instrument's.
use Rattle.std.proofs.Common.{◌≡◌, Bool, true, false, cond, refl, sym, ap, ◌∙◌}
use Rattle.std.proofs.lemmas.List.Edits.{sets}
use mir.Val.{bool_byte}
use Rattle.heading.specs.Marks.{marked}
use Rattle.store.specs.Meaning.{st}
use Rattle.ask.proofs.States.{state_is}
use Rattle.ask.proofs.put_state.Goals as goal

-- a mark as a number
one_if : (t : Bool) → bool_byte t ≡ cond t 1 0
one_if true = refl
one_if false = refl

pub returns : goal.returns
returns c =
    let x = c.args in
    let p = c.requires in
    let e : c.from.result ≡ cond (marked x.h.marks x.i) 1 0 = c.from.ensures ∙ ap bool_byte c.waits.ensures ∙ one_if (marked x.h.marks x.i) in
    rw e (sym (ap (sets x.out.now 0) (state_is (st x.h x.store.now) x.i p.0 p.1)))
