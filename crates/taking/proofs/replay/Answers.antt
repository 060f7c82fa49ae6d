-- `replay` meets its contract: what is left of the queue, on the book so far, gives the same.
use mathlib.Core.Bool.{true}
use mathlib.Core.Path.{◌≡◌, sym, ap, ◌∙◌}
use native.Mathlib.Omega.{arith}
use Rattle.std.proofs.lemmas.Result.{err_from_is_err_and}
use Rattle.book.specs.Sides.{book_step}
use Rattle.store.specs.Meaning.{queued_at}
use Rattle.terms.specs.Terms.{due}
use Rattle.taking.proofs.Turns.{passes, goes_on_at, stops_at}
use Rattle.taking.proofs.replay.Goals as goal
use Rattle.taking.proofs.replay.Goals.{then-is_due+in_ok-work, else-is_due}

pub returns-in_err-work : goal.returns-in_err-work
unfolding queued_at
returns-in_err-work c =
    let l = c.loop-k in
    let a = c.args in
    let f = queued_at a.store.now in
    let e : due a.i a.last (f l.k).update.who (f l.k).update.what (f l.k).number ≡ true = sym c.is_due.ensures ∙ c.if-is_due.true in
    let p = err_from_is_err_and c.from_residual.result c.from_residual.ensures.1 in
    rw (p.1, p.2) (stops_at a.i a.last f a.q l.k l.b (omega arith) e _ _ _ l.invariant (c.in_err-work.ensures ∙ ap (book_step l.b) c.load_update.ensures))

pub loop-k-preserved : goal.loop-k-preserved
unfolding queued_at
loop-k-preserved c =
    let l = c.loop-k in
    let a = c.args in
    let f = queued_at a.store.now in
    elim c.if-is_due.branch [
      | then-is_due+in_ok-work w ↦
          let e : due a.i a.last (f l.k).update.who (f l.k).update.what (f l.k).number ≡ true = sym c.is_due.ensures ∙ w.if-is_due.true in
          rw w.b-is (goes_on_at a.i a.last f a.q l.k l.b (omega arith) e _ _ (w.in_ok-work.ensures ∙ ap (book_step l.b) w.load_update.ensures) ∙ l.invariant)
      | else-is_due w ↦ rw w.b-is (passes a.i a.last f a.q l.k l.b (omega arith) (sym c.is_due.ensures ∙ w.if-is_due.false) ∙ l.invariant)
    ]
