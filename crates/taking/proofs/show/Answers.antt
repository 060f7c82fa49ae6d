-- `show` meets its contract: the places made so far and the entries to come make the whole side.
use mathlib.Core.Path.{sym, ◌∙◌}
use borrow.Author.Tests.{eq-eqb, ne_eqb}
use native.Mathlib.Omega.{arith}
use Prim.Native.Nat.{ℕ, ◌*◌}
use Rattle.book.specs.declared.Update.{Update}
use Rattle.cells.specs.Cells.{update_at}
use Rattle.cells.proofs.Runs.{none_left}
use Rattle.board.specs.Snapshot.{entries_of}
use Rattle.taking.proofs.Showing.{shows_none, shows_over, shows_put, shows_end, entries_pass, entries_take}
use Rattle.taking.proofs.show.Goals as goal
use Rattle.taking.proofs.show.Goals.{then-what-side, else-what-side, then-n-lt-PLACES, else-n-lt-PLACES}

pub loop-i-init : goal.loop-i-init
loop-i-init c = (omega arith, rw c.no_entry-places.ensures (shows_none _))

pub loop-i-preserved : goal.loop-i-preserved
loop-i-preserved c =
    let l = c.loop-i in
    let us = c.args.us in
    let f : ℕ → Update = λ (i : ℕ). update_at us.run.now (i * 9) in
    let h = l.invariant.1 in
    elim c.if-what-side.branch [
      | then-what-side w ↦
          let e = entries_take c.args.side f us.count l.i (omega arith) (eq-eqb _ _ (sym c.what.ensures ∙ w.if-what-side.true)) in
          elim w.if-n-lt-PLACES.branch [
            | then-n-lt-PLACES z ↦
                rw (w.n-is, w.places-is, z.places-is, z.entry.ensures)
                (omega arith, shows_put l.places l.n (f l.i).entry _ _ z.if-n-lt-PLACES.true (rw e at h))
            | else-n-lt-PLACES z ↦ rw (w.n-is, w.places-is, z.places-is) (omega arith, shows_over l.places l.n _ _ _ z.if-n-lt-PLACES.false (rw e at h))
          ]
      | else-what-side w ↦
          let e = entries_pass c.args.side f us.count l.i (omega arith) (ne_eqb _ _ (λ q. w.if-what-side.false (c.what.ensures ∙ q))) in
          rw (w.n-is, w.places-is) (omega arith, rw e at h)
    ]

pub returns : goal.returns
unfolding entries_of
returns c =
    let l = c.loop-i in
    let us = c.args.us in
    shows_end l.places l.n _ (rw (none_left us.run.now us.count l.i (omega arith)) at l.invariant.1)
