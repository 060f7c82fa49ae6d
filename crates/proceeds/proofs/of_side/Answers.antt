-- The whole lot is what the places that are left make of the present sum. Assumes nothing.
use Rattle.std.proofs.Common.{◌≡◌, ◌-◌, ◌≤◌, ℤ, pos, Some, arith, sym, ap, ◌∙◌}
use mir.Syntax.{w64}
use mir.Facts.{to_z-of_z}
use Rattle.book.specs.Canonical.{held_in}
use Rattle.sums.specs.Sums.{sum_of}
use Rattle.sums.proofs.Levels.{fits_sum}
use Rattle.proceeds.specs.Lots.{lot_of}
use Rattle.proceeds.proofs.Runs.{run, first_held, run_lot, run_end, run_out, turn_out, turn_on}
use Rattle.proceeds.proofs.of_side.Goals.{else-loop-e-test, then-loop-e-test+then-left-eq0}
use Rattle.proceeds.proofs.of_side.Goals as goal

pub loop-e-init : goal.loop-e-init
unfolding sum_of
loop-e-init c =
    let s = c.args.s.now in
    (omega arith, omega arith, sym (run_lot c.args.quantity (held_in s)) ∙ ap (run (pos 0) c.args.quantity) (first_held s _ _ c.as_slice-places.ensures (omega arith)))

pub returns-in_err-level : goal.returns-in_err-level
returns-in_err-level c =
    let l = c.loop-e in
    let m = c.min-units.ensures in
    c.from_residual.ensures
    ∙ sym (l.invariant.2 ∙ turn_out _ l.e-index l.level l.left _ c.loop-e-test.true _ _ (to_z-of_z {w = w64} (record { sfits = omega arith })) m (sym c.in_err-level.ensures))

pub loop-e-preserved : goal.loop-e-preserved
loop-e-preserved c =
    let l = c.loop-e in
    let m = c.min-units.ensures in
    let few : l.left - c.min-units.result ≤ c.args.quantity = omega arith in
    let t = turn_on _ l.e-index l.level l.left _ c.loop-e-test.true _ _ (to_z-of_z {w = w64} (record { sfits = omega arith })) m c.in_ok-level.level (sym c.in_ok-level.ensures) in
    (t.0, few, l.invariant.2 ∙ t.1)

pub returns : goal.returns
returns c =
    let l = c.loop-e in
    let over : lot_of c.args.quantity (held_in c.args.s.now) ≡ Some (record { sum = sum_of l.level; left = l.left }) =
    elim c.loop-e-test.branch [
      | else-loop-e-test w ↦ l.invariant.2 ∙ run_end _ _ l.e-index _ w.loop-e-test.false
      | then-loop-e-test+then-left-eq0 w ↦ l.invariant.2 ∙ run_out _ _ _ (fits_sum l.level l.invariant.0) w.if-left-eq0.true
    ] in
    ap (λ (z : ℤ). Some (record { sum = z; left = l.left })) (to_z-of_z {w = w64} (record { sfits = c.sum_at.type_inv }) ∙ c.sum_at.ensures) ∙ sym over
