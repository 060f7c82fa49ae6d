-- A side in the store takes an entry: a breach leaves the store as it was, with its reason, and any other action is 0 with the side worked.
use mathlib.Core.Path.{◌≡◌, sym, ap, ◌∙◌}
use mathlib.Core.List.{List}
use Prim.Native.Nat.{ℕ, ◌+◌, ◌-◌, ◌≤◌}
use lib.ListN.{length, take}
use lib.Seq.{sets}
use Rattle.book.specs.declared.Side.{Side}
use Rattle.book.specs.declared.Update.{Update}
use Rattle.book.specs.Sides.{Done, breach_of, first_changed}
use Rattle.book.specs.declared.reasons.Breach.{Breach}
use Rattle.book.specs.Results.{reason_number}
use Rattle.book.proofs.Breaches.{step_reason, refused_by}
use Rattle.book.proofs.Untouched.{before_changed}
use Rattle.cells.specs.Cells.{side_at, side_words, side_size}
use Rattle.cells.proofs.Windows.{length_side_at, side_again}
use Rattle.deliver.specs.Gives.{taken, worked, on_side_s}

taken_by : {r q : ℕ} {xs ys : List ℕ} → r ≡ q → xs ≡ ys → taken r xs ≡ taken q ys
taken_by h g = cc

-- s is the side at a
module _ (xs : List ℕ) (a : ℕ) (u : Update) {s : Side} (at : s ≡ side_at xs a) where
  steps : taken (worked s u).reason (sets xs a (side_words (worked s u).side)) ≡ on_side_s a u xs
  steps = ap (λ (t : Side). taken (worked t u).reason (sets xs a (side_words (worked t u).side))) at

  pub side_refused : a + side_size ≤ length xs → (why : Breach) → reason_number why ≡ breach_of s.held u.action u.place
      → taken (reason_number why) xs ≡ on_side_s a u xs
  side_refused h why r =
      let e = refused_by s u.action u.place u.entry why r in
      let w : sets xs a (side_words s) ≡ xs = ap (λ (t : Side). sets xs a (side_words t)) at ∙ side_again xs a h in
      taken_by (ap (λ (d : Done). d.reason) e) (sym w ∙ ap (λ (d : Done). sets xs a (side_words d.side)) e)
      ∙ steps

  pub side_worked : {t : Side} → 0 ≡ breach_of s.held u.action u.place → t ≡ (worked s u).side → taken 0 (sets xs a (side_words t)) ≡ on_side_s a u xs
  side_worked r h =
      taken_by (r ∙ sym (step_reason s u.action u.place u.entry)) (ap (λ (t : Side). sets xs a (side_words t)) h) ∙ steps

-- the places before the first that the entry may change stand there already
pub side_stands : (xs : List ℕ) (a : ℕ) (u : Update) {s t : Side} {from : ℕ} → s ≡ side_at xs a → t ≡ (worked s u).side
    → from ≡ first_changed u.action (u.place - 1) → take from t.places ≡ take from (side_at xs a).places
side_stands xs a u {s} at h g =
    let full : length s.places ≡ 20 = ap (λ (r : Side). length r.places) at ∙ length_side_at xs a in
    rw (g, h) (before_changed s u.place full u.action u.entry ∙ ap (λ (r : Side). take (first_changed u.action (u.place - 1)) r.places) at)
