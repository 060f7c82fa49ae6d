-- Each way to what leads to the entries, and what it leads to. Assumes nothing.
use Rattle.std.specs.Prelude.{Option, Some, None}
use mathlib.Core.Path.{◌≡◌, sym, ap, ◌∙◌}
use mathlib.Core.Bool.{true, false}
use mathlib.Core.List.{List}
use Prim.Native.Nat.{ℕ, ◌+◌}
use native.Mathlib.Omega.{arith}
use lib.ListN.{length}
use Rattle.digits.specs.Digits.{ranged_of}
use Rattle.digits.proofs.Ranges.{ranged_in}
use Rattle.message.specs.declared.Kind.{Kind}
use Rattle.message.specs.declared.Kind.TheVariants.{Numbered}
use Rattle.chain.specs.Places.{step, part, field_at, left}
use Rattle.chain.proofs.Walk.{left_tagged}
use Rattle.tags.specs.Tags.{tidy, up_to, onward, lookup}
use Rattle.tags.specs.Slots.{below, between, no_marks, marked}
use Rattle.place.specs.Places.{Place}
use Rattle.place.specs.Walks.{Walk}
use Rattle.place.proofs.Walking.{walk_untidy, walk_tidy}
use Rattle.position.specs.Positions.{Fair}
use Rattle.position.specs.declared.Top.{Top}
use Rattle.lead.specs.Messages.{other_of}
use Rattle.lead.specs.Leads.{top_x, top_by, head_end, body_by, telling, group_said, Leads}
use Rattle.lead.specs.LeadOf.{counted_lead, group_lead, other_lead}
use Rattle.lead.specs.declared.Lead.{Lead}
use Rattle.lead.proofs.Leading.{leads_none, leads_alone, leads_as}
use Rattle.lead.proofs.Bodies.{no_group, bad_count, good_count, untidy_body, topless_body, topped_body, top_same, top_fair, o_untidy, o_untidy_rest, o_no_top, o_is, is_top_x, top_x_same}

-- ---- the group from 268 on
module _ (s : List ℕ) (start : ℕ) (k : Kind) (t : Top) where
  abbrev Counts : Option Lead → Type 0
  Counts l = Leads s l (counted_lead s start k t) (λ depth. group_said k depth t (left s start))

  pub torn_leads : {l : Option Lead} → l ≡ None → field_at s start ≡ None → Counts l
  unfolding counted_lead
  torn_leads q e = leads_none q (rw e) (λ depth. rw (no_group s start depth t e))

  module _ {tag from to : ℕ} (e : field_at s start ≡ Some (step tag from to)) where
    pub bad_leads : {l : Option Lead} → l ≡ None → ranged_of 2 0 64 (part from to s) ≡ None → Counts l
    unfolding counted_lead
    bad_leads q r = leads_none q (rw (e, r)) (λ depth. rw (bad_count s start depth t tag from to e r))

    pub good_leads : Fair t → {l : Option Lead} {n : ℕ} → l ≡ Some (record { kind = k; top = t; at = to + 1; count = n }) → ranged_of 2 0 64 (part from to s) ≡ Some n → Counts l
    unfolding counted_lead
    good_leads h {n = n} q r =
        rw q (record { exact = rw (e, r); fair = h; few = (ranged_in 2 0 64 (part from to s) r).high; says = λ depth. rw (good_count s start depth t tag from to e n r) })

-- ---- X and W
module _ (k : Kind) (s : List ℕ) where
  abbrev Group : Option Lead → Type 0
  Group l = Leads s l (group_lead k s) (λ depth. telling (body_by k depth (left s 0)))

  pub untidy_leads : {l : Option Lead} {p : Place} → l ≡ None → Walk s 0 268 21 4 (head_end k) no_marks p → p.ok ≡ false → Group l
  unfolding group_lead
  untidy_leads q w h = leads_none q (rw (sym w.exact, h)) (λ depth. ap telling (untidy_body k depth (left s 0) (walk_untidy (omega arith) w h)))

  module _ {p : Place} (w : Walk s 0 268 21 4 (head_end k) no_marks p) (good : p.ok ≡ true) where
    alike : top_by k (marked s p.marks) ≡ top_by k (lookup (up_to 268 (left s 0)))
    alike = top_same k s p.marks (up_to 268 (left s 0)) (walk_tidy (omega arith) w good).holds

    pub topless_leads : {l : Option Lead} → l ≡ None → top_by k (marked s p.marks) ≡ None → Group l
    unfolding group_lead
    topless_leads q e = leads_none q (rw (sym w.exact, good, e)) (λ depth. ap telling (topless_body k depth (left s 0) (sym alike ∙ e)))

    pub topped_leads : {l : Option Lead} {t : Top} → top_by k (marked s p.marks) ≡ Some t → Leads s l (counted_lead s p.at k t) (λ depth. group_said k depth t (left s p.at)) → Group l
    unfolding group_lead
    topped_leads {t = t} e h =
        let y = walk_tidy (omega arith) w good in
        leads_as h (rw (sym w.exact, good, e)) (λ depth. telling (body_by k depth (left s 0)))
        (λ depth. ap (group_said k depth t) y.rest ∙ topped_body k depth (left s 0) y.tidy t (sym alike ∙ e))

-- ---- the other types
module _ (s : List ℕ) where
  abbrev Other : Option Lead → Type 0
  Other l = Leads s l (other_lead s) (λ depth. telling (other_of (left s 0)))

  pub untidy_other : {l : Option Lead} {p : Place} → l ≡ None → Walk s 0 268 6 4 6 no_marks p → p.ok ≡ false → Other l
  unfolding other_lead
  untidy_other q w h = leads_none q (rw (sym w.exact, h)) (λ depth. ap telling (o_untidy (left s 0) (walk_untidy (omega arith) w h)))

  module _ {p : Place} (w : Walk s 0 268 6 4 6 no_marks p) (good : p.ok ≡ true) where
    pub untidy_rest : {l : Option Lead} {r : Place} → l ≡ None → Walk s p.at 0 6 0 0 no_marks r → r.ok ≡ false → Other l
    unfolding other_lead
    untidy_rest q x breach =
        let h : tidy (below 6) (between 0 0) (up_to 0 (onward 268 (left s 0))) ≡ false = rw (walk_tidy (omega arith) w good).rest at (walk_untidy (omega arith) x breach) in
        leads_none q (rw (sym w.exact, good, sym x.exact, breach)) (λ depth. ap telling (o_untidy_rest (left s 0) (left_tagged s 0) h))

    module _ {r : Place} (x : Walk s p.at 0 6 0 0 no_marks r) (tidy_too : r.ok ≡ true) where
      same : top_x (marked s p.marks) ≡ top_x (lookup (up_to 268 (left s 0)))
      same = top_x_same 6 s p.marks (up_to 268 (left s 0)) (omega arith) (walk_tidy (omega arith) w good).holds

      pub topless_other : {l : Option Lead} → l ≡ None → top_x (marked s p.marks) ≡ None → Other l
      unfolding other_lead
      topless_other q e = leads_none q (rw (sym w.exact, good, sym x.exact, tidy_too, e)) (λ depth. ap telling (o_no_top (left s 0) (sym same ∙ e)))

      pub topped_other : {l : Option Lead} {t : Top} → top_x (marked s p.marks) ≡ Some t → l ≡ Some (record { kind = Numbered; top = t; at = length s; count = 0 }) → Other l
      unfolding other_lead
      topped_other {t = t} e q =
          let y = walk_tidy (omega arith) w good in
          let h : tidy (below 6) (between 0 0) (up_to 0 (onward 268 (left s 0))) ≡ true = rw y.rest at (walk_tidy (omega arith) x tidy_too).tidy in
          rw q (leads_alone s Numbered t (other_lead s) (λ depth. telling (other_of (left s 0))) (top_fair Numbered (marked s p.marks) e) (rw (sym w.exact, good, sym x.exact, tidy_too, e))
          (λ depth. o_is (left s 0) (left_tagged s 0) y.tidy h t (is_top_x (lookup (up_to 268 (left s 0))) (sym same ∙ e))))
