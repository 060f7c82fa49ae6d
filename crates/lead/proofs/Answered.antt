-- What is answered for a group, a breach being 14, is what an X or a W says. Assumes nothing.
use Rattle.std.specs.Prelude.{Option, Some, None, Ok}
use mathlib.Core.Path.{◌≡◌, refl, ap, ◌∙◌}
use mathlib.Core.List.{List}
use mathlib.Core.Bool.{true}
use Prim.Native.Nat.{ℕ}
use lib.ListN.{length}
use Rattle.book.specs.declared.Update.{Update}
use Rattle.message.specs.Message.{Message, Told, refused, told}
use Rattle.message.specs.declared.Refusal.TheVariants.{BadFields}
use Rattle.message.specs.declared.Kind.{Kind}
use Rattle.message.specs.declared.Kind.TheVariants.{Numbered, Snapshot}
use Rattle.chain.specs.Fields.{Field}
use Rattle.tags.specs.Tags.{tidy, up_to, onward, lookup}
use Rattle.tags.specs.Slots.{below, between}
use Rattle.values.specs.Values.{◌>>=◌}
use Rattle.position.specs.declared.Top.{Top}
use Rattle.lead.specs.Messages.{changes_of, snapshot_of, or_bad_fields}
use Rattle.lead.specs.Leads.{telling, counted}
use Rattle.lead.proofs.Bodies.{TopX, TopW, x_is, w_is}

-- What is answered for a group of this kind.
unfoldable pub answered : Kind → Top → Option (List Update) → Told
answered kind t None = told (refused BadFields)
answered kind t (Some us) =
    record {
      reading = Ok (record { kind = kind; number = t.number; heard = t.heard; id = t.id; last = t.last; loops = t.loops; count = length us });
      entries = us;
    }

-- what is told of a message, or of a breach
unfoldable or_refused : Option Told → Told
or_refused None = told (refused BadFields)
or_refused (Some t) = t

told_or : (o : Option Message) → or_refused (telling o) ≡ told (or_bad_fields o)
unfolding or_bad_fields or_refused
told_or None = refl
told_or (Some m) = refl

answered_or : (kind : Kind) (t : Top) (k : List Update → Told) → ((us : List Update) → answered kind t (Some us) ≡ k us) → (o : Option (List Update))
    → answered kind t o ≡ or_refused (o >>= λ us. Some (k us))
unfolding answered or_refused
answered_or kind t k h None = refl
answered_or kind t k h (Some us) = h us

module _ (depth : ℕ) (fs : List Field) where
  pub x_answered : tidy (below 21) (between 4 6) (up_to 268 fs) ≡ true → (t : Top) → TopX (lookup (up_to 268 fs)) t → (rest : List Field) → rest ≡ onward 268 fs
      → answered Numbered t (counted depth t rest) ≡ told (or_bad_fields (changes_of depth fs))
  unfolding answered
  x_answered h t p rest q =
      let e = x_is depth fs h t p in
      rw q (answered_or Numbered t _ (λ us. rw p.same refl) (counted depth t (onward 268 fs)) ∙ ap or_refused e ∙ told_or (changes_of depth fs))

  pub w_answered : tidy (below 21) (between 4 11) (up_to 268 fs) ≡ true → (t : Top) → TopW (lookup (up_to 268 fs)) t → (rest : List Field) → rest ≡ onward 268 fs
      → answered Snapshot t (counted depth t rest) ≡ told (or_bad_fields (snapshot_of depth fs))
  unfolding answered
  w_answered h t p rest q =
      let e = w_is depth fs h t p in
      rw q (answered_or Snapshot t _ (λ us. rw p.same refl) (counted depth t (onward 268 fs)) ∙ ap or_refused e ∙ told_or (snapshot_of depth fs))
