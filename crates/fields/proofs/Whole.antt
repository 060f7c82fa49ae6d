-- The whole message: what its body says where that reads well, else why it is not read. Assumes nothing.
use Rattle.std.specs.Prelude.{Option, Some, None, Result, Ok, Err}
use mathlib.Core.Path.{◌≡◌, refl, sym, ap, ◌∙◌}
use mathlib.Core.List.{List}
use Prim.Native.Nat.{ℕ, ◌-◌}
use lib.ListN.{length}
use Rattle.message.specs.Message.{Message, refused, told}
use Rattle.message.specs.declared.Reading.{Reading}
use Rattle.message.specs.declared.Refusal.{Refusal}
use Rattle.message.specs.declared.Refusal.TheVariants.{BadFields}
use Rattle.cells.proofs.Runs.{no_updates}
use Rattle.chain.specs.Places.{part, is_some, left}
use Rattle.chain.proofs.Walk.{left_whole}
use Rattle.frame.specs.Frames.{of_type, frame_of}
use Rattle.frame.specs.ByPlace.{outline_of}
use Rattle.frame.specs.declared.Framed.{Framed}
use Rattle.frame.specs.declared.FrameError.{FrameError}
use Rattle.frame.proofs.Messages.{framing, outline, outlined}
use Rattle.tags.proofs.Unbroken.{unbroken}
use Rattle.group.specs.Reads.{Spared, Reads}
use Rattle.lead.specs.Messages.{or_bad_fields, typed_as}
use Rattle.fields.specs.Messages.{refusal_of, message_in}
use Rattle.fields.specs.Bodies.{Tells, Answers, Body}
use Rattle.fields.proofs.Unbroken.{typed_well}

-- ---- what was read of fields
none_heard : (o : Option Message) (ys : List ℕ) → Answers o None ys → o ≡ None
none_heard None ys h = refl
none_heard (Some m) ys h = absurd h

record Heard (o : Option Message) (r : Reading) (ys : List ℕ) : Type 0 where
  pub message : Message
  pub is : o ≡ Some message
  pub tells : Tells message r ys

heard : (o : Option Message) {r : Reading} {ys : List ℕ} → Answers o (Some r) ys → Heard o r ys
heard None h = absurd h
heard (Some m) h = record { message = m; is = refl; tells = h }

none_refused : or_bad_fields None ≡ refused BadFields
unfolding or_bad_fields
none_refused = refl

some_said : (m : Message) → or_bad_fields (Some m) ≡ m
unfolding or_bad_fields
some_said m = refl

-- ---- the message
module _ (depth : ℕ) (s : List ℕ) where
  -- the bytes between 35 and 10, of which the walk takes the fields
  abbrev inner : ℕ → List ℕ
  inner from = part from (length s - 7) s

  -- what it says on a channel of this depth kind
  abbrev body_as : ℕ → ℕ → Option Message
  body_as kind from = typed_as depth kind (left (inner from) 0)

  -- with a good frame that is what the message says
  body_is : {kind from : ℕ} → frame_of s ≡ Ok (of_type kind from) → or_bad_fields (body_as kind from) ≡ message_in depth s
  unfolding message_in
  body_is {kind} {from} e = rw (e, left_whole (inner from) 0 (framing s e).body)

  -- without, or where it says nothing, the message is refused
  refusal_is : ((kind from : ℕ) → frame_of s ≡ Ok (of_type kind from) → body_as kind from ≡ None) → message_in depth s ≡ refused (refusal_of (frame_of s))
  unfolding message_in
  refusal_is h = go (frame_of s) refl
    where
      go : (x : Result Framed FrameError) → frame_of s ≡ x → message_in depth s ≡ refused (refusal_of x)
      go (Ok f) e = sym (body_is e) ∙ ap or_bad_fields (h f.kind f.from e) ∙ none_refused
      go (Err FrameError.BadFrame) e = rw e
      go (Err FrameError.BadSum) e = rw e
      go (Err FrameError.BadType) e = rw e

  module _ {r : Result Reading Refusal} {xs ys : List ℕ} (q : r ≡ Err (refusal_of (frame_of s))) where
    not_read : message_in depth s ≡ refused (refusal_of (frame_of s)) → Spared xs ys → Reads (told (message_in depth s)) r xs ys
    unfolding told
    not_read e l = rw (e, q) (record { reading = refl; entries = no_updates ys; run = l })

    -- no outline
    pub no_outline : ((kind from : ℕ) → outline_of s ≡ Ok (of_type kind from) → ⊥) → Spared xs ys → Reads (told (message_in depth s)) r xs ys
    no_outline h l = not_read (refusal_is (λ k f e. absurd (h k f (outlined s k f e)))) l

    -- an outline, and a body that breaches a rule
    pub body_refused : {kind from : ℕ} → outline_of s ≡ Ok (of_type kind from) → Body (body_as kind from) None xs ys → Reads (told (message_in depth s)) r xs ys
    body_refused {kind} {from} o h = not_read (refusal_is none_of) h.run
      where
        none_of : (k f : ℕ) → frame_of s ≡ Ok (of_type k f) → body_as k f ≡ None
        none_of k f e =
            let same : ◌≡◌ {A = Result Framed FrameError} (Ok (of_type kind from)) (Ok (of_type k f)) = sym o ∙ outlined s k f e in
            let z : of_type kind from ≡ of_type k f = cc in
            let a : kind ≡ k = ap (λ (x : Framed). x.kind) z in
            let b : from ≡ f = ap (λ (x : Framed). x.from) z in
            rw (← a, ← b) (none_heard (body_as kind from) ys h.answers)

  -- an outline, and a body that is read: its fields are a chain
  pub body_read : {kind from : ℕ} {r : Reading} {xs ys : List ℕ} → outline_of s ≡ Ok (of_type kind from)
      → Body (body_as kind from) (Some r) xs ys → Reads (told (message_in depth s)) (Ok r) xs ys
  body_read {kind} {from} o h =
      let fs = left (inner from) 0 in
      let w = heard (body_as kind from) h.answers in
      let well = typed_well fs depth kind w.is in
      let e : message_in depth s ≡ w.message =
      sym (body_is ((outline s kind from o).frame (ap is_some (unbroken (inner from) 0 well.unbroken)))) ∙ ap or_bad_fields w.is ∙ some_said w.message in
      rw e (record { reading = w.tells.reading; entries = w.tells.entries; run = h.run })
