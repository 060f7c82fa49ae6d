-- A place that has begun with e, field by field up to its end. Assumes nothing.
use Rattle.std.specs.Prelude.{Some, None}
use mathlib.Core.Path.{◌≡◌}
use mathlib.Core.List.{List, [], ◌∷◌, ◌++◌, append_assoc, append-nil}
use mathlib.Core.Bool.{true, false}
use Prim.Native.Nat.{ℕ}
use borrow.Author.Tests.{eq-eqb, ne_eqb}
use Rattle.chain.specs.Fields.{Field}
use Rattle.tags.specs.Tags.{tidy, up_to, onward}
use Rattle.tags.specs.Slots.{below, between}
use Rattle.tags.proofs.Tidiness.{fits, tidy_stray}
use Rattle.place.specs.Places.{split_from}

module _ (stop named low high : ℕ) where
  module _ (e : List Field) (t : tidy (below named) (between low high) e ≡ true) where
    pub split_end : split_from stop named low high e [] ≡ Some (record { inside = e; rest = [] })
    unfolding up_to onward
    split_end = rw (append-nil, t)

    pub split_stop : (f : Field) (fs : List Field) → f.tag ≡ stop → split_from stop named low high e (f ∷ fs) ≡ Some (record { inside = e; rest = f ∷ fs })
    unfolding up_to onward
    split_stop f fs q = rw (eq-eqb f.tag stop q, append-nil, t)

    pub split_stray : (f : Field) (fs : List Field) → (f.tag ≡ stop → ⊥) → fits (below named) (between low high) e f ≡ false → split_from stop named low high e (f ∷ fs) ≡ None
    unfolding up_to
    split_stray f fs q h = rw (ne_eqb f.tag stop q, tidy_stray (below named) (between low high) e f (up_to stop fs) h)

    pub split_more : (f : Field) (fs : List Field) → (f.tag ≡ stop → ⊥) → split_from stop named low high e (f ∷ fs) ≡ split_from stop named low high (e ++ (f ∷ [])) fs
    unfolding up_to onward
    split_more f fs q = rw (ne_eqb f.tag stop q, append_assoc e (f ∷ []) (up_to stop fs))
