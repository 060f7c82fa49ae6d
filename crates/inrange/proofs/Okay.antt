-- What is there, if anything is, passes a test. Assumes nothing.
use Rattle.std.specs.Prelude.{Option, Some, None}
use mathlib.Core.Path.{◌≡◌, refl}
use mathlib.Core.Bool.{Bool, true, false, ◌&&◌}
use Rattle.values.specs.Values.{◌>>=◌, need}

abbrev pub okay : {A : Type 0} → (A → Bool) → Option A → Bool
okay p None = true
okay p (Some a) = p a

pub bind : {A B : Type 0} (p : A → Bool) (q : B → Bool) (o : Option A) (k : A → Option B) → okay p o ≡ true
    → ((a : A) → p a ≡ true → okay q (k a) ≡ true) → okay q (o >>= k) ≡ true
bind p q None k h f = refl
bind p q (Some a) k h f = f a h

pub needed : {A : Type 0} (p : A → Bool) (z : Bool) (o : Option A) → (z ≡ true → okay p o ≡ true) → okay p (need z o) ≡ true
needed p true o h = h refl
needed p false o h = refl

pub and_both : {A : Type 0} (p q : A → Bool) (o : Option A) → okay p o ≡ true → okay q o ≡ true → okay (λ a. p a && q a) o ≡ true
and_both p q None h g = refl
and_both p q (Some a) h g = rw (h, g)
