-- What the contract of a call on a store settles (document 01, "What the contracts settle").
use Rattle.std.specs.Prelude.{◌≡◌, List, ℕ}

-- What a contract allows of a call: an answer, and what the run that was lent to be written holds afterwards.
abbrev pub Allowed : Type 1
Allowed = ℕ → List ℕ → Type 0

-- Any two outcomes that it allows are equal.
abbrev pub Settled : Allowed → Type 0
Settled allows = (r s : ℕ) (ys zs : List ℕ) → allows r ys → allows s zs → (r ≡ s) × (ys ≡ zs)
