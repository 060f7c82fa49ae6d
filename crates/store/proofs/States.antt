-- A state is its heading and its numbers. Assumes nothing.
use mathlib.Core.Path.{◌≡◌}
use mathlib.Core.List.{List}
use Prim.Native.Nat.{ℕ}
use Rattle.heading.specs.declared.Heading.{Heading}
use Rattle.store.specs.Meaning.{st}

pub state_by : {h g : Heading} {xs ys : List ℕ} → h ≡ g → xs ≡ ys → st h xs ≡ st g ys
state_by p q = cc
