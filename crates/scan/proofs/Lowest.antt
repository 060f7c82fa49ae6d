-- The least number of the first slot is one above B, and of the next slot the number of this one.
use mathlib.Core.Path.{◌≡◌, refl}
use mathlib.Core.List.{List}
use Prim.Native.Nat.{ℕ, ◌+◌}
use native.Mathlib.Numerals.{add-one}
use lib.ListN.{get_or}
use Rattle.store.specs.Layout.{at_base, slot_of}
use Rattle.scan.specs.Scan.{low_of}

pub low_first : (xs : List ℕ) → low_of xs 0 ≡ get_or xs at_base 0 + 1
unfolding low_of
low_first xs = refl

pub low_next : (xs : List ℕ) (i : ℕ) → low_of xs (i + 1) ≡ get_or xs (slot_of i) 0
unfolding low_of
low_next xs i = rw add-one
