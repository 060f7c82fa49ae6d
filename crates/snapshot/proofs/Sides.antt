-- The entries of a side, written one by one. Assumes nothing.
use mathlib.Core.Path.{◌≡◌, refl}
use mathlib.Core.List.{List, [], ◌∷◌, ◌++◌}
use Prim.Native.Nat.{ℕ, zero, suc, ◌+◌, ◌<◌}
use native.Mathlib.Numerals.{add-one}
use native.Mathlib.Omega.{arith}
use lib.ListN.{length, drop, get_or}
use lib.Seq.{drop-cons}
use Rattle.chain.specs.Bytes.{bytes_of}
use Rattle.frame.proofs.Well.{bytes_append}
use Rattle.book.specs.Canonical.{All}
use Rattle.book.specs.declared.Entry.{Entry}
use Rattle.line.specs.Entries.{entry_fields}
use Rattle.snapshot.specs.Snapshot.{side_fields}

pub all_at : (P : Entry → Type 0) (es : List Entry) (i : ℕ) (z : Entry) → All P es → i < length es → P (get_or es i z)
all_at P [] i z h l = absurd (omega arith)
all_at P (e ∷ es) zero z h l = h.0
all_at P (e ∷ es) (suc i) z h l = all_at P es i z h.1 (omega arith)

module _ (depth sort : ℕ) where
  -- one entry more
  pub side_more : (i : ℕ) (es : List Entry) (z : Entry) → i < length es
      → bytes_of (side_fields depth sort (i + 1) (drop i es))
      ≡ bytes_of (entry_fields depth sort (i + 1) (get_or es i z)) ++ bytes_of (side_fields depth sort (i + 1 + 1) (drop (i + 1) es))
  unfolding side_fields
  side_more i es z h =
      rw (add-one i, drop-cons es i z h) (bytes_append (entry_fields depth sort (suc i) (get_or es i z)) (side_fields depth sort (suc i + 1) (drop (suc i) es)))

  pub side_end : (place : ℕ) → bytes_of (side_fields depth sort place []) ≡ []
  unfolding side_fields bytes_of
  side_end place = refl
