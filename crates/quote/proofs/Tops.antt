-- Place 1 of a side in the store. Assumes nothing.
use mathlib.Core.Path.{◌≡◌, refl, ap, ◌∙◌}
use mathlib.Core.List.{List}
use Prim.Native.Nat.{ℕ, zero, suc, ◌+◌, ◌*◌}
use native.Mathlib.Nat.{add-zero}
use lib.ListN.{get_or, take}
use Rattle.std.specs.Prelude.{Some, None}
use Rattle.book.specs.declared.Entry.{Entry}
use Rattle.book.specs.Canonical.{held_in}
use Rattle.cells.specs.Cells.{tab, entry_at, side_at}
use Rattle.quote.specs.Quotes.{top_of}

-- the first of 20, if any is held
first : (f : ℕ → Entry) (n : ℕ) → (n ≡ 0 → ⊥) → top_of (take n (tab f 20)) ≡ Some (f 0)
unfolding tab
first f zero h = absurd (h refl)
first f (suc n) h = refl

pub top_none : (xs : List ℕ) (a : ℕ) → get_or xs a 0 ≡ 0 → top_of (held_in (side_at xs a)) ≡ None
top_none xs a h = ap (λ (n : ℕ). top_of (take n (tab (λ (i : ℕ). entry_at xs (a + 1 + i * 5)) 20))) h

pub top_some : (xs : List ℕ) (a : ℕ) → (get_or xs a 0 ≡ 0 → ⊥) → top_of (held_in (side_at xs a)) ≡ Some (entry_at xs (a + 1))
top_some xs a h = first (λ (i : ℕ). entry_at xs (a + 1 + i * 5)) (get_or xs a 0) h ∙ ap (λ (k : ℕ). Some (entry_at xs k)) (add-zero (a + 1))
