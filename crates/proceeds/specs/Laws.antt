-- What is shown of a lot of n units down the places es.
use Rattle.std.specs.Prelude.{None, Some, ◌≡◌, true, false, List, [], ◌∷◌, ℕ, ◌+◌, ◌≤◌, ◌<◌, length, take, get_or}
use Rattle.book.specs.declared.Entry.{Entry}
use Rattle.sums.specs.Sums.{fits}
use Rattle.proceeds.specs.declared.Sale.{Sale}
use Rattle.proceeds.specs.Lots.{units_of, left_of, sum_over, sum_after, lot_of}

unfoldable pub total : List ℕ → ℕ
total [] = 0
total (u ∷ us) = u + total us

unfoldable pub sizes : List Entry → List ℕ
sizes [] = []
sizes (e ∷ es) = e.size ∷ sizes es

pub record Exactly (n : ℕ) (es : List Entry) : Type 0 where
  -- The units taken and those left add up to the quantity.
  pub conserved : total (units_of n es) + left_of n es ≡ n
  -- A place takes units only where all before it are used up.
  pub in_order : (k : ℕ) → 0 < get_or (units_of n es) k 0 → take k (units_of n es) ≡ take k (sizes es)
  -- Something is left only where the side is used up.
  pub used_up : 0 < left_of n es → units_of n es ≡ sizes es
  -- A larger quantity never brings fewer units.
  pub grows : (m : ℕ) → n ≤ m → total (units_of n es) ≤ total (units_of m es)
  -- What is given is the exact sum and what is left,
  pub given : (s : Sale) → lot_of n es ≡ Some s → (s.sum ≡ sum_over n es) × (s.left ≡ left_of n es)
  -- and then every sum on the way fits.
  pub fit : (s : Sale) → lot_of n es ≡ Some s → (k : ℕ) → fits (sum_after n es k) ≡ true
  -- It is refused exactly when the sum after some of the places, from place 1 on, does not fit.
  pub refused : lot_of n es ≡ None → (k : ℕ) × ((k ≤ length es) × (fits (sum_after n es k) ≡ false))
  pub refuses : (k : ℕ) → fits (sum_after n es k) ≡ false → lot_of n es ≡ None
  -- The last of those sums is the whole one.
  pub whole : sum_after n es (length es) ≡ sum_over n es

abbrev pub LotsAreExact : Type 0
LotsAreExact = (n : ℕ) (es : List Entry) → Exactly n es
