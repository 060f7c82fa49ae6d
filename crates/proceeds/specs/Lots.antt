-- What a lot of n units brings down the places es of a side (document 02, K11): units go place by place, from place 1 on, and every sum
-- is exact. Whole numbers here have no bounds; that one does not fit is said by `fits` alone.
use Rattle.std.specs.Prelude.{Option, None, Some, Bool, true, cond, ◌&&◌, List, [], ◌∷◌, ℕ, zero, suc, ◌-◌, min, ℤ, pos, ◌+ℤ◌, ◌*ℤ◌, length, take}
use Rattle.book.specs.declared.Entry.{Entry}
use Rattle.sums.specs.Sums.{fits}
use Rattle.proceeds.specs.declared.Sale.{Sale}

-- The units that each place takes: its size, or what is left of the lot.
unfoldable pub units_of : ℕ → List Entry → List ℕ
units_of n [] = []
units_of n (e ∷ es) = min n e.size ∷ units_of (n - e.size) es

-- The quantity that no place takes.
unfoldable pub left_of : ℕ → List Entry → ℕ
left_of n [] = n
left_of n (e ∷ es) = left_of (n - e.size) es

-- Price times units, summed over the places.
unfoldable pub value_of : List Entry → List ℕ → ℤ
value_of (e ∷ es) (u ∷ us) = e.price *ℤ pos u +ℤ value_of es us
value_of [] us = pos 0
value_of (e ∷ es) [] = pos 0

-- The sum that the lot brings.
abbrev pub sum_over : ℕ → List Entry → ℤ
sum_over n es = value_of es (units_of n es)

-- A partial sum: that of the first k places.
abbrev pub sum_after : ℕ → List Entry → ℕ → ℤ
sum_after n es k = sum_over n (take k es)

-- Each sum after 1 to k places fits.
unfoldable pub all_fit : ℕ → List Entry → ℕ → Bool
all_fit n es zero = true
all_fit n es (suc k) = all_fit n es k && fits (sum_after n es (suc k))

-- It is refused exactly when the sum, or a partial sum from place 1 on, does not fit.
unfoldable pub lot_of : ℕ → List Entry → Option Sale
lot_of n es = cond (all_fit n es (length es)) (Some (record { sum = sum_over n es; left = left_of n es })) None
