-- Lots computed: sides with so many units at a price, place 1 first.
use Rattle.std.specs.Prelude.{Option, None, Some, ◌≡◌, [], ◌∷◌, ℕ, ◌-◌, ◌*◌, ℤ, pos, negsuc}
use Rattle.holding.specs.Prices.{top}
use Rattle.book.specs.declared.Entry.{Entry}
use Rattle.book.specs.Cases.{four_bids}
use Rattle.proceeds.specs.declared.Sale.{Sale}
use Rattle.proceeds.specs.Lots.{lot_of}

abbrev pub of : ℕ → ℤ → Entry
of size price = record { price = price; size = size; by = 0; more = 0; moment = 0 }

abbrev pub brings : ℤ → ℕ → Option Sale
brings sum left = Some (record { sum = sum; left = left })

pub record LotCases : Type 0 where
  -- two places and a part of the third: the bids that source document 000 draws in section 9.1, at 10.58, 10.58, 10.57 and 10.54,
  -- in hundredths
  pub cut : lot_of 10000 four_bids ≡ brings (pos 10579000) 0
  -- a side that is used up, the second price below 0; and an empty one
  pub short : lot_of 10 (of 4 (pos 7) ∷ of 5 (negsuc 1) ∷ []) ≡ brings (pos 18) 1
  pub none : lot_of 10 [] ≡ brings (pos 0) 10
  -- -9 * 10^18 and then 12 * 10^18, a product that alone does not fit
  pub product : lot_of 3000 (of 1000 (negsuc 8999999999999999) ∷ of 2000 (pos 6000000000000000) ∷ []) ≡ brings (pos 3000000000000000000) 0
  -- -2^63 fits, and one below does not
  pub least : lot_of 536870912 (of 536870912 (negsuc 17179869183) ∷ []) ≡ brings (negsuc 9223372036854775807) 0
  pub below : lot_of 536870913 (of 536870912 (negsuc 17179869183) ∷ of 1 (negsuc 0) ∷ []) ≡ None
  -- 2^63 - 1 fits, and 2^63 does not
  pub most : lot_of 536870912 (of 536870911 (pos 17179869184) ∷ of 1 (pos 17179869183) ∷ []) ≡ brings (pos 9223372036854775807) 0
  pub above : lot_of 536870912 (of 536870912 (pos 17179869184) ∷ []) ≡ None
  -- a partial sum that does not fit, where the whole one would
  pub partial : lot_of 536870913 (of 536870912 (pos 17179869184) ∷ of 1 (negsuc 0) ∷ []) ≡ None
  -- the greatest quantity at the greatest price of tag 270, and at its negative
  pub largest : lot_of 999999999 (of 999999999 (pos (top - 1)) ∷ []) ≡ None
  pub smallest : lot_of 999999999 (of 999999999 (negsuc (top - 2)) ∷ []) ≡ None
  -- of that price 92 units fit, and 93 do not
  pub fitting : lot_of 92 (of 92 (pos (top - 1)) ∷ []) ≡ brings (pos (92 * (top - 1))) 0
  pub passing : lot_of 93 (of 93 (pos (top - 1)) ∷ []) ≡ None
