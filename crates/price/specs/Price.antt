-- Tag 270 (document 01, "Fields"; document 02, K6): an optional minus, 1 to 9 digits (leading zeros allowed), then nothing or a
-- point and 1 to 8 digits; held as a signed whole number of hundred-millionths. Assumes nothing.
use Rattle.std.specs.Prelude.{ℤ, Option, Some, None}
use Rattle.std.specs.Prelude.{ℕ, ◌+◌, ◌-◌, ◌*◌, ◌^◌, List, [], ◌∷◌, cond, length, take, drop, pos, neg_ℤ, eqb}
use Rattle.digits.specs.Digits.{digits_of}
pub use Rattle.holding.specs.Prices.{most_wholes, most_decimals, unit, hundredths, top}

-- an optional minus, then an amount
abbrev pub minus : Option ℕ → Option ℤ
minus (Some n) = Some (neg_ℤ (pos n))
minus None = None

abbrev pub plus : Option ℕ → Option ℤ
plus (Some n) = Some (pos n)
plus None = None

-- how many bytes stand before the first x
abbrev pub ahead : ℕ → List ℕ → ℕ
ahead x [] = 0
ahead x (b ∷ bs) = cond (eqb b x) 0 (ahead x bs + 1)

-- nothing, or a point and digits, filled up with zeros
abbrev pub scaled : ℕ → Option ℕ → Option ℕ
scaled n (Some b) = Some (b * 10 ^ n)
scaled n None = None

unfoldable pub fraction_of : List ℕ → Option ℕ
fraction_of [] = Some 0
fraction_of (point ∷ bs) = scaled (most_decimals - length bs) (digits_of most_decimals bs)

abbrev pub joined : Option ℕ → Option ℕ → Option ℕ
joined (Some a) (Some b) = Some (a * unit + b)
joined (Some a) None = None
joined None b = None

-- digits up to the point, and what follows
unfoldable pub amount_of : List ℕ → Option ℕ
amount_of bs = joined (digits_of most_wholes (take (ahead 46 bs) bs)) (fraction_of (drop (ahead 46 bs) bs))

unfoldable pub price_of : List ℕ → Option ℤ
price_of [] = None
price_of (b ∷ bs) = cond (eqb b 45) (minus (amount_of bs)) (plus (amount_of (b ∷ bs)))
