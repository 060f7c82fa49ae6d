-- A price as bytes (document 01, "Quote and writing"): no needless zero, point or minus. Assumes nothing.
use Rattle.std.specs.Prelude.{ℕ, zero, suc, ◌+◌, ◌/◌, ◌%◌, List, [], ◌∷◌, ◌++◌, cond, eqb, ℤ, pos, negsuc}
use Rattle.text.specs.Text.{fixed, decimal}
use Rattle.price.specs.Price.{most_wholes, most_decimals, unit}

-- k decimals without the zeros at the end
unfoldable pub decimals : ℕ → ℕ → List ℕ
decimals zero f = []
decimals (suc k) f = cond (eqb (f % 10) 0) (decimals k (f / 10)) (fixed (suc k) f)

-- no point where no decimal follows
unfoldable pub fraction_text : ℕ → List ℕ
fraction_text f = cond (eqb f 0) [] (46 ∷ decimals most_decimals f)

unfoldable pub amount_text : ℕ → List ℕ
amount_text m = decimal (m / unit) ++ fraction_text (m % unit)

-- a minus where the price is below 0
unfoldable pub price_text : ℤ → List ℕ
price_text (pos n) = amount_text n
price_text (negsuc n) = 45 ∷ amount_text (suc n)

-- the bytes of the longest: a minus, digits, a point, digits
abbrev pub most_text : ℕ
most_text = 1 + most_wholes + 1 + most_decimals
