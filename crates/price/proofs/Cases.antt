-- Marked cases M1 to M4 of documents 01 and 02, what the writer does with them, and the prices that are farthest from 0. Assumes nothing.
use Rattle.std.specs.Prelude.{Some, None}
use mathlib.Core.Path.{◌≡◌, refl}
use mathlib.Core.List.{List, [], ◌∷◌, ◌++◌}
use Prim.Native.Nat.{ℕ, ◌-◌}
use lib.IntN.{pos, negsuc}
use lib.ListN.{replicate}
use Rattle.digits.specs.Digits.{digits_of}
use Rattle.text.specs.Text.{fixed, width_to, width_of, decimal}
use Rattle.price.specs.Price.{most_wholes, most_decimals, top, fraction_of, amount_of, price_of}
use Rattle.price.specs.PriceText.{decimals, fraction_text, amount_text, price_text}

-- M1: 24.01 is 2401000000
pub m1 : price_of (50 ∷ 52 ∷ 46 ∷ 48 ∷ 49 ∷ []) ≡ Some (pos 2401000000)
unfolding price_of amount_of fraction_of digits_of
m1 = refl

-- M2: -0.5 is -50000000
pub m2 : price_of (45 ∷ 48 ∷ 46 ∷ 53 ∷ []) ≡ Some (negsuc 49999999)
unfolding price_of amount_of fraction_of digits_of
m2 = refl

-- M3: -0 is 0
pub m3 : price_of (45 ∷ 48 ∷ []) ≡ Some (pos 0)
unfolding price_of amount_of fraction_of digits_of
m3 = refl

-- M4: `1.` and 9 decimals are refused
pub m4_point : price_of (49 ∷ 46 ∷ []) ≡ None
unfolding price_of amount_of fraction_of digits_of
m4_point = refl

pub m4_many : price_of (49 ∷ 46 ∷ 49 ∷ 50 ∷ 51 ∷ 52 ∷ 53 ∷ 54 ∷ 55 ∷ 56 ∷ 57 ∷ []) ≡ None
unfolding price_of amount_of fraction_of digits_of
m4_many = refl

-- 0 is written as 0, and -0.5 as -0.5
pub writes_zero : price_text (pos 0) ≡ 48 ∷ []
unfolding price_text amount_text fraction_text decimal width_of width_to fixed
writes_zero = refl

pub writes_half : price_text (negsuc 49999999) ≡ 45 ∷ 48 ∷ 46 ∷ 53 ∷ []
unfolding price_text amount_text fraction_text decimals decimal width_of width_to fixed
writes_half = refl

-- the greatest price and its negative, every digit a 9, are read, and written as they were read
abbrev nines : List ℕ
nines = replicate most_wholes 57 ++ (46 ∷ replicate most_decimals 57)

pub greatest : price_of nines ≡ Some (pos (top - 1))
unfolding price_of amount_of fraction_of digits_of
greatest = refl

pub least : price_of (45 ∷ nines) ≡ Some (negsuc (top - 2))
unfolding price_of amount_of fraction_of digits_of
least = refl

pub writes_greatest : price_text (pos (top - 1)) ≡ nines
unfolding price_text amount_text fraction_text decimals decimal width_of width_to fixed
writes_greatest = refl

pub writes_least : price_text (negsuc (top - 2)) ≡ 45 ∷ nines
unfolding price_text amount_text fraction_text decimals decimal width_of width_to fixed
writes_least = refl
