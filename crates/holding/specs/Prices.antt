-- The prices of tag 270, and the number that holds one in the store: 0, -1, 1, -2, 2, .. are 0, 1, 2, 3, 4, .. Assumes nothing.
use Rattle.std.specs.Prelude.{ℕ, ◌+◌, ◌-◌, ◌*◌, ◌/◌, ◌%◌, ◌^◌, cond, eqb, ℤ, pos, negsuc}

-- tag 270 has 1 to 9 digits before the point
abbrev pub most_wholes : ℕ
most_wholes = 9

-- and 1 to 8 after it (document 02, K6): unit, ranges and texts of prices follow from these two
abbrev pub most_decimals : ℕ
most_decimals = 8

-- a price of 1
abbrev pub unit : ℕ
unit = 10 ^ most_decimals

-- a price of so many hundredths
abbrev pub hundredths : ℕ → ℤ
hundredths n = pos (n * (unit / 100))

-- no price is as far from 0
abbrev pub top : ℕ
top = 10 ^ most_wholes * unit

unfoldable pub held_of : ℤ → ℕ
held_of (pos n) = n * 2
held_of (negsuc n) = n * 2 + 1

unfoldable pub of_held : ℕ → ℤ
of_held w = cond (eqb (w % 2) 0) (pos (w / 2)) (negsuc (w / 2))

-- prices are held as 0 to this, the greatest of them
abbrev pub held_top : ℕ
held_top = (top - 1) * 2
