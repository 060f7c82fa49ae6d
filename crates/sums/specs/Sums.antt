-- Sums of whole numbers without bounds, and which of them fit a signed 64-bit number (document 02, K11).
use Rattle.std.specs.Prelude.{Bool, cond, ◌&&◌, ℕ, ℤ, pos, negsuc, nat_abs, ◌+ℤ◌, Option, None, Some}
use Rattle.std.proofs.Math.IntN.{sub_ℕ}
use Rattle.std.specs.Int.Signed.{le_z}

-- The greatest signed number of 64 bits, 2^63 - 1, and how far the least one, -2^63, lies below -1.
abbrev pub most_above : ℕ
most_above = 9223372036854775807

abbrev pub most_below : ℕ
most_below = 9223372036854775807

-- From -2^63 to 2^63 - 1.
unfoldable pub fits : ℤ → Bool
fits z = le_z (negsuc most_below) z && le_z z (pos most_above)

-- 2^63.
abbrev pub half : ℕ
half = 9223372036854775808

-- The sum at a level: the level less 2^63.
unfoldable pub sum_of : ℕ → ℤ
sum_of level = sub_ℕ level half

-- The level of a sum that fits: the sum plus 2^63.
unfoldable pub level_of : ℤ → Option ℕ
level_of z = cond (fits z) (Some (nat_abs (z +ℤ pos half))) None
