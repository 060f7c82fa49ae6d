-- What is measured of the reader of digits. Assumes nothing.
use Rattle.std.specs.Prelude.{Option, Some, None}
use Rattle.std.specs.Prelude.{ℕ, List}
use Rattle.digits.specs.Digits.{digits_of}

-- a number that was read, or 2 ^ 64 - 1
abbrev pub told : Option ℕ → ℕ
told (Some v) = v
told None = 18446744073709551615

-- 1 to 18 digits as one number
unfoldable pub gauge_of : List ℕ → ℕ
gauge_of bs = told (digits_of 18 bs)
