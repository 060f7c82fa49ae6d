-- The marks are one bit each of a 16-bit number: 1 for Waiting.
use Rattle.std.specs.Prelude.{Bool, cond, ℕ, zero, suc, ◌+◌, ◌-◌, ◌/◌, ◌%◌, ◌^◌, eqb}
use Rattle.std.specs.Int.Bits.{bit_and, bit_or}

-- Bit i of m.
abbrev pub bit : ℕ → ℕ → ℕ
bit m i = m / 2 ^ i % 2

-- Whether instrument i is marked.
unfoldable pub marked : ℕ → ℕ → Bool
marked m i = eqb (bit m i) 1

-- How many of the first n are marked.
unfoldable pub marked_in : ℕ → ℕ → ℕ
marked_in m zero = 0
marked_in m (suc n) = marked_in m n + cond (marked m n) 1 0

-- The marks of the first n, all set.
unfoldable pub all_marks : ℕ → ℕ
all_marks n = 65535 / 2 ^ (16 - n)

-- Mark i set, and mark i cleared.
unfoldable pub with_mark : ℕ → ℕ → ℕ
with_mark m i = bit_or m (2 ^ i)

unfoldable pub without_mark : ℕ → ℕ → ℕ
without_mark m i = bit_and m (65535 - 2 ^ i)
