-- What digits say (document 01, "Fields"). Assumes nothing.
use Rattle.std.specs.Prelude.{Option, Some, None}
use Rattle.std.specs.Prelude.{ℕ, ◌+◌, ◌-◌, ◌*◌, Bool, true, cond, ◌&&◌, List, [], ◌∷◌, length, ◌==◌, nat_le, slice_index}

-- '0' to '9'
abbrev pub is_digit : ℕ → Bool
is_digit b = nat_le 48 b && nat_le b 57

abbrev pub all_digits : List ℕ → Bool
all_digits [] = true
all_digits (b ∷ bs) = is_digit b && all_digits bs

-- the number that the digits write after those that wrote v
abbrev pub value : ℕ → List ℕ → ℕ
value v [] = v
value v (b ∷ bs) = value (v * 10 + (b - 48)) bs

-- 1 to w digits, and w at most 18
unfoldable pub digits_of : ℕ → List ℕ → Option ℕ
digits_of w bs = cond (nat_le 1 (length bs) && (nat_le (length bs) w && (nat_le w 18 && all_digits bs))) (Some (value 0 bs)) None

-- whole numbers have no leading zero, except 0 itself
unfoldable pub whole_of : ℕ → List ℕ → Option ℕ
whole_of w bs = cond (nat_le 2 (length bs) && slice_index bs 0 == 48) None (digits_of w bs)

-- a number from lo to hi
abbrev pub within : ℕ → ℕ → Option ℕ → Option ℕ
within lo hi None = None
within lo hi (Some v) = cond (nat_le lo v && nat_le v hi) (Some v) None

-- a whole number of at most w digits, from lo to hi
unfoldable pub ranged_of : ℕ → ℕ → ℕ → List ℕ → Option ℕ
ranged_of w lo hi bs = within lo hi (whole_of w bs)
