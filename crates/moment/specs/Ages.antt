-- The age of what was heard (document 01, "Quote and writing"). Assumes nothing.
use Rattle.std.specs.Prelude.{ℕ, ◌+◌, ◌*◌, ℤ, pos, ◌+ℤ◌, ◌-ℤ◌, ◌*ℤ◌}
use Rattle.moment.specs.Moments.{day_part, time_part, hour_in, minute_in, second_in, milli_in}

-- a time of day in milliseconds, as written: a second of 60 counts 60
unfoldable pub millis : ℕ → ℕ
millis t = ((hour_in t * 60 + minute_in t) * 60 + second_in t) * 1000 + milli_in t

-- days apart times 86,400,000 plus times of day apart, in milliseconds
unfoldable pub age_of : ℕ → ℕ → ℤ
age_of now heard =
    (pos (day_part now) -ℤ pos (day_part heard)) *ℤ pos 86400000
    +ℤ (pos (millis (time_part now)) -ℤ pos (millis (time_part heard)))

-- a moment in milliseconds since 0000-01-01, as written
abbrev pub since_zero : ℕ → ℕ
since_zero m = day_part m * 86400000 + millis (time_part m)
