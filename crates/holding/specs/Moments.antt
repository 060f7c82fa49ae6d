-- The numbers that hold moments: those below `moments`. Assumes nothing.
use Rattle.std.specs.Prelude.{ℕ, ◌*◌}

-- the days of the years 0000 to 9999
abbrev pub days : ℕ
days = 3652425

-- the places of a day: 24 hours of 60 minutes of 61 seconds of 1,000 milliseconds
abbrev pub span : ℕ
span = 87840000

-- the moments of the years 0000 to 9999
abbrev pub moments : ℕ
moments = days * span
