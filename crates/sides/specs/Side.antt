-- A side's numbers tested by position, in the order in which the code goes.
use Rattle.std.specs.Prelude.{Bool, true, cond, ◌&&◌, List, ℕ, zero, suc, ◌+◌, ◌*◌, ◌-◌, ltb, leb, eqb, get_or}
use Rattle.holding.specs.Prices.{held_top}
use Rattle.heading.specs.Marks.{marked}
use Rattle.board.specs.Ranges.{within, moment_fine}
use Rattle.cells.specs.Cells.{side_size}
use Rattle.store.specs.Layout.{side_spare}

-- f of each number below n.
unfoldable pub each : (ℕ → Bool) → ℕ → Bool
each f zero = true
each f (suc n) = each f n && f n

-- The n numbers from `at` on are zero.
unfoldable pub all_zero : List ℕ → ℕ → ℕ → Bool
all_zero xs at n = each (λ (k : ℕ). eqb (get_or xs (at + k) 0) 0) n

-- The most that `more` may be beside `by`, where `by` is at most `most`: 0 where `by` is below `full`.
unfoldable pub more_to : ℕ → ℕ → ℕ → ℕ
more_to most full by = cond (ltb by full) 0 most

-- The 5 numbers of an entry that is used.
unfoldable pub entry_scan : ℕ → ℕ → List ℕ → ℕ → Bool
entry_scan most full xs at =
    leb (get_or xs at 0) held_top
    && (within 1 999999999999 (get_or xs (at + 1) 0)
    && (within 1 most (get_or xs (at + 2) 0)
    && (leb (get_or xs (at + 3) 0) (more_to most full (get_or xs (at + 2) 0)) && moment_fine (get_or xs (at + 4) 0))))

-- A side holds at most `room` places, each of them used; what is behind them is zero, and so are its spare numbers.
unfoldable pub side_scan : ℕ → ℕ → ℕ → List ℕ → ℕ → Bool
side_scan room most full xs at =
    leb (get_or xs at 0) room
    && (each (λ (k : ℕ). entry_scan most full xs (at + 1 + k * 5)) (get_or xs at 0)
    && (all_zero xs (at + 1 + get_or xs at 0 * 5) (100 - get_or xs at 0 * 5) && all_zero xs (at + side_size) side_spare))

-- The places of instrument i: none where it is Waiting, else 20.
unfoldable pub room_of : ℕ → ℕ → ℕ
room_of marks i = cond (marked marks i) 0 20
