-- The scan of a store: tests of its numbers by position, in the order in which the code goes. Crate sound shows that it finds
-- exactly the sound stores.
use Rattle.std.specs.Prelude.{Bool, cond, not, ◌&&◌, ◌||◌, List, ℕ, zero, suc, ◌+◌, ◌*◌, ◌-◌, ◌/◌, ◌^◌, ltb, leb, eqb, length, get_or}
use Rattle.cells.specs.Cells.{tab}
use Rattle.board.specs.Ranges.{within, most_number, id_fine, moment_fine, empty_fine}
use Rattle.board.specs.Sound.{distinct}
use Rattle.sides.specs.Side.{each, all_zero, entry_scan, side_scan, room_of}
use Rattle.loops.specs.Sound.{sound_loop}
use Rattle.store.specs.Layout.{store_size, layout_number, at_layout, at_depth, at_followed, at_number, at_base, at_heard, at_marks, at_queued, heading_used, heading_spare, id_of, bids_of, slot_of}
use Rattle.store.specs.Meaning.{loop_at}

-- ---- the heading

-- Its eight numbers: at most 16 are followed; this layout's; the depth kind; at least 1 followed; H; B at most H; a moment,
-- which is 0 while nothing is heard; no mark above the followed; at most 256 queued; where none waits, none queued and B is H.
unfoldable pub heading_scan : List ℕ → Bool
heading_scan xs =
    leb (get_or xs at_followed 0) 16
    && (eqb (get_or xs at_layout 0) layout_number
    && leb (get_or xs at_depth 0) 1
    && leb 1 (get_or xs at_followed 0)
    && leb (get_or xs at_number 0) most_number
    && leb (get_or xs at_base 0) (get_or xs at_number 0)
    && moment_fine (get_or xs at_heard 0)
    && (not (eqb (get_or xs at_number 0) 0) || eqb (get_or xs at_heard 0) 0)
    && eqb (get_or xs at_marks 0 / 2 ^ get_or xs at_followed 0) 0
    && leb (get_or xs at_queued 0) 256
    && (not (eqb (get_or xs at_marks 0) 0) || (eqb (get_or xs at_queued 0) 0 && eqb (get_or xs at_base 0) (get_or xs at_number 0))))

-- ---- instruments

-- An instrument's record: SecurityID, reason, spare numbers.
unfoldable pub record_scan : List ℕ → ℕ → Bool
record_scan xs at = id_fine (get_or xs at 0) && leb (get_or xs (at + 1) 0) 2 && all_zero xs (at + 2) 6

-- The n numbers at `at`, `at` + step and so on.
abbrev pub spread : List ℕ → ℕ → ℕ → ℕ → List ℕ
spread xs at step n = tab (λ (i : ℕ). get_or xs (at + i * step) 0) n

-- What is spare behind the heading and the loop's record, n records, what is unused behind them, and no SecurityID twice.
unfoldable pub records_scan : List ℕ → ℕ → Bool
records_scan xs n =
    all_zero xs heading_used heading_spare
    && (each (λ (i : ℕ). record_scan xs (id_of i)) n && (all_zero xs (32 + n * 8) (128 - n * 8) && distinct (spread xs 32 8 n)))

-- ---- places

-- The depth kind as two limits: `by` is at most `most`, and `more` is 0 where `by` is below `full`. On a price-depth channel no
-- `by` reaches it.
unfoldable pub most_of : ℕ → ℕ
most_of depth = cond (eqb depth 0) 6161234432565770 65535

unfoldable pub full_of : ℕ → ℕ
full_of depth = cond (eqb depth 0) 65545047154955 65536

-- Both sides of each instrument, and what is unused behind them.
unfoldable pub book_scan : ℕ → ℕ → ℕ → List ℕ → ℕ → Bool
book_scan room most full xs at = side_scan room most full xs at && side_scan room most full xs (at + 128)

unfoldable pub books_scan : ℕ → ℕ → List ℕ → Bool
books_scan most full xs =
    each (λ (i : ℕ). book_scan (room_of (get_or xs at_marks 0) i) most full xs (bids_of i)) (get_or xs at_followed 0)
    && all_zero xs (160 + get_or xs at_followed 0 * 256) (4096 - get_or xs at_followed 0 * 256)

-- ---- the queue

-- The 9 numbers from `at` on: who, what, action, place and the entry, which is needed of a new or a change of a bid or an offer alone.
unfoldable pub update_scan : ℕ → ℕ → List ℕ → ℕ → Bool
update_scan most full xs at =
    cond (leb (get_or xs (at + 1) 0) 1)
    (leb (get_or xs (at + 2) 0) 4
    && (within 1 65535 (get_or xs (at + 3) 0)
    && cond (leb (get_or xs (at + 2) 0) 1) (entry_scan most full xs (at + 4)) (all_zero xs (at + 4) 5)))
    (empty_fine (get_or xs at 0) (get_or xs (at + 1) 0) && eqb (get_or xs (at + 2) 0) 0 && eqb (get_or xs (at + 3) 0) 0 && all_zero xs (at + 4) 5)

-- A queued entry whose number lies in `low` to `high`, its who below n, with its spare number.
unfoldable pub slot_scan : ℕ → ℕ → ℕ → ℕ → ℕ → List ℕ → ℕ → Bool
slot_scan low high n most full xs at =
    within low high (get_or xs at 0)
    && (ltb (get_or xs (at + 1) 0) n && (update_scan most full xs (at + 1) && eqb (get_or xs (at + 10) 0) 0))

-- The least number that may stand in slot k: B+1, and then the number before it.
unfoldable pub low_of : List ℕ → ℕ → ℕ
low_of xs zero = get_or xs at_base 0 + 1
low_of xs (suc k) = get_or xs (slot_of k) 0

-- Each queued entry, and what is unused behind them up to the store's end.
unfoldable pub queue_scan : ℕ → ℕ → List ℕ → Bool
queue_scan most full xs =
    each (λ (k : ℕ). slot_scan (low_of xs k) (get_or xs at_number 0) (get_or xs at_followed 0) most full xs (slot_of k)) (get_or xs at_queued 0)
    && all_zero xs (4256 + get_or xs at_queued 0 * 11) (2912 - get_or xs at_queued 0 * 11)

-- ---- the whole

-- The loop's record, the books, the queue.
unfoldable pub rest_scan : List ℕ → Bool
rest_scan xs =
    sound_loop (get_or xs at_followed 0) (loop_at xs)
    && (books_scan (most_of (get_or xs at_depth 0)) (full_of (get_or xs at_depth 0)) xs
    && queue_scan (most_of (get_or xs at_depth 0)) (full_of (get_or xs at_depth 0)) xs)

unfoldable pub scan : List ℕ → Bool
scan xs = leb store_size (length xs) && (heading_scan xs && (records_scan xs (get_or xs at_followed 0) && rest_scan xs))
