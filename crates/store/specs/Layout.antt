-- The one table of offsets: where everything stands in the 7,168 numbers.
use Rattle.std.specs.Prelude.{List, [], ◌∷◌, ℕ, ◌+◌, ◌*◌}

-- The store's numbers. What lies beyond is never touched.
abbrev pub store_size : ℕ
store_size = 7168

-- The number of this layout, so that a store of another is unsound.
abbrev pub layout_number : ℕ
layout_number = 4603

-- The numbers of earlier layouts, which no store of this one has: before there was a record of loops, and with prices in
-- ten-millionths.
abbrev pub earlier_layouts : List ℕ
earlier_layouts = 4601 ∷ 4602 ∷ []

-- The heading: the layout's number, the depth kind, how many instruments are followed, H, B, the heard moment, the marks,
-- how many entries are queued; the record of the loop of snapshots: 911, how many have come, the lowest 369, the named; then 20
-- spare numbers.
abbrev pub at_layout : ℕ
at_layout = 0

abbrev pub at_depth : ℕ
at_depth = 1

abbrev pub at_followed : ℕ
at_followed = 2

abbrev pub at_number : ℕ
at_number = 3

abbrev pub at_base : ℕ
at_base = 4

abbrev pub at_heard : ℕ
at_heard = 5

abbrev pub at_marks : ℕ
at_marks = 6

abbrev pub at_queued : ℕ
at_queued = 7

abbrev pub at_loops : ℕ
at_loops = 8

abbrev pub at_come : ℕ
at_come = 9

abbrev pub at_low : ℕ
at_low = 10

abbrev pub at_named : ℕ
at_named = 11

abbrev pub heading_used : ℕ
heading_used = 12

abbrev pub heading_spare : ℕ
heading_spare = 20

-- All of them, in front of the records.
abbrev pub heading_size : ℕ
heading_size = heading_used + heading_spare

-- 16 instrument records of 8 from 32 on: SecurityID, reason, and 6 spare numbers.
abbrev pub id_of : ℕ → ℕ
id_of i = 32 + i * 8

abbrev pub reason_of : ℕ → ℕ
reason_of i = 33 + i * 8

-- 32 sides of 128 from 160 on, an instrument's bids and then its offers: 101 numbers and 27 spare ones.
abbrev pub side_spare : ℕ
side_spare = 27

abbrev pub at_sides : ℕ
at_sides = 160

abbrev pub bids_of : ℕ → ℕ
bids_of i = 160 + i * 256

abbrev pub offers_of : ℕ → ℕ
offers_of i = 288 + i * 256

-- 256 queue entries of 11 from 4256 on: 10 numbers and 1 spare one. Then 96 spare numbers, up to 7,168.
abbrev pub at_queue : ℕ
at_queue = 4256

abbrev pub slot_of : ℕ → ℕ
slot_of k = 4256 + k * 11

-- The sides and the queue are one run.
abbrev pub book_size : ℕ
book_size = 256

abbrev pub queue_size : ℕ
queue_size = 2816

abbrev pub sides_and_queue : ℕ
sides_and_queue = 6912
