-- Places tested by column: many numbers of one kind joined by `|` are each at most what comes of it. Where that stays within what
-- each place must, all of them do; where it doesn't, it says nothing, and each place is tested by itself.
use Rattle.std.specs.Prelude.{◌≡◌, ℕ, ◌+◌, ◌*◌, ◌/◌, ◌^◌, ◌<◌, ◌≤◌, Bool, true, cond, ◌&&◌, List, ◌==◌, nat_le, nat_lt, slice_index, slice_index_or, bit_or, Option, Some, None}
use Rattle.holding.specs.Prices.{held_top}
use Rattle.board.specs.Ranges.{moment_fine}
use Rattle.sides.specs.Side.{more_to, side_scan, room_of}
use Rattle.sweep.specs.declared.Columns.{Columns}
use Rattle.sweep.specs.declared.Way.{Way}
use Rattle.sweep.specs.declared.Swept.{Swept}

-- The four numbers at `at`, `at` + 5 and so on lie in `low` to `low` + r, unless that is above 64 bits.
abbrev pub Spans : List ℕ → ℕ → ℕ → ℕ → Type 0
Spans xs at low r = (k : ℕ) → k < 4 → r + low < 2 ^ 64 → (low ≤ slice_index xs (at + k * 5)) × (slice_index xs (at + k * 5) ≤ r + low)

-- The columns of price, size and moment stay within what every place must, and no second word stands beside a first one of fewer
-- than 8 bytes.
unfoldable pub fits : Columns → Bool
fits c =
    nat_le c.price held_top && nat_lt c.size 999999999999 && moment_fine c.moment && c.even == 0 && c.odd == 0

-- Both by column.
abbrev pub joined : Columns → Columns → Columns
joined c d =
    record { size = bit_or c.size d.size; by = bit_or c.by d.by; more = bit_or c.more d.more; moment = bit_or c.moment d.moment; even = bit_or c.even d.even; odd = bit_or c.odd d.odd; price = bit_or c.price d.price }

-- Those of `by`, which has `low` taken off, and of `more` stay within `most` and `top`.
abbrev pub Ids : ℕ → ℕ → ℕ → Columns → Type 0
Ids low most top c = (c.by + low ≤ most) × (c.more ≤ top)

-- The entry at `at` has no second word beside a first one below `full`.
abbrev pub Alone : ℕ → List ℕ → ℕ → Type 0
Alone full xs at = slice_index xs (at + 2) < full → slice_index xs (at + 3) ≡ 0

-- The entry at `at` lies within: `by` in `low` to `most`, `more` at most `top`, and where words are mixed a second one stands only
-- beside a first one of 8 bytes.
pub record Stands (low most top full : ℕ) (mixed : Bool) (xs : List ℕ) (at : ℕ) : Type 0 where
  pub price : slice_index_or xs at 0 ≤ held_top
  pub size : (1 ≤ slice_index xs (at + 1)) × (slice_index xs (at + 1) ≤ 999999999999)
  pub by : (low ≤ slice_index xs (at + 2)) × (slice_index xs (at + 2) ≤ most)
  pub more : slice_index_or xs (at + 3) 0 ≤ top
  pub moment : slice_index_or xs (at + 4) 0 < 320829012000000
  pub alone : mixed ≡ true → Alone full xs at

-- r is c with n places from `at` on: where r stays within, c does, and each of the places.
pub record Joins (xs : List ℕ) (at n low full : ℕ) (mixed : Bool) (c r : Columns) : Type 0 where
  pub columns : fits r ≡ true → fits c ≡ true
  pub ids : (most top : ℕ) → Ids low most top r → Ids low most top c
  pub places : (most top : ℕ) → most < 2 ^ 64 → top < 2 ^ 64 → fits r ≡ true → Ids low most top r → (k : ℕ) → k < n
      → Stands low most top full mixed xs (at + k * 5)

-- A way to take order ids whose limits lie within those of the depth kind.
abbrev pub Keeps : Way → ℕ → ℕ → Type 0
Keeps w most full =
    (1 ≤ w.low)
    × (w.low ≤ most)
    × (most < 2 ^ 64)
    × (w.top < 2 ^ 64)
    × ((b m : ℕ) → w.low ≤ b → m ≤ w.top → (w.mixed ≡ true → b < full → m ≡ 0) → m ≤ more_to most full b)

-- How many of n places are too few for a four.
unfoldable pub few_of : ℕ → ℕ
few_of n = cond (nat_lt n 4) n 0

-- Each of the sides from the index `from` up to `to` is sound, an instrument's two in a row.
abbrev pub Sides : ℕ → ℕ → ℕ → List ℕ → ℕ → ℕ → Type 0
Sides most full marks xs from to = (j : ℕ) → from ≤ j → j < to → side_scan (room_of marks (j / 2)) most full xs (160 + j * 128) ≡ true

-- What was swept of the sides from `from` on settles that each is sound: where its columns fit, and the rest is 0.
abbrev pub Settles : Way → ℕ → ℕ → ℕ → List ℕ → ℕ → Swept → Type 0
Settles w most full marks xs from s =
    Keeps w most full → fits s.columns ≡ true → s.rest ≡ 0 → Sides most full marks xs from s.upto

-- The index of the side up to which that settles it.
abbrev pub settled_to : Option Swept → ℕ → ℕ
settled_to None from = from
settled_to (Some s) from = cond (fits s.columns && s.rest == 0) s.upto from
