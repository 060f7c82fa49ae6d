-- A stream of four messages, and a hut that loses the second: all that demand 3 supposes holds of it, and it recovers, by way of
-- marked cases M11 and M12 of document 01.
use Rattle.std.specs.Prelude.{◌≡◌, true, List, [], ◌∷◌, ℕ, take}
use Rattle.holding.specs.Prices.{hundredths}
use Rattle.book.specs.declared.Entry.{Entry}
use Rattle.book.specs.declared.Update.{Update}
use Rattle.book.specs.Sides.{no_entry}
use Rattle.message.specs.Message.{Message, numbered, snapshot}
use Rattle.board.specs.Board.{Board, opened}
use Rattle.board.specs.Calls.{Call, fed, calls, answers, Throughout, inst, Live}
use Rattle.board.specs.Demand.{NumberedFromOne, NeverBreaks, Right}
use Rattle.board.specs.Sound.{opens}
use Rattle.board.specs.Laws.{InRange}

-- An order for one at a price of so many hundredths, with the order id n.
abbrev pub order : ℕ → ℕ → Entry
order n price = record { price = hundredths price; size = 1; by = n; more = 0; moment = 0 }

abbrev pub new_bid : ℕ → ℕ → Entry → Update
new_bid d p e = record { who = d; what = 0; action = 0; place = p; entry = e }

-- Two bids for 7; the third message takes the lower one away, and the fourth says nothing of 7.
abbrev pub first : Message
first = numbered 1 100 (new_bid 7 1 (order 1 2400) ∷ [])

abbrev pub second : Message
second = numbered 2 200 (new_bid 7 1 (order 2 2401) ∷ [])

abbrev pub third : Message
third = numbered 3 300 (record { who = 7; what = 0; action = 2; place = 2; entry = no_entry } ∷ [])

abbrev pub fourth : Message
fourth = numbered 4 400 (new_bid 9 1 (order 3 1100) ∷ [])

unfoldable pub stream : List Message
stream = first ∷ second ∷ third ∷ fourth ∷ []

-- A snapshot of 7 with 369 = S that shows both bids, as they were after message 2.
abbrev pub showing : ℕ → Message
showing S =
    snapshot (record { number = 1; heard = 350; id = 7; last = S; loops = 1 })
    (new_bid 7 1 (order 2 2401) ∷ new_bid 7 2 (order 1 2400) ∷ [])

-- The second message comes late, after the third; snapshots of 1 and 4 come before one of 2.
unfoldable pub received : List Call
received = fed first ∷ fed third ∷ fed second ∷ fed (showing 1) ∷ fed (showing 4) ∷ fed (showing 2) ∷ fed fourth ∷ []

-- The hut follows 7 and 9 on an order-depth channel.
abbrev pub hut : Board
hut = opened 0 (7 ∷ 9 ∷ [])

pub record Recovered : Type 0 where
  -- all that is supposed
  pub numbers : NumberedFromOne stream
  pub never : NeverBreaks stream 7
  pub right : Throughout (Right stream 7) received hut
  -- opening takes the two instruments, and every message is in range
  pub followed : opens 0 (7 ∷ 9 ∷ []) ≡ true
  pub fine : Throughout InRange received hut
  -- counted, a gap, old (M11), S below B, S above H, taken (M12), counted
  pub answered : answers received hut ≡ 0 ∷ 1 ∷ 2 ∷ 7 ∷ 8 ∷ 4 ∷ 0 ∷ []
  pub m11_base : (calls (take 3 received) hut).B ≡ 2
  pub m11_last : (calls (take 3 received) hut).H ≡ 3
  -- 7 is Live with the bid that message 3 left, and 9 waits
  pub live : Live 7 (calls received hut)
  pub book : (inst 7 (calls received hut)).book ≡ record { bids = order 2 2401 ∷ []; offers = [] }
  pub waits : (inst 9 (calls received hut)).waiting ≡ true
  pub last : (calls received hut).H ≡ 4
