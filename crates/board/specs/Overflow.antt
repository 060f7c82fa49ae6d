-- A price-depth stream of ten messages for 7 and 9, and a hut that follows both. 9 breaks; the fourth message is lost; and while both
-- wait the queue is let go. All that demand 3 supposes of 7 holds, and 7 recovers.
use Rattle.std.specs.Prelude.{◌≡◌, true, List, [], ◌∷◌, ℕ, ◌*◌, replicate, take}
use Rattle.holding.specs.Prices.{hundredths}
use Rattle.book.specs.Rules.{breach}
use Rattle.book.specs.Sides.{no_entry}
use Rattle.book.specs.declared.Entry.{Entry}
use Rattle.book.specs.declared.Update.{Update}
use Rattle.message.specs.Message.{Message, numbered, snapshot}
use Rattle.board.specs.Board.{Board, opened}
use Rattle.board.specs.Calls.{Call, fed, calls, answers, Throughout, inst, Live}
use Rattle.board.specs.Demand.{book_at, NumberedFromOne, NeverBreaks, Right}
use Rattle.board.specs.Sound.{opens}
use Rattle.board.specs.Laws.{InRange}

-- A level of one order, for n.
abbrev pub level : ℕ → Entry
level n = record { price = hundredths 2400; size = n; by = 1; more = 0; moment = 0 }

-- Place 1 of a side of d, new (0) or changed (1): 0 is the bids, 1 the offers.
abbrev pub place_one : ℕ → ℕ → ℕ → Entry → Update
place_one action d side e = record { who = d; what = side; action = action; place = 1; entry = e }

-- A bid for each.
abbrev pub first : Message
first = numbered 1 100 (place_one 0 7 0 (level 1) ∷ place_one 0 9 0 (level 1) ∷ [])

-- A delete of place 5 breaks 9, which holds one.
abbrev pub second : Message
second = numbered 2 200 (record { who = 9; what = 0; action = 2; place = 5; entry = no_entry } ∷ place_one 1 7 0 (level 2) ∷ [])

-- As many entries as a message has, all for 7's bid.
abbrev pub full : ℕ → Message
full n = numbered n (100 * n) (replicate 64 (place_one 1 7 0 (level n)))

-- An offer for 7.
abbrev pub tenth : Message
tenth = numbered 10 1000 (place_one 0 7 1 (level 10) ∷ [])

unfoldable pub stream : List Message
stream = first ∷ second ∷ full 3 ∷ full 4 ∷ full 5 ∷ full 6 ∷ full 7 ∷ full 8 ∷ full 9 ∷ tenth ∷ []

-- A snapshot of d with 369 = S, which shows the bid as message S left it.
abbrev pub showing : ℕ → ℕ → Message
showing d S = snapshot (record { number = 1; heard = 950; id = d; last = S; loops = 1 }) (place_one 0 d 0 (level S) ∷ [])

-- Both are taken; 9 breaks; message 4 is lost; messages 5 to 8 fill the queue and message 9 lets it go; a snapshot at 8 is then
-- too early for 7, and one at 9 is not.
unfoldable pub received : List Call
received =
    fed first ∷ fed (showing 7 1) ∷ fed (showing 9 1) ∷ fed second ∷ fed (full 3)
    ∷ fed (full 5) ∷ fed (full 6) ∷ fed (full 7) ∷ fed (full 8) ∷ fed (full 9)
    ∷ fed (showing 7 8) ∷ fed tenth ∷ fed (showing 7 9) ∷ []

-- The hut follows 7 and 9 on a price-depth channel.
abbrev pub hut : Board
hut = opened 1 (7 ∷ 9 ∷ [])

pub record RecoversPastOverflow : Type 0 where
  -- all that is supposed
  pub numbers : NumberedFromOne stream
  pub never : NeverBreaks stream 7
  pub right : Throughout (Right stream 7) received hut
  -- opening takes the two instruments, and every message is in range
  pub followed : opens 1 (7 ∷ 9 ∷ []) ≡ true
  pub fine : Throughout InRange received hut
  -- the stream breaks 9
  pub breaks : book_at stream 9 2 ≡ breach 1
  -- counted, taken, taken, counted; a gap at message 5, the queue let go at message 9; S below B, counted, taken
  pub answered : answers received hut ≡ 0 ∷ 4 ∷ 4 ∷ 0 ∷ 0 ∷ 1 ∷ 0 ∷ 0 ∷ 0 ∷ 3 ∷ 7 ∷ 0 ∷ 4 ∷ []
  pub base : (calls (take 10 received) hut).B ≡ 9
  -- 7 is Live with the bid that message 9 left and the offer of message 10, and 9 waits since it broke
  pub live : Live 7 (calls received hut)
  pub book : (inst 7 (calls received hut)).book ≡ record { bids = level 9 ∷ []; offers = level 10 ∷ [] }
  pub waits : (inst 9 (calls received hut)).waiting ≡ true
  pub reason : (inst 9 (calls received hut)).reason ≡ 1
  pub last : (calls received hut).H ≡ 10
