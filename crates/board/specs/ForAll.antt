-- An empty book for the whole channel (document 02, K4): what J without an instrument does, and a morning on which it comes.
use Rattle.std.specs.Prelude.{◌≡◌, true, false, cond, List, [], ◌∷◌, ◌++◌, map, ℕ, ◌≤◌, ◌<◌, length, take}
use Rattle.book.specs.Rules.{empty, leaves, empty_of_all, for_all}
use Rattle.book.specs.declared.Update.{Update}
use Rattle.book.specs.Sides.{no_entry}
use Rattle.message.specs.Message.{Message, numbered, snapshot}
use Rattle.board.specs.Board.{Inst, Queued, Board, opened, with_insts}
use Rattle.board.specs.Count.{aimed, joining, give}
use Rattle.board.specs.Snapshot.{run, after}
use Rattle.board.specs.Feed.{feed}
use Rattle.board.specs.Calls.{Call, fed, calls, answers, Throughout, inst, Live, mine}
use Rattle.board.specs.Demand.{NumberedFromOne, NeverBreaks, Right}
use Rattle.board.specs.Sound.{opens}
use Rattle.board.specs.Laws.{InRange}
use Rattle.board.specs.Loss.{order, new_bid}

-- An instrument with an empty book.
abbrev pub bare : Inst → Inst
bare x = record { id = x.id; waiting = x.waiting; reason = x.reason; book = empty }

-- Emptied: the book of a Live one is empty; a Waiting one, as one that broke before it in the message, stays as it is.
abbrev pub emptied : Inst → Inst
emptied x = cond x.waiting x (bare x)

-- For any entry u for all.
pub record SpeaksOfAll (u : Update) : Type 0 where
  -- It empties every followed instrument's book; no mark, no reason and nothing else of the board changes.
  pub empties : (b : Board) → give u b ≡ with_insts (map emptied b.insts) b
  -- In the queue it is one entry and counts once, however many instruments there are and whatever else its message says.
  pub joins_once : (n : ℕ) (xs : List Inst) → 1 ≤ length xs → (us : List Update)
      → joining n (length xs) (aimed xs u ∷ us) ≡ record { number = n; update = aimed xs u } ∷ joining n (length xs) us
  -- Every instrument's replay meets it, if its number is above S, and none does otherwise.
  pub replayed : (i S n : ℕ) (qs : List Queued) → S < n → after i S (record { number = n; update = u } ∷ qs) ≡ u ∷ after i S qs
  pub not_replayed : (i S n : ℕ) (qs : List Queued) → n ≤ S → after i S (record { number = n; update = u } ∷ qs) ≡ after i S qs
  -- The stream's book of every instrument takes it as its own.
  pub read : (d : ℕ) (us : List Update) → mine d (u ∷ us) ≡ u ∷ mine d us

abbrev pub ForAllSpeaksOfAll : Type 0
ForAllSpeaksOfAll = (u : Update) → for_all u ≡ true → SpeaksOfAll u

-- So where a counted message has one, the book of each instrument that is Live behind the message is what the entries behind that one make
-- of an empty book.
abbrev pub FromEmpty : Type 0
FromEmpty =
    (d n heard : ℕ) (us : List Update) (u : Update) (vs : List Update) (b : Board) → for_all u ≡ true → b.H < n
    → Live d (feed (numbered n heard (us ++ u ∷ vs)) b).board
    → run (mine d vs) empty ≡ leaves (inst d (feed (numbered n heard (us ++ u ∷ vs)) b).board).book

-- J for all, as it is read.
abbrev pub all_empty : Update
all_empty = record { who = 0; what = empty_of_all; action = 0; place = 0; entry = no_entry }

-- Bids for 7 and 9; then the channel's books are emptied, in a message of which no other entry is for an instrument that is followed;
-- then a bid for 7, a second J and another bid for 7; then a bid for 9.
abbrev pub first : Message
first = numbered 1 100 (new_bid 7 1 (order 1 2400) ∷ new_bid 9 1 (order 2 1100) ∷ [])

abbrev pub second : Message
second = numbered 2 200 (new_bid 8 1 (order 3 700) ∷ all_empty ∷ [])

abbrev pub third : Message
third = numbered 3 300 (new_bid 7 1 (order 4 2401) ∷ all_empty ∷ new_bid 7 1 (order 5 2402) ∷ [])

abbrev pub fourth : Message
fourth = numbered 4 400 (new_bid 9 1 (order 6 1101) ∷ [])

unfoldable pub stream : List Message
stream = first ∷ second ∷ third ∷ fourth ∷ []

-- A snapshot after message 1 with one bid.
abbrev pub showing : ℕ → ℕ → ℕ → Message
showing d n price = snapshot (record { number = 1; heard = 350; id = d; last = 1; loops = 2 }) (new_bid d 1 (order n price) ∷ [])

-- The snapshot of 7 comes before the channel's books are emptied, and that of 9 after it.
unfoldable pub received : List Call
received = fed first ∷ fed (showing 7 1 2400) ∷ fed second ∷ fed third ∷ fed (showing 9 2 1100) ∷ fed fourth ∷ []

abbrev pub hut : Board
hut = opened 0 (7 ∷ 9 ∷ [])

pub record ChannelEmptied : Type 0 where
  -- all that demand 3 supposes, of both
  pub numbers : NumberedFromOne stream
  pub never_7 : NeverBreaks stream 7
  pub never_9 : NeverBreaks stream 9
  pub right_7 : Throughout (Right stream 7) received hut
  pub right_9 : Throughout (Right stream 9) received hut
  pub followed : opens 0 (7 ∷ 9 ∷ []) ≡ true
  pub fine : Throughout InRange received hut
  pub answered : answers received hut ≡ 0 ∷ 4 ∷ 0 ∷ 0 ∷ 4 ∷ 0 ∷ []
  -- message 2 empties the book of 7, which stays Live, and is one entry of the queue, since 9 waits
  pub live : Live 7 (calls (take 3 received) hut)
  pub book : (inst 7 (calls (take 3 received) hut)).book ≡ empty
  pub queued : length (calls (take 3 received) hut).queue ≡ 3
  -- the bid of message 3 behind its J is left, and the bid before it is not
  pub behind : (inst 7 (calls (take 4 received) hut)).book ≡ record { bids = order 5 2402 ∷ []; offers = [] }
  -- the replay of 9 meets both: of what its snapshot shows nothing is left
  pub taken : Live 9 (calls (take 5 received) hut)
  pub replayed : (inst 9 (calls (take 5 received) hut)).book ≡ empty
  pub last : (inst 9 (calls received hut)).book ≡ record { bids = order 6 1101 ∷ []; offers = [] }

-- Where 7 breaks in a message (there is no place 3), a J behind that leaves it Waiting with its reason, and empties the book of 9.
abbrev pub breaking : Message
breaking = numbered 2 200 (new_bid 7 3 (order 3 2402) ∷ all_empty ∷ [])

unfoldable pub breaks : List Call
breaks = fed first ∷ fed (showing 7 1 2400) ∷ fed (showing 9 2 1100) ∷ fed breaking ∷ []

pub record BrokenBefore : Type 0 where
  pub answered : answers breaks hut ≡ 0 ∷ 4 ∷ 4 ∷ 0 ∷ []
  pub waits : inst 7 (calls breaks hut) ≡ record { id = 7; waiting = true; reason = 1; book = empty }
  pub live : inst 9 (calls breaks hut) ≡ record { id = 9; waiting = false; reason = 0; book = empty }
