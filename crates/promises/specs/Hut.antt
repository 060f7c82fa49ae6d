-- A stream of three messages, as bytes, and a hut that gets the second one late: all that demand 3 supposes holds of it, and it
-- recovers, by way of marked cases M11 and M12 of document 01.
use Rattle.std.specs.Prelude.{◌≡◌, true, List, [], ◌∷◌, ℕ, take}
use Rattle.board.specs.Calls.{inst, Live}
use Rattle.board.specs.Demand.{NumberedFromOne, NeverBreaks}
use Rattle.store.specs.Meaning.{board_at}
use Rattle.opening.specs.Opening.{open_answer, open_store}
use Rattle.feed.specs.Feeding.{feed_answer}
use Rattle.samples.specs.Messages.{first, second, third, at_1, at_2, at_4, one_of_two, two_of_two, fourth}
use Rattle.samples.specs.Says.{bid_2, offer_3, bid_4}
use Rattle.promises.specs.Acts.{Act, feeds, reads, lefts, Along}
use Rattle.promises.specs.Recovery.{read_in, Supposed}

unfoldable pub stream : List (List ℕ)
stream = first ∷ second ∷ third ∷ []

-- Counted, a gap, old, S below B, S above H, taken; a quote between them.
unfoldable pub received : List Act
received = feeds first ∷ feeds third ∷ feeds second ∷ feeds at_1 ∷ reads ∷ feeds at_4 ∷ feeds at_2 ∷ []

-- The hut follows 7 on an order-depth channel.
abbrev pub ours : List ℕ
ours = 7 ∷ []

-- Of any store that opening takes.
pub record Recovered (xs : List ℕ) : Type 0 where
  pub numbers : NumberedFromOne (read_in 0 stream)
  pub never : NeverBreaks (read_in 0 stream) 7
  pub right : Along (Supposed 0 stream 7) received (open_store 0 ours xs)
  pub live : Live 7 (board_at (lefts received (open_store 0 ours xs)))
  pub last : (board_at (lefts received (open_store 0 ours xs))).H ≡ 3
  pub book : (inst 7 (board_at (lefts received (open_store 0 ours xs)))).book ≡ record { bids = bid_2 ∷ []; offers = offer_3 ∷ [] }

abbrev pub HutRecovers : Type 0
HutRecovers = (xs : List ℕ) → open_answer 0 ours xs ≡ 0 → Recovered xs

-- An option, 9, that never has a snapshot (document 02, K1): message 4 of the stream is its first. The hut follows 7 and 9 and loses
-- message 2; of the first loop of two snapshots it loses the second, and the next loop is whole, with 369 = 2 and 3. Counted, a gap,
-- taken; 7 is Live already; message 4 is counted and queued; 11 is not followed, and ends the loop.
unfoldable pub longer : List (List ℕ)
longer = first ∷ second ∷ third ∷ fourth ∷ []

unfoldable pub until_whole : List Act
until_whole = feeds first ∷ feeds third ∷ feeds one_of_two ∷ feeds one_of_two ∷ feeds fourth ∷ feeds two_of_two ∷ []

abbrev pub both : List ℕ
both = 7 ∷ 9 ∷ []

pub record WentLive (xs : List ℕ) : Type 0 where
  -- all that is supposed
  pub numbers : NumberedFromOne (read_in 0 longer)
  pub never : NeverBreaks (read_in 0 longer) 9
  pub right : Along (Supposed 0 longer 9) until_whole (open_store 0 both xs)
  -- it waited until the loop was whole, and is Live then with the empty book of message 2 and the bid of message 4, as the stream's
  -- book is
  pub waits : (inst 9 (board_at (lefts (take 5 until_whole) (open_store 0 both xs)))).waiting ≡ true
  pub live : Live 9 (board_at (lefts until_whole (open_store 0 both xs)))
  pub last : (board_at (lefts until_whole (open_store 0 both xs))).H ≡ 4
  pub book : (inst 9 (board_at (lefts until_whole (open_store 0 both xs)))).book ≡ record { bids = bid_4 ∷ []; offers = [] }
  -- the call that ended the loop is answered 5, not followed, and none waits behind it
  pub answer : feed_answer two_of_two (lefts (take 5 until_whole) (open_store 0 both xs)) ≡ 5

abbrev pub OptionGoesLive : Type 0
OptionGoesLive = (xs : List ℕ) → open_answer 0 both xs ≡ 0 → WentLive xs
