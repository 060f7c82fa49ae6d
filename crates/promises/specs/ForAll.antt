-- An empty book for the whole channel, over bytes and calls (document 02, K4).
use Rattle.std.specs.Prelude.{◌≡◌, true, false, List, [], ◌∷◌, ◌++◌, ℕ, ◌<◌, length}
use Rattle.book.specs.Rules.{empty, leaves, for_all}
use Rattle.book.specs.declared.Update.{Update}
use Rattle.message.specs.Message.{numbered, refused}
use Rattle.message.specs.declared.Refusal.TheVariants.{BadFields}
use Rattle.board.specs.Board.{fresh}
use Rattle.board.specs.Snapshot.{run}
use Rattle.board.specs.Calls.{inst, Live, mine}
use Rattle.board.specs.ForAll.{ForAllSpeaksOfAll, ChannelEmptied, BrokenBefore}
use Rattle.fields.specs.Messages.{message_in}
use Rattle.store.specs.Meaning.{board_at}
use Rattle.sound.specs.Sound.{sound}
use Rattle.opening.specs.Opening.{open_answer, open_store}
use Rattle.feed.specs.Feeding.{feed_answer, feed_store}
use Rattle.samples.specs.Messages.{first, second, one_of_two, two_of_two, all_empty_bytes, all_empty_22, all_empty_207, bid_without_48}
use Rattle.samples.specs.Says.{bid_2, all_says}
use Rattle.promises.specs.Acts.{Act, feeds, lefts}

-- J without 48 is read. With 22 or with 207 it is 14, and so is a bid without 48.
pub record ReadForAll : Type 0 where
  pub read : message_in 0 all_empty_bytes ≡ all_says
  pub with_22 : message_in 0 all_empty_22 ≡ refused BadFields
  pub with_207 : message_in 0 all_empty_207 ≡ refused BadFields
  pub bid : message_in 0 bid_without_48 ≡ refused BadFields

-- On any sound store, where a message is counted that has such an entry, the book of each instrument that is Live behind the message is what
-- the entries behind that one make of an empty book.
abbrev pub EmptiesChannel : Type 0
EmptiesChannel =
    (bytes xs : List ℕ) (n heard : ℕ) (us : List Update) (u : Update) (vs : List Update) → sound xs ≡ true
    → message_in (board_at xs).depth bytes ≡ numbered n heard (us ++ u ∷ vs) → for_all u ≡ true → (board_at xs).H < n
    → (d : ℕ) → Live d (board_at (feed_store bytes xs)) → run (mine d vs) empty ≡ leaves (inst d (board_at (feed_store bytes xs))).book

-- The hut follows 7 and 9. It hears messages 1 and 2, takes a snapshot of 7, the first of a loop of two, and then hears that all books are
-- empty. The loop's other snapshot is for an instrument that is not followed.
abbrev pub ours : List ℕ
ours = 7 ∷ 9 ∷ []

unfoldable pub before : List Act
before = feeds first ∷ feeds second ∷ feeds one_of_two ∷ []

-- Of any store that opening takes.
pub record Emptied (xs : List ℕ) : Type 0 where
  pub shows : (inst 7 (board_at (lefts before (open_store 0 ours xs)))).book ≡ record { bids = bid_2 ∷ []; offers = [] }
  -- it is counted, and one waits
  pub answer : feed_answer all_empty_bytes (lefts before (open_store 0 ours xs)) ≡ 256
  -- 7 is Live with an empty book, dated by message 3; 9 waits as before, and the message is one entry more of the queue
  pub live : inst 7 (board_at (feed_store all_empty_bytes (lefts before (open_store 0 ours xs)))) ≡ record { id = 7; waiting = false; reason = 0; book = empty }
  pub waits : inst 9 (board_at (feed_store all_empty_bytes (lefts before (open_store 0 ours xs)))) ≡ fresh 9
  pub last : (board_at (feed_store all_empty_bytes (lefts before (open_store 0 ours xs)))).H ≡ 3
  pub heard : (board_at (feed_store all_empty_bytes (lefts before (open_store 0 ours xs)))).heard ≡ 64968180542000
  pub queued : length (board_at (feed_store all_empty_bytes (lefts before (open_store 0 ours xs)))).queue ≡ 3
  -- the loop is whole, as of message 2: the replay of 9 meets the entry, and 9 is Live with an empty book
  pub whole : inst 9 (board_at (feed_store two_of_two (feed_store all_empty_bytes (lefts before (open_store 0 ours xs))))) ≡ record { id = 9; waiting = false; reason = 0; book = empty }

abbrev pub HutIsEmptied : Type 0
HutIsEmptied = (xs : List ℕ) → open_answer 0 ours xs ≡ 0 → Emptied xs

pub record ForAllPromises : Type 0 where
  pub reads : ReadForAll
  pub empties : EmptiesChannel
  -- what it does on a board, in the queue, in a replay and in the stream, and a morning of it
  pub speaks : ForAllSpeaksOfAll
  pub emptied : ChannelEmptied
  pub broken : BrokenBefore
  pub hut : HutIsEmptied
