-- What is shown of a message on a store.
use Rattle.std.specs.Prelude.{◌≡◌, true, false, List, ◌++◌, ℕ, ◌%◌, length, drop}
use Rattle.book.specs.declared.Update.{Update}
use Rattle.message.specs.Message.{Head, snapshot}
use Rattle.board.specs.Ranges.{within}
use Rattle.loops.specs.Channel.{joined_by, rounded}
use Rattle.loops.specs.Laws.{touches}
use Rattle.fields.specs.Messages.{message_in}
use Rattle.store.specs.Layout.{store_size}
use Rattle.store.specs.Meaning.{board_at, loop_at, channel_at, written}
use Rattle.sound.specs.Sound.{sound}
use Rattle.sound.specs.Settled.{Settled}
use Rattle.feed.specs.Feeding.{fed, feed_answer, feed_store, Fed}

-- A sound store stays sound, whatever the bytes, and is the channel after them.
abbrev pub FeedKeepsSound : Type 0
FeedKeepsSound = (bytes xs : List ℕ) → sound xs ≡ true → sound (feed_store bytes xs) ≡ true

abbrev pub FeedIsChannel : Type 0
FeedIsChannel = (bytes xs : List ℕ) → sound xs ≡ true → channel_at (feed_store bytes xs) ≡ (fed bytes (channel_at xs)).channel

-- Only 0, 1, 3 and 4 to 10 change the store; the answer is the call's, less the count above it.
abbrev pub RefusedStays : Type 0
RefusedStays = (bytes xs : List ℕ) → touches (feed_answer bytes xs % 256) ≡ false → feed_store bytes xs ≡ xs

-- And 5 to 9 do to it what the loop does with the W, on the board as it was: ys is left of xs.
pub record Looped (bytes xs ys : List ℕ) : Type 0 where
  pub head : Head
  pub entries : List Update
  pub message : message_in (board_at xs).depth bytes ≡ snapshot head entries
  pub store : ys ≡ written (rounded (joined_by head (board_at xs) (loop_at xs)) (board_at xs)) ++ drop store_size xs

abbrev pub RefusedLoops : Type 0
RefusedLoops = (bytes xs : List ℕ) → within 5 9 (feed_answer bytes xs % 256) ≡ true → Looped bytes xs (feed_store bytes xs)

-- Numbers beyond the 7,168 are never touched, and the store keeps its length.
abbrev pub BeyondStays : Type 0
BeyondStays = (bytes xs : List ℕ) → (drop store_size (feed_store bytes xs) ≡ drop store_size xs) × (length (feed_store bytes xs) ≡ length xs)

-- The call is settled.
abbrev pub FeedSettled : Type 0
FeedSettled = (bytes xs : List ℕ) → Settled (Fed bytes xs)
