-- One message on a store (document 01, "Numbers, queue and marks" and "Answer numbers"; document 02, K1).
use Rattle.std.specs.Prelude.{◌≡◌, cond, List, ◌++◌, ℕ, ◌+◌, ◌*◌, drop}
use Rattle.board.specs.Board.{waiting_in}
use Rattle.loops.specs.Channel.{Channel, Reply, given}
use Rattle.fields.specs.Messages.{message_in}
use Rattle.store.specs.Layout.{store_size}
use Rattle.store.specs.Meaning.{channel_at, written}
use Rattle.sound.specs.Sound.{sound}

-- The bytes of a message on a channel: they are read on its depth kind, and the message is given to it.
unfoldable pub fed : List ℕ → Channel → Reply
fed bytes c = given (message_in c.board.depth bytes) c

-- The answer, and 256 times how many instruments wait afterwards, behind the end of a loop too; 17 alone where the store is unsound.
unfoldable pub feed_answer : List ℕ → List ℕ → ℕ
feed_answer bytes xs =
    cond (sound xs) ((fed bytes (channel_at xs)).answer + 256 * waiting_in (fed bytes (channel_at xs)).channel.board.insts) 17

-- The numbers of the channel after it, with those beyond the 7,168 as they were; an unsound store stays as it was.
unfoldable pub feed_store : List ℕ → List ℕ → List ℕ
feed_store bytes xs = cond (sound xs) (written (fed bytes (channel_at xs)).channel ++ drop store_size xs) xs

-- What a call answers, and the store ys that it leaves of xs.
pub record Fed (bytes xs : List ℕ) (r : ℕ) (ys : List ℕ) : Type 0 where
  pub answer : r ≡ feed_answer bytes xs
  pub store : ys ≡ feed_store bytes xs
