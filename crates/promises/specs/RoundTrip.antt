-- A book we write as a snapshot reads back as the same book: over what the exported writing and feeding say.
use Rattle.std.specs.Prelude.{Some}
use Rattle.std.specs.Prelude.{◌≡◌, true, List, ℕ, ◌*◌, take}
use Rattle.moment.specs.Moments.{moment_of}
use Rattle.message.specs.Message.{snapshot}
use Rattle.board.specs.Board.{out}
use Rattle.board.specs.Snapshot.{shown}
use Rattle.board.specs.Calls.{inst}
use Rattle.fields.specs.Messages.{message_in}
use Rattle.store.specs.Meaning.{board_at, channel_at}
use Rattle.sound.specs.Sound.{sound}
use Rattle.feed.specs.Feeding.{fed, feed_store}
use Rattle.send.specs.Send.{send_answer, send_out}
use Rattle.roundtrip.specs.ReadBack.{new_of, Sized}
use Rattle.roundtrip.specs.TakenBack.{Awaits, Taken}

-- Another store ys, fed these bytes: they are taken (4), and the instrument is Live with the book, behind the end of a loop too.
pub record TakenBy (xs : List ℕ) (id : ℕ) (bytes ys : List ℕ) : Type 0 where
  pub taken : Taken id (inst id (board_at xs)).book (out (fed bytes (channel_at ys)).answer (fed bytes (channel_at ys)).channel.board)
  pub after : channel_at (feed_store bytes ys) ≡ (fed bytes (channel_at ys)).channel

-- What the bytes are that a writing of the store xs leaves.
pub record SameBook (xs : List ℕ) (id k m : ℕ) (time bytes : List ℕ) : Type 0 where
  pub sent : ℕ
  pub at_time : moment_of time ≡ Some sent
  -- a W for that instrument with 34 = k, 911 = m, 369 = H and exactly the book's entries in order
  pub message :
      message_in (board_at xs).depth bytes
      ≡ snapshot (record { number = k; heard = sent; id = id; last = (board_at xs).H; loops = m }) (new_of id (inst id (board_at xs)).book)
  pub entries : shown (new_of id (inst id (board_at xs)).book) ≡ (inst id (board_at xs)).book
  -- of 104 to 4,307 bytes
  pub sized : Sized bytes
  -- which any sound store of the same depth kind takes that awaits it
  pub taken : (ys : List ℕ) → sound ys ≡ true → (board_at ys).depth ≡ (board_at xs).depth → Awaits id (board_at xs).H (board_at ys)
      → TakenBy xs id bytes ys

-- A writing that is answered 0 with length n leaves such bytes at the start of its output.
abbrev pub RoundTrip : Type 0
RoundTrip =
    (xs : List ℕ) (id : ℕ) (sender target : List ℕ) (k m : ℕ) (time out : List ℕ) (n : ℕ)
    → send_answer id sender target k m time out xs ≡ 256 * n
    → SameBook xs id k m time (take n (send_out id sender target k m time out xs))
