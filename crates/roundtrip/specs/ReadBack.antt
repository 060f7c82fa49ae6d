-- A book written as a snapshot reads back as the same book (document 01, "Quote and writing").
use Rattle.std.specs.Prelude.{◌≡◌, true, List, [], ◌∷◌, ◌++◌, ℕ, ◌+◌, ◌≤◌, ◌<◌, length}
use Rattle.moment.specs.Moments.{moments}
use Rattle.orderid.specs.OrderIds.{is_id}
use Rattle.book.specs.Ids.{most_id}
use Rattle.book.specs.Rules.{Lists}
use Rattle.book.specs.declared.Entry.{Entry}
use Rattle.book.specs.declared.Update.{Update}
use Rattle.message.specs.Message.{most_number, snapshot}
use Rattle.board.specs.Sound.{SoundSide}
use Rattle.board.specs.Snapshot.{shown}
use Rattle.fields.specs.Messages.{message_in}
use Rattle.snapshot.specs.Snapshot.{Letter, snapshot_bytes}

-- What the writer takes: sender and target of 1 to 16 bytes as in 37, 1 ≤ k ≤ m ≤ 16, a time, a SecurityID and H; and the
-- book of a sound board.
pub record InRange (depth : ℕ) (l : Letter) (who H : ℕ) (b : Lists) : Type 0 where
  pub sender : is_id l.sender ≡ true
  pub target : is_id l.target ≡ true
  pub k_low : 1 ≤ l.k
  pub k_high : l.k ≤ l.m
  pub m_high : l.m ≤ 16
  pub time : l.time < moments
  pub id_low : 1 ≤ who
  pub id_high : who ≤ most_id
  pub last : H ≤ most_number
  pub bids : SoundSide depth b.bids
  pub offers : SoundSide depth b.offers

-- The entries of a side as new ones, from a place on.
unfoldable pub new_from : ℕ → ℕ → ℕ → List Entry → List Update
new_from who side place [] = []
new_from who side place (e ∷ es) = record { who = who; what = side; action = 0; place = place; entry = e } ∷ new_from who side (place + 1) es

-- Those of a book: bids 1, 2, 3 .., then offers 1, 2, 3 ..
abbrev pub new_of : ℕ → Lists → List Update
new_of who b = new_from who 0 1 b.bids ++ new_from who 1 1 b.offers

-- The message says what it was written from, and its entries are the book.
pub record ReadBack (depth : ℕ) (l : Letter) (who H : ℕ) (b : Lists) : Type 0 where
  pub message :
      message_in depth (snapshot_bytes depth l who H b)
      ≡ snapshot (record { number = l.k; heard = l.time; id = who; last = H; loops = l.m }) (new_of who b)
  pub book : shown (new_of who b) ≡ b

-- Length is 104 to 4,307 bytes (document 02, K6).
abbrev pub least_bytes : ℕ
least_bytes = 104

abbrev pub most_bytes : ℕ
most_bytes = 4307

pub record Sized (msg : List ℕ) : Type 0 where
  pub least : least_bytes ≤ length msg
  pub most : length msg ≤ most_bytes

-- What the writer takes comes to n bytes somewhere.
pub record Reached (n : ℕ) : Type 0 where
  pub depth : ℕ
  pub letter : Letter
  pub who : ℕ
  pub last : ℕ
  pub book : Lists
  pub fine : InRange depth letter who last book
  pub bytes : length (snapshot_bytes depth letter who last book) ≡ n

-- Both bounds are reached.
pub record BothReached : Type 0 where
  pub least : Reached least_bytes
  pub most : Reached most_bytes
