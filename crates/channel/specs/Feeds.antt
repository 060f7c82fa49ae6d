-- A message that was read, on the store.
use Rattle.std.specs.Prelude.{◌≡◌, List, map, ℕ, ◌*◌, ◌≤◌, length, get_or, take, drop}
use Rattle.book.specs.declared.Update.{Update}
use Rattle.message.specs.Message.{Message, numbered, snapshot, refused, answer_of}
use Rattle.board.specs.Board.{out, look}
use Rattle.board.specs.Count.{index_of, aimed}
use Rattle.board.specs.Feed.{feed}
use Rattle.cells.specs.Runs.{update_size, updates_in}
use Rattle.store.specs.Layout.{store_size, heading_size}
use Rattle.store.specs.Meaning.{State, board_in}
use Rattle.store.specs.Canon.{Canon}
use Rattle.store.specs.Answers.{FedS, fed}
use Rattle.count.specs.Counts.{number_s}
use Rattle.taking.specs.Replays.{snap_s}

-- The index of an entry that has this SecurityID.
abbrev pub index_in : State → ℕ → ℕ → ℕ
index_in s id what = index_of what (look id (board_in s).insts)

-- The entries with the index of their instrument for the SecurityID.
abbrev pub aimed_at : State → List Update → List Update
aimed_at s us = map (aimed (board_in s).insts) us

-- The first n entries of a run are aimed; the numbers behind them stay.
pub record Aims (s : State) (n : ℕ) (xs ys : List ℕ) : Type 0 where
  pub size : length ys ≡ length xs
  pub entries : updates_in ys n ≡ aimed_at s (updates_in xs n)
  pub behind : (k : ℕ) → n * update_size ≤ k → get_or ys k 0 ≡ get_or xs k 0

-- The answer, and the heading and the store that are left: a number is counted or old, a snapshot is taken or refused, and a
-- message that is not read leaves all as it was.
unfoldable pub feed_s : Message → State → FedS
feed_s (numbered n heard us) s = number_s n heard (aimed_at s us) s
feed_s (snapshot h us) s = snap_s h.id h.last (aimed_at s us) s
feed_s (refused why) s = fed (answer_of why) s

-- The numbers of the store in front of the records, those of the heading and of the loop's record, which go by value, and those beyond
-- the 7,168 are as they were.
pub record Around (s t : State) : Type 0 where
  pub front : take heading_size t.store ≡ take heading_size s.store
  pub beyond : drop store_size t.store ≡ drop store_size s.store

-- What a call leaves: the answer and every number of the store, what they mean, and a store that is canonical again.
pub record Feeds (m : Message) (s : State) (a : ℕ) (t : State) : Type 0 where
  pub leaves : fed a t ≡ feed_s m s
  pub means : out a (board_in t) ≡ feed m (board_in s)
  pub canon : Canon t
