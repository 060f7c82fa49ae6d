-- Loops of snapshots over bytes and calls (document 02, K1): the record in the store is that of the W messages that were fed, and what
-- the end of a loop leaves alone.
use Rattle.std.specs.Prelude.{◌≡◌, true, false, List, [], map, ℕ, ◌+◌, ◌*◌, length}
use Rattle.book.specs.declared.Update.{Update}
use Rattle.message.specs.Message.{Head, snapshot}
use Rattle.heading.specs.Marks.{marked}
use Rattle.board.specs.Board.{Board, waiting_in, opened, look}
use Rattle.board.specs.Feed.{feed}
use Rattle.board.specs.Calls.{inst}
use Rattle.board.specs.Ranges.{within}
use Rattle.loops.specs.declared.Loop.{Loop}
use Rattle.loops.specs.Loops.{is_whole}
use Rattle.loops.specs.Ending.{ended}
use Rattle.loops.specs.Channel.{joined_by}
use Rattle.loops.specs.Cases.{LoopCases}
use Rattle.loops.specs.Laws.{EndIsSnapshots}
use Rattle.loops.specs.Rows.{came_in, loop_after, with_one, WholeIsRow, LowestOfRow}
use Rattle.fields.specs.Messages.{message_in}
use Rattle.store.specs.Meaning.{board_at, loop_at}
use Rattle.sound.specs.Sound.{sound}
use Rattle.opening.specs.Opening.{open_answer, open_store}
use Rattle.feed.specs.Feeding.{feed_answer, feed_store}
use Rattle.promises.specs.Acts.{Act, lefts, call_of}

-- The record of a store that was opened and called is that of the W messages that were fed and read, in their order. Other types, and W
-- messages that 11 to 14 refuse, are not among them, and a gap leaves it.
abbrev pub LoopOfActs : Type 0
LoopOfActs =
    (depth : ℕ) (ids xs : List ℕ) → open_answer depth ids xs ≡ 0 → (cs : List Act)
    → loop_at (lefts cs (open_store depth ids xs)) ≡ loop_after (length ids) (came_in (opened depth ids) (map (call_of depth) cs) [])

-- With a W of the head h, fed to a store xs, the record is this, before an end.
abbrev pub joined_at : Head → List ℕ → Loop
joined_at h xs = joined_by h (board_at xs) (loop_at xs)

-- Of a store that was opened and called it is the record of those messages and the W.
abbrev pub JoinedOfActs : Type 0
JoinedOfActs =
    (depth : ℕ) (ids xs : List ℕ) → open_answer depth ids xs ≡ 0 → (cs : List Act) (h : Head)
    → joined_at h (lefts cs (open_store depth ids xs))
    ≡ with_one (length ids) (record { head = h; who = look h.id (opened depth ids).insts }) (came_in (opened depth ids) (map (call_of depth) cs) [])

-- What the W itself leaves of the board, before the loop acts.
abbrev pub left_by : Head → List Update → List ℕ → Board
left_by h us xs = (feed (snapshot h us) (board_at xs)).board

-- The W on a sound store. Its answer is the one that it earned, and the count beside it is of those that wait behind the loop's end; a
-- whole loop ends on the board that the W left; no W changes H or the heard moment.
pub record Worked (bytes xs : List ℕ) (h : Head) (us : List Update) : Type 0 where
  pub answer : feed_answer bytes xs ≡ (feed (snapshot h us) (board_at xs)).answer + 256 * waiting_in (board_at (feed_store bytes xs)).insts
  pub whole : is_whole (joined_at h xs) ≡ true → board_at (feed_store bytes xs) ≡ ended (joined_at h xs) (left_by h us xs)
  pub last : (board_at (feed_store bytes xs)).H ≡ (board_at xs).H
  pub heard : (board_at (feed_store bytes xs)).heard ≡ (board_at xs).heard
  -- the board is as the W left it where it ends no loop, and where the lowest 369 lies outside B to H
  pub not_whole : is_whole (joined_at h xs) ≡ false → board_at (feed_store bytes xs) ≡ left_by h us xs
  pub outside : within (left_by h us xs).B (board_at xs).H (joined_at h xs).low ≡ false → board_at (feed_store bytes xs) ≡ left_by h us xs
  -- and so is an instrument that the loop named, taken or not, and one that is Live
  pub named : (d : ℕ) → marked (joined_at h xs).named (look d (board_at xs).insts) ≡ true
      → inst d (board_at (feed_store bytes xs)) ≡ inst d (left_by h us xs)
  pub live : (d : ℕ) → (inst d (left_by h us xs)).waiting ≡ false → inst d (board_at (feed_store bytes xs)) ≡ inst d (left_by h us xs)

abbrev pub SnapshotWorks : Type 0
SnapshotWorks =
    (bytes xs : List ℕ) (h : Head) (us : List Update) → sound xs ≡ true → message_in (board_at xs).depth bytes ≡ snapshot h us
    → Worked bytes xs h us

pub record LoopPromises : Type 0 where
  pub of_acts : LoopOfActs
  pub joined : JoinedOfActs
  -- a W makes it whole exactly where it and those before it are 34 = 1, 2, up to 911 in a row with one 911 throughout, and its
  -- lowest 369 is the lowest of theirs
  pub whole : WholeIsRow
  pub lowest : LowestOfRow
  -- what the W and then the loop's end do, and what they leave alone; the end is an empty snapshot for each instrument that the loop did
  -- not name
  pub works : SnapshotWorks
  pub ends : EndIsSnapshots
  -- ends with a replay that serves and one that breaks, and one by a W that is refused
  pub cases : LoopCases
