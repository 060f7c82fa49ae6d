-- Loops of snapshots over bytes and calls. Assumes nothing.
use mathlib.Core.Path.{◌≡◌, refl, sym, ap, ◌∙◌}
use mathlib.Core.Bool.{Bool, true, false, cond, true≢false}
use mathlib.Core.List.{List, map}
use Prim.Native.Nat.{ℕ, ◌+◌, ◌*◌}
use lib.ListN.{length, length-map}
use Rattle.book.specs.declared.Update.{Update}
use Rattle.message.specs.Message.{Message, Head, snapshot}
use Rattle.board.specs.Board.{Board, waiting_in, fresh, opened, look}
use Rattle.board.specs.Feed.{feed}
use Rattle.board.specs.Calls.{inst}
use Rattle.board.specs.Laws.{Same}
use Rattle.board.proofs.Staying.{same_feed, same_look}
use Rattle.board.proofs.Taken.{snapshot_keeps_date}
use Rattle.loops.specs.declared.Loop.{Loop}
use Rattle.loops.specs.Loops.{no_loop, in_row, is_whole}
use Rattle.loops.specs.Ending.{ended}
use Rattle.loops.specs.Channel.{Channel, channel, Reply, rounded, given}
use Rattle.loops.specs.Calls.{calls, opened_channel}
use Rattle.loops.proofs.Cases.{loop_cases}
use Rattle.loops.proofs.Ending.{outside_stays, end_is_snapshots}
use Rattle.loops.proofs.Keeping.{end_keeps, calls_same}
use Rattle.loops.proofs.Laws.{named_stays, live_stays}
use Rattle.loops.proofs.Rows.{joined_same, loop_of_came, whole_is_row, lowest_of_row}
use Rattle.fields.specs.Messages.{message_in}
use Rattle.store.specs.Meaning.{board_at, loop_at, channel_at}
use Rattle.sound.specs.Sound.{sound}
use Rattle.opening.specs.Opening.{open_store}
use Rattle.feed.specs.Feeding.{fed, feed_answer, feed_store}
use Rattle.feed.proofs.Laws.{feed_is_channel}
use Rattle.promises.specs.Acts.{lefts, call_of}
use Rattle.promises.specs.Loops.{LoopOfActs, joined_at, JoinedOfActs, left_by, Worked, SnapshotWorks, LoopPromises}
use Rattle.promises.proofs.Recovery.{ends, starts}

loop_of_acts : LoopOfActs
loop_of_acts depth ids xs e cs =
    ap (λ (c : Channel). c.loop) (ends depth cs (open_store depth ids xs) (opened_channel depth ids) (starts depth ids xs e))
    ∙ loop_of_came depth ids (map (call_of depth) cs)

joined_of_acts : JoinedOfActs
joined_of_acts depth ids xs e cs h =
    let s = lefts cs (open_store depth ids xs) in
    let c = calls (map (call_of depth) cs) (opened_channel depth ids) in
    let q = ap (λ (k : Channel). k.board) (ends depth cs (open_store depth ids xs) (opened_channel depth ids) (starts depth ids xs e)) in
    let m : Same (board_at s) (opened depth ids) = rw q (calls_same (map (call_of depth) cs) (opened_channel depth ids)) in
    joined_same h (loop_at s) (board_at s) (opened depth ids) m
    ∙ ap (λ (n : ℕ). in_row h n (look h.id (opened depth ids).insts) (loop_at s)) (length-map ids fresh)
    ∙ ap (in_row h (length ids) (look h.id (opened depth ids).insts)) (loop_of_acts depth ids xs e cs)

-- a W on a sound store
module _ (bytes xs : List ℕ) (h : Head) (us : List Update) (s : sound xs ≡ true) (m : message_in (board_at xs).depth bytes ≡ snapshot h us) where
  abbrev l : Loop
  l = joined_at h xs

  abbrev b : Board
  b = left_by h us xs

  is_given : fed bytes (channel_at xs) ≡ given (snapshot h us) (channel_at xs)
  unfolding fed
  is_given = ap (λ (k : Message). given k (channel_at xs)) m

  behind : board_at (feed_store bytes xs) ≡ (rounded l b).board
  unfolding given
  behind = ap (λ (c : Channel). c.board) (feed_is_channel bytes xs s) ∙ ap (λ (o : Reply). o.channel.board) is_given

  -- where the loop's end changes nothing that P speaks of
  module _ {A : Type 0} (P : Board → A) where
    spared : (is_whole l ≡ true → P (ended l b) ≡ P b) → P (board_at (feed_store bytes xs)) ≡ P b
    spared f = ap P behind ∙ go (is_whole l) f
      where
        go : (t : Bool) → (t ≡ true → P (ended l b) ≡ P b) → P (cond t (channel (ended l b) no_loop) (channel b l)).board ≡ P b
        go true f = f refl
        go false f = refl

  -- the answer that it earned, and those that wait behind all
  counted : feed_answer bytes xs ≡ (feed (snapshot h us) (board_at xs)).answer + 256 * waiting_in (rounded l b).board.insts
  unfolding feed_answer given
  counted = rw s (ap (λ (o : Reply). o.answer + 256 * waiting_in o.channel.board.insts) is_given)

  worked : Worked bytes xs h us
  worked =
      let d = snapshot_keeps_date h us (board_at xs) in
      record {
        answer = rw behind counted;
        whole = λ e. behind ∙ ap (λ (t : Bool). (cond t (channel (ended l b) no_loop) (channel b l)).board) e;
        last = spared (λ (c : Board). c.H) (λ _. (end_keeps l b).last) ∙ d.0;
        heard = spared (λ (c : Board). c.heard) (λ _. (end_keeps l b).heard) ∙ d.1;
        not_whole = λ e. spared (λ (c : Board). c) (λ w. absurd (true≢false (sym w ∙ e)));
        outside = λ e. spared (λ (c : Board). c) (λ _. outside_stays l b (rw d.0 e));
        named = λ i e. spared (inst i) (λ _. named_stays i l b (rw (same_look i b (board_at xs) (same_feed (snapshot h us) (board_at xs))) e));
        live = λ i e. spared (inst i) (λ _. live_stays i l b e);
      }

snapshot_works : SnapshotWorks
snapshot_works bytes xs h us s m = worked bytes xs h us s m

pub loop_promises : LoopPromises
loop_promises =
    record {
      of_acts = loop_of_acts;
      joined = joined_of_acts;
      whole = whole_is_row;
      lowest = lowest_of_row;
      works = snapshot_works;
      ends = end_is_snapshots;
      cases = loop_cases;
    }
