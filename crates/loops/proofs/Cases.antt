-- The cases of specs/Cases.antt, computed. Assumes nothing.
use mathlib.Core.Path.{refl}
use Rattle.book.specs.Rules.{applied, after_action, after_new, after_delete}
use Rattle.heading.specs.Marks.{marked, with_mark}
use Rattle.board.specs.Board.{any_waiting, waiting_in, look}
use Rattle.board.specs.Count.{joining, hit, give, gives, count, number}
use Rattle.board.specs.Feed.{feed}
use Rattle.board.specs.Snapshot.{entries_of, run, after, take, snap}
use Rattle.loops.specs.Loops.{with_name, lower, in_row, is_whole}
use Rattle.loops.specs.Ending as ending
use Rattle.loops.specs.Channel.{given}
use Rattle.loops.specs.Cases.{LoopCases}

pub loop_cases : LoopCases
unfolding applied after_action after_new after_delete any_waiting waiting_in look joining hit give gives count number entries_of run after take snap feed given in_row is_whole with_name lower ending.at_end ending.ends ending.ended marked with_mark
loop_cases =
    record {
      bid_answer = refl;
      bid_live = refl;
      bid_book = refl;
      bid_base = refl;
      bid_queue = refl;
      bid_loop = refl;
      gone_answer = refl;
      gone_waits = refl;
      gone_reason = refl;
      gone_book = refl;
      gone_base = refl;
      gone_queue = refl;
      gone_loop = refl;
      other_answer = refl;
      other_7 = refl;
      other_9 = refl;
      other_waits = refl;
    }
