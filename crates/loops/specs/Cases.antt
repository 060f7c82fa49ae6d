-- Ends of loops, computed. The channel follows 7 and 9 on price depth; messages 1 and 2 are counted, and a W is a whole loop by itself,
-- with 369 = 1. What message 2 has for 9 is queued above that number.
use Rattle.std.specs.Prelude.{◌≡◌, true, false, List, [], ◌∷◌, ℕ, length}
use Rattle.book.specs.Rules.{empty}
use Rattle.book.specs.declared.Update.{Update}
use Rattle.book.specs.Sides.{no_entry}
use Rattle.message.specs.Message.{numbered}
use Rattle.board.specs.Board.{waiting_in}
use Rattle.board.specs.Calls.{fed, inst}
use Rattle.board.specs.Overflow.{level, place_one}
use Rattle.loops.specs.Loops.{no_loop}
use Rattle.loops.specs.Channel.{Channel, Reply, given}
use Rattle.loops.specs.Calls.{calls, opened_channel}
use Rattle.loops.specs.Laws.{empty_for}

-- The channel with such a message 2, and what the W for d answers and leaves.
abbrev pub counted : List Update → Channel
counted us = calls (fed (numbered 1 100 []) ∷ fed (numbered 2 200 us) ∷ []) (opened_channel 1 (7 ∷ 9 ∷ []))

abbrev pub closed : ℕ → List Update → Reply
closed d us = given (empty_for d 1) (counted us)

-- A bid for 9, and a delete of a place that is not there.
abbrev pub bid : List Update
bid = place_one 0 9 0 (level 5) ∷ []

abbrev pub gone : List Update
gone = record { who = 9; what = 0; action = 2; place = 5; entry = no_entry } ∷ []

pub record LoopCases : Type 0 where
  -- 9 is Live with the bid that was queued above 1, with the W's own answer; none waits, so B is H
  pub bid_answer : (closed 7 bid).answer ≡ 4
  pub bid_live : (inst 9 (closed 7 bid).channel.board).waiting ≡ false
  pub bid_book : (inst 9 (closed 7 bid).channel.board).book ≡ record { bids = level 5 ∷ []; offers = [] }
  pub bid_base : (closed 7 bid).channel.board.B ≡ 2
  pub bid_queue : (closed 7 bid).channel.board.queue ≡ []
  pub bid_loop : (closed 7 bid).channel.loop ≡ no_loop
  -- a replay that breaks leaves it Waiting, with its reason; the queue stays, and the loop is over
  pub gone_answer : (closed 7 gone).answer ≡ 4
  pub gone_waits : (inst 9 (closed 7 gone).channel.board).waiting ≡ true
  pub gone_reason : (inst 9 (closed 7 gone).channel.board).reason ≡ 1
  pub gone_book : (inst 9 (closed 7 gone).channel.board).book ≡ empty
  pub gone_base : (closed 7 gone).channel.board.B ≡ 0
  pub gone_queue : length (closed 7 gone).channel.board.queue ≡ 1
  pub gone_loop : (closed 7 gone).channel.loop ≡ no_loop
  -- a W for 11, which is not followed, is answered so, and its loop ends for 7 and 9 all the same
  pub other_answer : (closed 11 bid).answer ≡ 5
  pub other_7 : inst 7 (closed 11 bid).channel.board ≡ record { id = 7; waiting = false; reason = 0; book = empty }
  pub other_9 : (inst 9 (closed 11 bid).channel.board).book ≡ record { bids = level 5 ∷ []; offers = [] }
  pub other_waits : waiting_in (closed 11 bid).channel.board.insts ≡ 0
