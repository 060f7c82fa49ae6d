-- An empty book for the whole channel, over bytes and calls. Assumes nothing.
use mathlib.Core.Path.{◌≡◌, refl, sym, ap, subst, ◌∙◌}
use mathlib.Core.Bool.{true, false}
use mathlib.Core.List.{List, [], ◌∷◌, ◌++◌, map}
use Prim.Native.Nat.{ℕ, ◌+◌, ◌*◌}
use lib.ListN.{length}
use Rattle.book.specs.Rules.{empty, leaves, applied, after_action, after_new, after_change}
use Rattle.book.specs.declared.Update.{Update}
use Rattle.message.specs.Message.{Message, numbered}
use Rattle.board.specs.Board.{Board, any_waiting, waiting_in, look, fresh}
use Rattle.board.specs.Count.{joining, hit, give, gives, count, number}
use Rattle.board.specs.Snapshot.{entries_of, run, after, take, snap}
use Rattle.board.specs.Feed.{feed}
use Rattle.board.specs.Calls.{Call, fed, inst, Live, mine}
use Rattle.board.proofs.ForAll.{for_all_speaks_of_all, from_empty, channel_emptied, broken_before}
use Rattle.heading.specs.Marks.{marked, with_mark}
use Rattle.loops.specs.Loops.{with_name, lower, in_row, is_whole}
use Rattle.loops.specs.Ending.{at_end, ends, ended}
use Rattle.loops.specs.Channel.{Channel, Reply, given}
use Rattle.loops.specs.Calls.{calls, opened_channel}
use Rattle.fields.specs.Messages.{message_in}
use Rattle.store.specs.Meaning.{board_at, channel_at}
use Rattle.sound.specs.Sound.{sound}
use Rattle.opening.specs.Opening.{open_store}
use Rattle.feed.specs.Feeding as bytes
use Rattle.feed.proofs.Laws.{feed_keeps_sound, feed_is_channel}
use Rattle.samples.specs.Messages.{two_of_two, all_empty_bytes}
use Rattle.samples.specs.Says.{bid_2, first_says, second_says, one_says, two_says, all_says}
use Rattle.samples.proofs.Read.{says_first, says_second, says_one_of_two, says_two_of_two, says_all_empty, bad_with_22, bad_with_207, bad_bid_without_48}
use Rattle.promises.specs.Acts.{lefts, call_of}
use Rattle.promises.specs.ForAll.{EmptiesChannel, ours, before, HutIsEmptied, ForAllPromises}
use Rattle.promises.proofs.Recovery.{holds, starts}

-- what a message with a number leaves of a sound store's board is what it leaves of the board
numbered_board : (bs xs : List ℕ) (n heard : ℕ) (us : List Update) → sound xs ≡ true → message_in (board_at xs).depth bs ≡ numbered n heard us
    → board_at (bytes.feed_store bs xs) ≡ (feed (numbered n heard us) (board_at xs)).board
unfolding bytes.fed given
numbered_board bs xs n heard us s e =
    ap (λ (c : Channel). c.board) (feed_is_channel bs xs s) ∙ ap (λ (m : Message). (given m (channel_at xs)).channel.board) e

empties_channel : EmptiesChannel
empties_channel bs xs n heard us u vs s e all l d =
    subst (λ (b : Board). Live d b → run (mine d vs) empty ≡ leaves (inst d b).book) (sym (numbered_board bs xs n heard (us ++ u ∷ vs) s e))
    (from_empty d n heard us u vs (board_at xs) all l)

-- ---- the hut
abbrev made : List Call
made = fed first_says ∷ fed second_says ∷ fed one_says ∷ []

calls_made : map (call_of 0) before ≡ made
unfolding before
calls_made = rw (says_first, says_second, says_one_of_two)

abbrev stood : Channel
stood = calls made (opened_channel 0 ours)

stood_shows : (inst 7 stood.board).book ≡ record { bids = bid_2 ∷ []; offers = [] }
unfolding applied after_action after_new after_change any_waiting look joining hit give gives count number entries_of run after take snap feed given in_row is_whole with_name lower at_end ends ended marked with_mark
stood_shows = refl

stood_kind : stood.board.depth ≡ 0
unfolding applied after_action after_new after_change any_waiting look joining hit give gives count number entries_of run after take snap feed given in_row is_whole with_name lower at_end ends ended marked with_mark
stood_kind = refl

abbrev left : Reply
left = given all_says stood

record Left : Type 0 where
  answer : left.answer + 256 * waiting_in left.channel.board.insts ≡ 256
  live : inst 7 left.channel.board ≡ record { id = 7; waiting = false; reason = 0; book = empty }
  waits : inst 9 left.channel.board ≡ fresh 9
  last : left.channel.board.H ≡ 3
  heard : left.channel.board.heard ≡ 64968180542000
  queued : length left.channel.board.queue ≡ 3
  kind : left.channel.board.depth ≡ 0
  whole : inst 9 (given two_says left.channel).channel.board ≡ record { id = 9; waiting = false; reason = 0; book = empty }

is_left : Left
unfolding applied after_action after_new after_change any_waiting waiting_in look joining hit give gives count number entries_of run after take snap feed given in_row is_whole with_name lower at_end ends ended marked with_mark
is_left = record { answer = refl; live = refl; waits = refl; last = refl; heard = refl; queued = refl; kind = refl; whole = refl }

-- the bytes on such a channel
all_fed : bytes.fed all_empty_bytes stood ≡ left
unfolding bytes.fed
all_fed = ap (λ (n : ℕ). given (message_in n all_empty_bytes) stood) stood_kind ∙ ap (λ (m : Message). given m stood) says_all_empty

-- and those of the loop's last snapshot behind it
end_fed : bytes.fed two_of_two left.channel ≡ given two_says left.channel
unfolding bytes.fed
end_fed =
    ap (λ (n : ℕ). given (message_in n two_of_two) left.channel) is_left.kind ∙ ap (λ (m : Message). given m left.channel) says_two_of_two

hut_is_emptied : HutIsEmptied
unfolding bytes.feed_answer
hut_is_emptied xs e =
    let o = lefts before (open_store 0 ours xs) in
    let k = holds 0 before (open_store 0 ours xs) (opened_channel 0 ours) (starts 0 ours xs e) in
    let p : channel_at o ≡ stood = k.same ∙ ap (λ (cs : List Call). calls cs (opened_channel 0 ours)) calls_made in
    let f : bytes.fed all_empty_bytes (channel_at o) ≡ left = ap (bytes.fed all_empty_bytes) p ∙ all_fed in
    let z = bytes.feed_store all_empty_bytes o in
    let y : channel_at z ≡ left.channel = feed_is_channel all_empty_bytes o k.sound ∙ ap (λ (r : Reply). r.channel) f in
    let q : board_at z ≡ left.channel.board = ap (λ (c : Channel). c.board) y in
    let w : channel_at (bytes.feed_store two_of_two z) ≡ (given two_says left.channel).channel =
    feed_is_channel two_of_two z (feed_keeps_sound all_empty_bytes o k.sound) ∙ ap (λ (r : Reply). r.channel) (ap (bytes.fed two_of_two) y ∙ end_fed) in
    record {
      shows = ap (λ (c : Channel). (inst 7 c.board).book) p ∙ stood_shows;
      answer = rw k.sound (ap (λ (r : Reply). r.answer + 256 * waiting_in r.channel.board.insts) f ∙ is_left.answer);
      live = ap (inst 7) q ∙ is_left.live;
      waits = ap (inst 9) q ∙ is_left.waits;
      last = ap (λ (b : Board). b.H) q ∙ is_left.last;
      heard = ap (λ (b : Board). b.heard) q ∙ is_left.heard;
      queued = ap (λ (b : Board). length b.queue) q ∙ is_left.queued;
      whole = ap (λ (c : Channel). inst 9 c.board) w ∙ is_left.whole;
    }

pub for_all_promises : ForAllPromises
for_all_promises =
    record {
      reads = record { read = says_all_empty; with_22 = bad_with_22; with_207 = bad_with_207; bid = bad_bid_without_48 };
      empties = empties_channel;
      speaks = for_all_speaks_of_all;
      emptied = channel_emptied;
      broken = broken_before;
      hut = hut_is_emptied;
    }
