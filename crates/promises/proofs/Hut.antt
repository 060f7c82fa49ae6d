-- The hut of specs/Hut.antt recovers: its messages are read, and the calls computed on its board. Assumes nothing.
use mathlib.Core.Path.{◌≡◌, refl, ap, subst, ◌∙◌}
use mathlib.Core.Bool.{true, true≢false, false≢true}
use mathlib.Core.List.{List, [], ◌∷◌, map}
use Prim.Native.Nat.{ℕ}
use native.Mathlib.Omega.{arith}
use lib.ListN as list
use Rattle.book.specs.Rules.{applied, after_action, after_new, after_change}
use Rattle.message.specs.Message.{Message}
use Rattle.board.specs.Board.{any_waiting, waiting_in, look}
use Rattle.board.specs.Count.{joining, hit, give, gives, count, number}
use Rattle.board.specs.Snapshot.{entries_of, run, after, take, snap}
use Rattle.board.specs.Feed.{feed}
use Rattle.board.specs.Calls.{Call, fed, aside, inst, Live, mine}
use Rattle.board.specs.Demand.{NumberedFromOne, book_at, NeverBreaks}
use Rattle.board.proofs.Streams.{numbered_from_one, never_breaks}
use Rattle.heading.specs.Marks.{marked, with_mark}
use Rattle.loops.specs.Loops.{with_name, lower, in_row, is_whole}
use Rattle.loops.specs.Ending.{at_end, ends, ended}
use Rattle.loops.specs.Channel.{Channel, given}
use Rattle.loops.specs.Calls.{calls, Throughout, opened_channel}
use Rattle.loops.specs.Demand.{RightBy}
use Rattle.fields.specs.Messages.{message_in}
use Rattle.store.specs.Meaning.{board_at, channel_at}
use Rattle.sound.specs.Sound.{sound}
use Rattle.opening.specs.Opening.{open_answer, open_store}
use Rattle.feed.specs.Feeding as bytes
use Rattle.samples.specs.Says.{bid_1, bid_2, offer_3, bid_4, first_says, second_says, third_says, fourth_says, shows, one_says, two_says}
use Rattle.samples.specs.Messages.{two_of_two}
use Rattle.samples.proofs.Read.{says_first, says_second, says_third, says_at_1, says_at_2, says_at_4, says_one_of_two, says_two_of_two, says_fourth}
use Rattle.promises.specs.Acts.{lefts, call_of}
use Rattle.promises.specs.Recovery.{read_in, Supposed}
use Rattle.promises.specs.Hut.{stream, received, ours, HutRecovers, longer, until_whole, both, OptionGoesLive}
use Rattle.promises.proofs.Recovery.{Holds, back, holds, starts, right_back}

-- what the stream says, and the calls
abbrev said : List Message
said = first_says ∷ second_says ∷ third_says ∷ []

stream_said : read_in 0 stream ≡ said
unfolding stream
stream_said = rw (says_first, says_second, says_third)

abbrev made : List Call
made =
    fed first_says ∷ fed third_says ∷ fed second_says ∷ fed (shows 1 bid_1) ∷ aside 0 ∷ fed (shows 4 bid_2) ∷ fed (shows 2 bid_2) ∷ []

calls_made : map (call_of 0) received ≡ made
unfolding received
calls_made = rw (says_first, says_second, says_third, says_at_1, says_at_2, says_at_4)

-- ---- on messages and channels
numbers : NumberedFromOne said
numbers = numbered_from_one said refl

never : NeverBreaks said 7
unfolding book_at mine run applied after_action after_new after_change
never = never_breaks said 7 (record { bids = bid_2 ∷ []; offers = offer_3 ∷ [] }) refl

right : Throughout (RightBy said 7) made (opened_channel 0 ours)
unfolding book_at mine run applied after_action after_new after_change any_waiting look joining hit give gives count number entries_of after take snap feed given in_row is_whole with_name lower at_end ends ended marked with_mark
right = (
  ((λ _. (0, omega arith, refl)), tt),
  (
    ((λ _. (2, omega arith, refl)), tt),
    (
      ((λ e. absurd (false≢true e)), tt),
      (
        ((λ e. absurd (omega arith)), λ t. absurd (true≢false t.live)),
        (
          (tt, tt),
          (
            ((λ e. absurd (omega arith)), λ t. absurd (true≢false t.live)),
            (((λ _ _. refl), λ t. absurd (false≢true t.waits)), tt),
          ),
        ),
      ),
    ),
  ),
)

abbrev pub end : Channel
end = calls made (opened_channel 0 ours)

live : Live 7 end.board
unfolding applied after_action after_new after_change any_waiting look joining hit give gives count number entries_of run after take snap feed given in_row is_whole with_name lower at_end ends ended marked with_mark
live = refl

last : end.board.H ≡ 3
unfolding applied after_action after_new after_change any_waiting look joining hit give gives count number entries_of run after take snap feed given in_row is_whole with_name lower at_end ends ended marked with_mark
last = refl

pub book : (inst 7 end.board).book ≡ record { bids = bid_2 ∷ []; offers = offer_3 ∷ [] }
unfolding applied after_action after_new after_change any_waiting look joining hit give gives count number entries_of run after take snap feed given in_row is_whole with_name lower at_end ends ended marked with_mark
book = refl

-- ---- on bytes and stores
pub hut_holds : (xs : List ℕ) → open_answer 0 ours xs ≡ 0 → Holds 0 (lefts received (open_store 0 ours xs)) end
hut_holds xs e =
    subst (λ (cs : List Call). Holds 0 (lefts received (open_store 0 ours xs)) (calls cs (opened_channel 0 ours))) calls_made
    (holds 0 received (open_store 0 ours xs) (opened_channel 0 ours) (starts 0 ours xs e))

pub hut_recovers : HutRecovers
hut_recovers xs e =
    let h = starts 0 ours xs e in
    let s = open_store 0 ours xs in
    let q : board_at (lefts received s) ≡ end.board = ap (λ (c : Channel). c.board) (hut_holds xs e).same in
    record {
      numbers = rw stream_said numbers;
      never = rw stream_said never;
      right = back 0 (Supposed 0 stream 7) (RightBy (read_in 0 stream) 7) (right_back 0 stream 7) received s (opened_channel 0 ours) h (rw (stream_said, calls_made) right);
      live = rw q live;
      last = rw q last;
      book = rw q book;
    }

-- ---- the option that never has a snapshot

abbrev longer_says : List Message
longer_says = first_says ∷ second_says ∷ third_says ∷ fourth_says ∷ []

longer_said : read_in 0 longer ≡ longer_says
unfolding longer
longer_said = rw (says_first, says_second, says_third, says_fourth)

abbrev before_made : List Call
before_made = fed first_says ∷ fed third_says ∷ fed one_says ∷ fed one_says ∷ fed fourth_says ∷ []

abbrev whole_made : List Call
whole_made = fed first_says ∷ fed third_says ∷ fed one_says ∷ fed one_says ∷ fed fourth_says ∷ fed two_says ∷ []

whole_calls : map (call_of 0) until_whole ≡ whole_made
unfolding until_whole
whole_calls = rw (says_first, says_third, says_one_of_two, says_fourth, says_two_of_two)

option_numbers : NumberedFromOne longer_says
option_numbers = numbered_from_one longer_says refl

option_never : NeverBreaks longer_says 9
unfolding book_at mine run applied after_action after_new after_change
option_never = never_breaks longer_says 9 (record { bids = bid_4 ∷ []; offers = [] }) refl

option_right : Throughout (RightBy longer_says 9) whole_made (opened_channel 0 both)
unfolding book_at mine run applied after_action after_new after_change any_waiting look joining hit give gives count number entries_of after take snap feed given in_row is_whole with_name lower at_end ends ended marked with_mark
option_right = (
  ((λ _. (0, omega arith, refl)), tt),
  (
    ((λ _. (2, omega arith, refl)), tt),
    (
      ((λ _ e. absurd (omega arith)), λ t. absurd (false≢true t.whole)),
      (
        ((λ e. absurd (omega arith)), λ t. absurd (false≢true t.whole)),
        (
          ((λ _. (3, omega arith, refl)), tt),
          (((λ e. absurd (omega arith)), λ _. refl), tt),
        ),
      ),
    ),
  ),
)

-- before the W that ends the loop, and behind it
abbrev before_end : Channel
before_end = calls before_made (opened_channel 0 both)

abbrev behind_end : Channel
behind_end = calls whole_made (opened_channel 0 both)

option_waits : (inst 9 before_end.board).waiting ≡ true
unfolding applied after_action after_new after_change any_waiting look joining hit give gives count number entries_of run after take snap feed given in_row is_whole with_name lower at_end ends ended marked with_mark
option_waits = refl

option_live : (Live 9 behind_end.board) × (behind_end.board.H ≡ 4) × ((inst 9 behind_end.board).book ≡ record { bids = bid_4 ∷ []; offers = [] })
unfolding applied after_action after_new after_change any_waiting look joining hit give gives count number entries_of run after take snap feed given in_row is_whole with_name lower at_end ends ended marked with_mark
option_live = (refl, refl, refl)

-- its answer, and that none waits
option_answer : ((given two_says before_end).answer ≡ 5) × (waiting_in (given two_says before_end).channel.board.insts ≡ 0)
unfolding applied after_action after_new after_change any_waiting look joining hit give gives count number entries_of run after take snap feed given in_row is_whole with_name lower at_end ends ended marked with_mark waiting_in
option_answer = (refl, refl)

-- the bytes of that W on such a channel
end_kind : before_end.board.depth ≡ 0
unfolding applied after_action after_new after_change any_waiting look joining hit give gives count number entries_of run after take snap feed given in_row is_whole with_name lower at_end ends ended marked with_mark
end_kind = refl

two_fed : bytes.fed two_of_two before_end ≡ given two_says before_end
unfolding bytes.fed
two_fed = ap (λ (n : ℕ). given (message_in n two_of_two) before_end) end_kind ∙ ap (λ (m : Message). given m before_end) says_two_of_two

answered : (xs : List ℕ) → sound xs ≡ true → channel_at xs ≡ before_end → bytes.feed_answer two_of_two xs ≡ 5
unfolding bytes.feed_answer
answered xs s q =
    let o : bytes.fed two_of_two (channel_at xs) ≡ given two_says before_end = ap (bytes.fed two_of_two) q ∙ two_fed in
    rw (s, o, option_answer.0, option_answer.1)

before_calls : map (call_of 0) (list.take 5 until_whole) ≡ before_made
unfolding until_whole
before_calls = rw (says_first, says_third, says_one_of_two, says_fourth)

pub option_goes_live : OptionGoesLive
option_goes_live xs e =
    let s = open_store 0 both xs in
    let c = opened_channel 0 both in
    let h = starts 0 both xs e in
    let k = holds 0 (list.take 5 until_whole) s c h in
    let p : channel_at (lefts (list.take 5 until_whole) s) ≡ before_end = k.same ∙ ap (λ (cs : List Call). calls cs c) before_calls in
    let q : channel_at (lefts until_whole s) ≡ behind_end = (holds 0 until_whole s c h).same ∙ ap (λ (cs : List Call). calls cs c) whole_calls in
    record {
      numbers = rw longer_said option_numbers;
      never = rw longer_said option_never;
      right = back 0 (Supposed 0 longer 9) (RightBy (read_in 0 longer) 9) (right_back 0 longer 9) until_whole s c h (rw (longer_said, whole_calls) option_right);
      waits = ap (λ (d : Channel). (inst 9 d.board).waiting) p ∙ option_waits;
      live = ap (λ (d : Channel). (inst 9 d.board).waiting) q ∙ option_live.0;
      last = ap (λ (d : Channel). d.board.H) q ∙ option_live.1;
      book = ap (λ (d : Channel). (inst 9 d.board).book) q ∙ option_live.2;
      answer = answered (lefts (list.take 5 until_whole) s) k.sound p;
    }
