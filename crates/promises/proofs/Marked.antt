-- The marked cases, from what the crates show. Assumes nothing.
use Rattle.std.specs.Prelude.{Some}
use mathlib.Core.Path.{◌≡◌, refl, sym, ap, ◌∙◌}
use mathlib.Core.List.{List, [], ◌∷◌}
use Prim.Native.Nat.{ℕ}
use borrow.Author.Tests.{le-leb}
use lib.ListN.{length}
use Rattle.digits.specs.Digits.{digits_of}
use Rattle.price.proofs.Cases as price
use Rattle.calendar.specs.Calendar.{leap, months, days_in, days_to, year_days, days_before, is_date, day_of}
use Rattle.moment.specs.Moments.{date_of, two_of, minutes_of, clock_of, time_of, moment_of}
use Rattle.moment.specs.Ages.{millis, age_of}
use Rattle.moment.proofs.Cases as moment
use Rattle.orderid.specs.OrderIds.{is_id}
use Rattle.book.specs.Rules.{leaves, breach, applied, after_action, after_new, after_change, after_thru, after_from}
use Rattle.book.specs.declared.Entry.{Entry}
use Rattle.message.specs.Message.{Message, snapshot}
use Rattle.board.specs.Board.{any_waiting, look}
use Rattle.board.specs.Count.{joining, hit, give, gives, count, number}
use Rattle.board.specs.Snapshot.{entries_of, run, after, take, snap}
use Rattle.board.specs.Feed.{feed}
use Rattle.board.specs.Calls.{inst}
use Rattle.heading.specs.Marks.{marked, with_mark}
use Rattle.loops.specs.Loops.{with_name, lower, in_row, is_whole}
use Rattle.loops.specs.Ending.{at_end, ends, ended}
use Rattle.loops.specs.Channel.{Channel, Reply, given}
use Rattle.quote.specs.Quotes.{quote_of}
use Rattle.opening.specs.Opening.{open_answer, open_store}
use Rattle.ask.specs.Ask.{quote_number, quote_answer}
use Rattle.writer.specs.Writing.{out_after}
use Rattle.send.specs.Send.{message, arguments_fine, page_for, sent_page, send_out}
use Rattle.roundtrip.proofs.Marked.{the_message}
use Rattle.fields.specs.Messages.{message_in}
use Rattle.feed.specs.Feeding.{fed}
use Rattle.samples.specs.Messages.{empty_book_bytes, first, second, third, at_1, at_2, at_4}
use Rattle.samples.specs.Says.{bid_1, bid_2, offer_3, first_says, second_says, third_says, shows}
use Rattle.samples.proofs.Read as read
use Rattle.promises.specs.Marked.{zero, one, two, three, took_empty, heard_first, on_the_day, at_one, HeardAtOne, QuotedWith, Writes, MarkedCases}
use Rattle.promises.specs.Acts.{feeds}
use Rattle.promises.proofs.Recovery.{Holds, starts}
use Rattle.promises.proofs.Recovery as recovery

-- ---- M6 to M10 on a side of the list
m6 : (a b c x : Entry) → after_new (a ∷ b ∷ c ∷ []) 2 x ≡ leaves (a ∷ x ∷ b ∷ c ∷ [])
unfolding after_new
m6 a b c x = refl

m7 : (a b c : Entry) → after_thru (a ∷ b ∷ c ∷ []) 2 ≡ leaves (c ∷ [])
unfolding after_thru
m7 a b c = refl

m8 : (a b c : Entry) → after_from (a ∷ b ∷ c ∷ []) 2 ≡ leaves (a ∷ [])
unfolding after_from
m8 a b c = refl

m9 : (a b c x : Entry) → after_new (a ∷ b ∷ c ∷ []) 5 x ≡ breach 1
unfolding after_new
m9 a b c x = refl

m10 : (l : List Entry) (x : Entry) → length l ≡ 20 → after_new l 21 x ≡ breach 2
unfolding after_new
m10 l x h = rw h

m10_past : (l : List Entry) (x : Entry) → length l ≡ 20 → after_new l 22 x ≡ breach 1
unfolding after_new
m10_past l x h = rw h

-- ---- M11 and M12: the boards that the messages leave
abbrev after_1 : Reply
after_1 = given first_says zero

abbrev after_3 : Reply
after_3 = given third_says after_1.channel

abbrev after_2 : Reply
after_2 = given second_says after_3.channel

fed_as : (bytes : List ℕ) (m : Message) (b c : Channel) → b ≡ c → c.board.depth ≡ 0 → message_in 0 bytes ≡ m → fed bytes b ≡ given m c
unfolding fed
fed_as bytes m b c q k h = rw (q, k, h)

channel_of : {o p : Reply} → o ≡ p → o.channel ≡ p.channel
channel_of q = ap (λ (x : Reply). x.channel) q

first_fed : fed first zero ≡ after_1
first_fed = fed_as first first_says zero zero refl refl read.says_first

-- the depth kind stays 0
kind_1 : after_1.channel.board.depth ≡ 0
unfolding applied after_action after_new after_change any_waiting look joining hit give gives count number feed given
kind_1 = refl

kind_3 : after_3.channel.board.depth ≡ 0
unfolding applied after_action after_new after_change any_waiting look joining hit give gives count number feed given
kind_3 = refl

kind_2 : after_2.channel.board.depth ≡ 0
unfolding applied after_action after_new after_change any_waiting look joining hit give gives count number feed given
kind_2 = refl

third_fed : fed third one ≡ after_3
third_fed = fed_as third third_says one after_1.channel (channel_of first_fed) kind_1 read.says_third

second_fed : fed second two ≡ after_2
second_fed = fed_as second second_says two after_3.channel (channel_of third_fed) kind_3 read.says_second

m11_first : (fed first zero).answer ≡ 0
unfolding applied after_action after_new after_change any_waiting look joining hit give gives count number feed given
m11_first = ap (λ (o : Reply). o.answer) first_fed

m11_third : (fed third one).answer ≡ 1
unfolding applied after_action after_new after_change any_waiting look joining hit give gives count number feed given
m11_third = ap (λ (o : Reply). o.answer) third_fed

m11_second : (fed second two).answer ≡ 2
unfolding applied after_action after_new after_change any_waiting look joining hit give gives count number feed given
m11_second = ap (λ (o : Reply). o.answer) second_fed

m11_base : three.board.B ≡ 2
unfolding applied after_action after_new after_change any_waiting look joining hit give gives count number feed given
m11_base = ap (λ (c : Channel). c.board.B) (channel_of second_fed)

m11_last : three.board.H ≡ 3
unfolding applied after_action after_new after_change any_waiting look joining hit give gives count number feed given
m11_last = ap (λ (c : Channel). c.board.H) (channel_of second_fed)

shown_fed : (bytes : List ℕ) (m : Message) → message_in 0 bytes ≡ m → fed bytes three ≡ given m after_2.channel
shown_fed bytes m h = fed_as bytes m three after_2.channel (channel_of second_fed) kind_2 h

m12_below : (fed at_1 three).answer ≡ 7
unfolding applied after_action after_new after_change any_waiting look joining hit give gives count number entries_of run after take snap feed given in_row is_whole with_name lower at_end ends ended marked with_mark
m12_below = ap (λ (o : Reply). o.answer) (shown_fed at_1 (shows 1 bid_1) read.says_at_1)

m12_above : (fed at_4 three).answer ≡ 8
unfolding applied after_action after_new after_change any_waiting look joining hit give gives count number entries_of run after take snap feed given in_row is_whole with_name lower at_end ends ended marked with_mark
m12_above = ap (λ (o : Reply). o.answer) (shown_fed at_4 (shows 4 bid_2) read.says_at_4)

m12_taken : (fed at_2 three).answer ≡ 4
unfolding applied after_action after_new after_change any_waiting look joining hit give gives count number entries_of run after take snap feed given in_row is_whole with_name lower at_end ends ended marked with_mark
m12_taken = ap (λ (o : Reply). o.answer) (shown_fed at_2 (shows 2 bid_2) read.says_at_2)

m12_book : (inst 7 (fed at_2 three).channel.board).book ≡ record { bids = bid_2 ∷ []; offers = offer_3 ∷ [] }
unfolding applied after_action after_new after_change any_waiting look joining hit give gives count number entries_of run after take snap feed given in_row is_whole with_name lower at_end ends ended marked with_mark
m12_book = ap (λ (o : Reply). (inst 7 o.channel.board).book) (shown_fed at_2 (shows 2 bid_2) read.says_at_2)

-- ---- M13 and M14: the store's boards once it took the empty book, and once it heard message 1
abbrev empty_says : Message
empty_says = snapshot (record { number = 1; heard = 64968180540000; id = 7; last = 0; loops = 1 }) []

abbrev took : Channel
took = (given empty_says zero).channel

abbrev heard : Channel
heard = (given first_says took).channel

module _ (xs : List ℕ) (e : open_answer 0 (7 ∷ []) xs ≡ 0) where
  holds_took : Holds 0 (took_empty xs) took
  holds_took = rw read.says_empty at (recovery.after 0 (feeds empty_book_bytes) (open_store 0 (7 ∷ []) xs) zero (starts 0 (7 ∷ []) xs e))

  holds_heard : Holds 0 (heard_first xs) heard
  holds_heard = rw read.says_first at (recovery.after 0 (feeds first) (took_empty xs) took holds_took)

-- the quote of a store is its board's
abbrev answered : List ℕ → ℕ
answered time = quote_number (quote_of 7 (on_the_day time) 30 heard.board)

quoted_as : (n : ℕ) (time : List ℕ) → answered time ≡ n → QuotedWith n time
unfolding quote_answer
quoted_as n time q xs room e l = let h = holds_heard xs e in let b = ap (λ (c : Channel). c.board) h.same in rw (h.sound, le-leb 17 (length room) l, b) q

m13 :
    (answered (49 ∷ 51 ∷ 58 ∷ 48 ∷ 48 ∷ 58 ∷ 51 ∷ 48 ∷ 46 ∷ 48 ∷ 48 ∷ 48 ∷ []) ≡ 0)
    × (answered (49 ∷ 51 ∷ 58 ∷ 48 ∷ 48 ∷ 58 ∷ 51 ∷ 48 ∷ 46 ∷ 48 ∷ 48 ∷ 49 ∷ []) ≡ 24)
    × (answered (49 ∷ 50 ∷ 58 ∷ 53 ∷ 57 ∷ 58 ∷ 53 ∷ 57 ∷ 46 ∷ 57 ∷ 57 ∷ 57 ∷ []) ≡ 23)
unfolding applied after_action after_new any_waiting look joining hit give gives count number entries_of run after take snap feed quote_of age_of millis moment_of date_of time_of clock_of minutes_of two_of digits_of is_date day_of leap months days_in days_to year_days days_before given in_row is_whole with_name lower at_end ends ended marked with_mark
m13 = (refl, refl, refl)

one_is : moment_of at_one ≡ Some 64968180540000
unfolding moment_of date_of time_of clock_of minutes_of two_of digits_of is_date day_of leap months days_in days_to year_days days_before
one_is = refl

m13_heard : HeardAtOne
unfolding applied after_action after_new any_waiting look joining hit give gives count number entries_of run after take snap feed given in_row is_whole with_name lower at_end ends ended marked with_mark
m13_heard xs e = one_is ∙ sym (ap (λ (c : Channel). Some c.board.heard) (holds_heard xs e).same)

-- the page of that board is the message
page_is : page_for (Some 64968180540000) 7 (83 ∷ 72 ∷ 69 ∷ 68 ∷ []) (89 ∷ 65 ∷ 82 ∷ 68 ∷ []) 1 1 took.board ≡ message empty_book_bytes
unfolding applied after_action after_new any_waiting look joining hit give gives count number entries_of run after take snap feed arguments_fine is_id given in_row is_whole with_name lower at_end ends ended marked with_mark
page_is = ap message the_message

m14_written : Writes empty_book_bytes
unfolding send_out sent_page out_after
m14_written xs room e l =
    let h = holds_took xs e in
    let b = ap (λ (c : Channel). c.board) h.same in
    rw (h.sound, one_is, b, page_is, le-leb 110 (length room) l)

pub marked_cases : MarkedCases
marked_cases =
    record {
      m1 = price.m1;
      m2 = price.m2;
      m3 = price.m3;
      m4_point = price.m4_point;
      m4_many = price.m4_many;
      m4_point_read = read.m4_point;
      m4_many_read = read.m4_many;
      m4_eight_read = read.says_eight;
      m5_good = moment.m5_2024;
      m5_2025 = moment.m5_2025;
      m5_1900 = moment.m5_1900;
      m6 = m6;
      m7 = m7;
      m8 = m8;
      m9 = m9;
      m10 = m10;
      m10_past = m10_past;
      m11_first = m11_first;
      m11_third = m11_third;
      m11_second = m11_second;
      m11_base = m11_base;
      m11_last = m11_last;
      m12_below = m12_below;
      m12_above = m12_above;
      m12_taken = m12_taken;
      m12_book = m12_book;
      m13_heard = m13_heard;
      m13_quoted = quoted_as 0 _ m13.0;
      m13_old = quoted_as 24 _ m13.1;
      m13_ahead = quoted_as 23 _ m13.2;
      m14_written = m14_written;
      m14_length = read.sized;
      m14_sum = refl;
    }
