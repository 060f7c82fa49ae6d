-- What the messages say.
use Rattle.std.specs.Prelude.{[], ◌∷◌, ℕ, pos}
use Rattle.price.specs.Price.{hundredths}
use Rattle.book.specs.declared.Entry.{Entry}
use Rattle.book.specs.Rules.{empty_of_all}
use Rattle.book.specs.Sides.{no_entry}
use Rattle.message.specs.Message.{Message, numbered, snapshot}

-- The bid of message 1 (24.01 for 5), the bid that message 2 changes it to (24.02), and the offer of message 3 (24.05 for 7).
abbrev pub bid_1 : Entry
bid_1 = record { price = hundredths 2401; size = 5; by = 3119; more = 0; moment = 64968180540000 }

abbrev pub bid_2 : Entry
bid_2 = record { price = hundredths 2402; size = 5; by = 3119; more = 0; moment = 64968180541000 }

abbrev pub offer_3 : Entry
offer_3 = record { price = hundredths 2405; size = 7; by = 3214; more = 0; moment = 64968180542000 }

-- The same bid at 1.12345678, made by a message 1 of its own.
abbrev pub eight_says : Message
eight_says =
    numbered 1 64968180540000
    (record { who = 7; what = 0; action = 0; place = 1; entry = record { price = pos 112345678; size = 5; by = 3119; more = 0; moment = 64968180540000 } } ∷ [])

-- Message 1 makes the bid, message 2 changes it, message 3 makes the offer.
abbrev pub first_says : Message
first_says = numbered 1 64968180540000 (record { who = 7; what = 0; action = 0; place = 1; entry = bid_1 } ∷ [])

abbrev pub second_says : Message
second_says = numbered 2 64968180541000 (record { who = 7; what = 0; action = 1; place = 1; entry = bid_2 } ∷ [])

abbrev pub third_says : Message
third_says = numbered 3 64968180542000 (record { who = 7; what = 1; action = 0; place = 1; entry = offer_3 } ∷ [])

-- A snapshot of 7 after message S with one bid.
abbrev pub shows : ℕ → Entry → Message
shows S e = snapshot (record { number = 1; heard = 64968180540000; id = 7; last = S; loops = 1 }) (record { who = 7; what = 0; action = 0; place = 1; entry = e } ∷ [])

-- A loop of two: 7 after message 2, and 11 after message 3.
abbrev pub one_says : Message
one_says = snapshot (record { number = 1; heard = 64968180540000; id = 7; last = 2; loops = 2 }) (record { who = 7; what = 0; action = 0; place = 1; entry = bid_2 } ∷ [])

abbrev pub two_says : Message
two_says = snapshot (record { number = 2; heard = 64968180540000; id = 11; last = 3; loops = 2 }) []

-- Message 4 makes a bid of 9 (0.95 for 6).
abbrev pub bid_4 : Entry
bid_4 = record { price = hundredths 95; size = 6; by = 3307; more = 0; moment = 64968180543000 }

abbrev pub fourth_says : Message
fourth_says = numbered 4 64968180543000 (record { who = 9; what = 0; action = 0; place = 1; entry = bid_4 } ∷ [])

-- Message 3 of another stream empties the books of all instruments.
abbrev pub all_says : Message
all_says = numbered 3 64968180542000 (record { who = 0; what = empty_of_all; action = 0; place = 0; entry = no_entry } ∷ [])
