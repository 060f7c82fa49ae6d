-- The marked cases of document 01, M1 to M14, with M1, M2 and M4 as document 02, K6 has them, in one statement over the definitions
-- that the contracts cite.
use Rattle.std.specs.Prelude.{Some, None}
use Rattle.std.specs.Prelude.{◌≡◌, List, [], ◌∷◌, ℕ, ◌%◌, ◌≤◌, pos, negsuc, length, take}
use Rattle.std.proofs.lemmas.List.Edits.{sets}
use Rattle.price.specs.Price.{price_of}
use Rattle.moment.specs.Moments.{date_of, moment_of}
use Rattle.frame.specs.Frames.{total}
use Rattle.book.specs.Rules.{leaves, breach, after_new, after_thru, after_from}
use Rattle.book.specs.declared.Entry.{Entry}
use Rattle.message.specs.Message.{refused}
use Rattle.message.specs.declared.Refusal.TheVariants.{BadFields}
use Rattle.board.specs.Calls.{inst}
use Rattle.loops.specs.Channel.{Channel}
use Rattle.loops.specs.Calls.{opened_channel}
use Rattle.fields.specs.Messages.{message_in}
use Rattle.store.specs.Meaning.{board_at}
use Rattle.opening.specs.Opening.{open_answer, open_store}
use Rattle.feed.specs.Feeding.{fed, feed_store}
use Rattle.ask.specs.Ask.{quote_size, quote_answer}
use Rattle.send.specs.Send.{send_out}
use Rattle.samples.specs.Messages.{empty_book_bytes, point_alone, too_many_decimals, eight_decimals, first, second, third, at_1, at_2, at_4}
use Rattle.samples.specs.Says.{bid_2, offer_3, eight_says}

-- M11: a fresh channel that follows 7, and what three messages leave of it.
abbrev pub zero : Channel
zero = opened_channel 0 (7 ∷ [])

abbrev pub one : Channel
one = (fed first zero).channel

abbrev pub two : Channel
two = (fed third one).channel

abbrev pub three : Channel
three = (fed second two).channel

-- M13 and M14: any store that opening takes for 7, once it has taken the empty book, and once it has then heard message 1, which
-- was sent at 13:00:00.000.
abbrev pub took_empty : List ℕ → List ℕ
took_empty xs = feed_store empty_book_bytes (open_store 0 (7 ∷ []) xs)

abbrev pub heard_first : List ℕ → List ℕ
heard_first xs = feed_store first (took_empty xs)

-- A moment of the day 20250103, shaped as tag 52.
abbrev pub on_the_day : List ℕ → List ℕ
on_the_day time = 50 ∷ 48 ∷ 50 ∷ 53 ∷ 48 ∷ 49 ∷ 48 ∷ 51 ∷ 45 ∷ time

-- 13:00:00.000 of it.
abbrev pub at_one : List ℕ
at_one = on_the_day (49 ∷ 51 ∷ 58 ∷ 48 ∷ 48 ∷ 58 ∷ 48 ∷ 48 ∷ 46 ∷ 48 ∷ 48 ∷ 48 ∷ [])

-- M13: what is heard is that moment; with a limit of 30, a quote of 7 at a time of that day is answered n.
abbrev pub HeardAtOne : Type 0
HeardAtOne = (xs : List ℕ) → open_answer 0 (7 ∷ []) xs ≡ 0 → moment_of at_one ≡ Some (board_at (heard_first xs)).heard

abbrev pub QuotedWith : ℕ → List ℕ → Type 0
QuotedWith n time =
    (xs room : List ℕ) → open_answer 0 (7 ∷ []) xs ≡ 0 → quote_size ≤ length room → quote_answer 7 (on_the_day time) 30 room (heard_first xs) ≡ n

-- M14: a writing of 7 from SHED to YARD, 1 of 1, at 13:00:00.000, leaves these bytes in the room.
abbrev pub Writes : List ℕ → Type 0
Writes bytes =
    (xs room : List ℕ) → open_answer 0 (7 ∷ []) xs ≡ 0 → length bytes ≤ length room
    → send_out 7 (83 ∷ 72 ∷ 69 ∷ 68 ∷ []) (89 ∷ 65 ∷ 82 ∷ 68 ∷ []) 1 1 at_one room (took_empty xs)
    ≡ sets room 0 bytes

pub record MarkedCases : Type 0 where
  -- 24.01 is 2401000000
  pub m1 : price_of (50 ∷ 52 ∷ 46 ∷ 48 ∷ 49 ∷ []) ≡ Some (pos 2401000000)
  -- -0.5 is -50000000
  pub m2 : price_of (45 ∷ 48 ∷ 46 ∷ 53 ∷ []) ≡ Some (negsuc 49999999)
  -- -0 is 0
  pub m3 : price_of (45 ∷ 48 ∷ []) ≡ Some (pos 0)
  -- 1. and 9 decimals refused, alone and in a message
  pub m4_point : price_of (49 ∷ 46 ∷ []) ≡ None
  pub m4_many : price_of (49 ∷ 46 ∷ 49 ∷ 50 ∷ 51 ∷ 52 ∷ 53 ∷ 54 ∷ 55 ∷ 56 ∷ 57 ∷ []) ≡ None
  pub m4_point_read : message_in 0 point_alone ≡ refused BadFields
  pub m4_many_read : message_in 0 too_many_decimals ≡ refused BadFields
  -- and 8 read
  pub m4_eight_read : message_in 0 eight_decimals ≡ eight_says
  -- 20240229 good, 20250229 and 19000229 not
  pub m5_good : date_of (50 ∷ 48 ∷ 50 ∷ 52 ∷ 48 ∷ 50 ∷ 50 ∷ 57 ∷ []) ≡ Some 739310
  pub m5_2025 : date_of (50 ∷ 48 ∷ 50 ∷ 53 ∷ 48 ∷ 50 ∷ 50 ∷ 57 ∷ []) ≡ None
  pub m5_1900 : date_of (49 ∷ 57 ∷ 48 ∷ 48 ∷ 48 ∷ 50 ∷ 50 ∷ 57 ∷ []) ≡ None
  -- a,b,c with new x at 2: a,x,b,c
  pub m6 : (a b c x : Entry) → after_new (a ∷ b ∷ c ∷ []) 2 x ≡ leaves (a ∷ x ∷ b ∷ c ∷ [])
  -- a,b,c thru 2: c
  pub m7 : (a b c : Entry) → after_thru (a ∷ b ∷ c ∷ []) 2 ≡ leaves (c ∷ [])
  -- a,b,c from 2: a
  pub m8 : (a b c : Entry) → after_from (a ∷ b ∷ c ∷ []) 2 ≡ leaves (a ∷ [])
  -- new at 5 of 3: reason 1
  pub m9 : (a b c x : Entry) → after_new (a ∷ b ∷ c ∷ []) 5 x ≡ breach 1
  -- 20 held, new at 21: reason 2; at 22: reason 1
  pub m10 : (l : List Entry) (x : Entry) → length l ≡ 20 → after_new l 21 x ≡ breach 2
  pub m10_past : (l : List Entry) (x : Entry) → length l ≡ 20 → after_new l 22 x ≡ breach 1
  -- fresh, 34 = 1, 3, 2: answers 0, 1, 2, then B = 2, H = 3
  pub m11_first : (fed first zero).answer ≡ 0
  pub m11_third : (fed third one).answer ≡ 1
  pub m11_second : (fed second two).answer ≡ 2
  pub m11_base : three.board.B ≡ 2
  pub m11_last : three.board.H ≡ 3
  -- after it 369 = 1, 4, 2: 7, 8, taken with message 3 replayed
  pub m12_below : (fed at_1 three).answer ≡ 7
  pub m12_above : (fed at_4 three).answer ≡ 8
  pub m12_taken : (fed at_2 three).answer ≡ 4
  pub m12_book : (inst 7 (fed at_2 three).channel.board).book ≡ record { bids = bid_2 ∷ []; offers = offer_3 ∷ [] }
  -- heard 13:00:00.000, limit 30: 13:00:30.000 quoted, 13:00:30.001 is 24, 12:59:59.999 is 23
  pub m13_heard : HeardAtOne
  pub m13_quoted : QuotedWith 0 (49 ∷ 51 ∷ 58 ∷ 48 ∷ 48 ∷ 58 ∷ 51 ∷ 48 ∷ 46 ∷ 48 ∷ 48 ∷ 48 ∷ [])
  pub m13_old : QuotedWith 24 (49 ∷ 51 ∷ 58 ∷ 48 ∷ 48 ∷ 58 ∷ 51 ∷ 48 ∷ 46 ∷ 48 ∷ 48 ∷ 49 ∷ [])
  pub m13_ahead : QuotedWith 23 (49 ∷ 50 ∷ 58 ∷ 53 ∷ 57 ∷ 58 ∷ 53 ∷ 57 ∷ 46 ∷ 57 ∷ 57 ∷ 57 ∷ [])
  -- the message for an empty book is what the writer writes; it has 110 bytes, and those before tag 10 sum to 29
  pub m14_written : Writes empty_book_bytes
  pub m14_length : length empty_book_bytes ≡ 110
  pub m14_sum : total (take 103 empty_book_bytes) % 256 ≡ 29
