-- A message as a board takes it, and the reader's answer that says it.
use Rattle.std.specs.Prelude.{ℕ, List, [], Result, Ok, Err, length}
use Rattle.book.specs.declared.Update.{Update}
use Rattle.message.specs.declared.Refusal.{Refusal}
use Rattle.message.specs.declared.Refusal.TheVariants.{BadFrame, BadSum, BadType, BadFields}
use Rattle.message.specs.declared.Kind.{Kind}
use Rattle.message.specs.declared.Kind.TheVariants.{Numbered, Snapshot}
use Rattle.message.specs.declared.Reading.{Reading}
use Rattle.message.specs.declared.Head as head

-- 34, 369 and 911 end here.
abbrev pub most_number : ℕ
most_number = 4294967295

-- What stands before the entries of a W: 34, 52's moment, 48, 369, 911.
abbrev pub Head : Type 0
Head = head.Head

pub data Message : Type 0 where
  -- X, 0, f, y, B: 34, 52's moment, and the bid, offer and J entries in order; who is the SecurityID
  numbered : ℕ → ℕ → List Update → Message
  -- W: its head, and its bids and offers in order
  snapshot : Head → List Update → Message
  -- not read, and why
  refused : Refusal → Message

-- Document 01's answer numbers of a message that is not read.
abbrev pub answer_of : Refusal → ℕ
answer_of BadFrame = 11
answer_of BadSum = 12
answer_of BadType = 13
answer_of BadFields = 14

-- What the reader answers for a message: its numbers, or why it is not read, and the entries that it writes into a run.
pub record Told : Type 0 where
  pub reading : Result Reading Refusal
  pub entries : List Update

unfoldable pub told : Message → Told
told (numbered n at us) =
    record { reading = Ok (record { kind = Numbered; number = n; heard = at; id = 0; last = 0; loops = 0; count = length us }); entries = us }
told (snapshot h us) =
    record {
      reading = Ok (record {
        kind = Snapshot;
        number = h.number;
        heard = h.heard;
        id = h.id;
        last = h.last;
        loops = h.loops;
        count = length us;
      });
      entries = us;
    }
told (refused why) = record { reading = Err why; entries = [] }

-- What stands before the entries of the W that a reading tells.
abbrev pub head_in : Reading → Head
head_in r = record { number = r.number; heard = r.heard; id = r.id; last = r.last; loops = r.loops }

-- The message that a reading and its entries say.
abbrev pub said_by : Kind → Reading → List Update → Message
said_by Numbered r us = numbered r.number r.heard us
said_by Snapshot r us = snapshot (head_in r) us

abbrev pub says : Reading → List Update → Message
says r us = said_by r.kind r us

-- The message that the reader's answer and its entries say.
abbrev pub said : Result Reading Refusal → List Update → Message
said (Ok r) us = says r us
said (Err why) us = refused why

-- How many entries there are.
abbrev pub count_in : Result Reading Refusal → ℕ
count_in (Ok r) = r.count
count_in (Err why) = 0
