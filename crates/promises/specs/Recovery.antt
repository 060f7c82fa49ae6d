-- Demand 3 over bytes and calls: for one exchange stream and an instrument that it never breaks, after any losses, repeats,
-- refusals and snapshots, whenever the instrument is marked Live its book is the one the whole stream gives up to our last number.
use Rattle.std.specs.Prelude.{◌≡◌, List, map, ℕ}
use Rattle.book.specs.Rules.{Lists, leaves}
use Rattle.book.specs.declared.Update.{Update}
use Rattle.message.specs.Message.{Message}
use Rattle.board.specs.Calls.{fed, inst, Live}
use Rattle.board.specs.Demand.{NumberedFromOne, NeverBreaks, book_at, Truth}
use Rattle.loops.specs.Demand.{RightBy, FairBy}
use Rattle.fields.specs.Messages.{message_in}
use Rattle.store.specs.Meaning.{board_at, channel_at}
use Rattle.opening.specs.Opening.{open_answer, open_store}
use Rattle.promises.specs.Acts.{Act, feeds, reads, lefts, Along}

-- The stream's messages, read on a channel of a depth kind.
abbrev pub read_in : ℕ → List (List ℕ) → List Message
read_in depth stream = map (message_in depth) stream

-- Supposed of a call: a message that it counts is the stream's of that number; a snapshot of d that it takes shows the stream's book
-- at the number that the snapshot names; and where the end of a loop takes a snapshot for d, which the loop did not name, the
-- stream's book of d is empty at the lowest 369 of the loop.
abbrev pub Supposed : ℕ → List (List ℕ) → ℕ → Act → List ℕ → Type 0
Supposed depth stream d (feeds bytes) xs = RightBy (read_in depth stream) d (fed (message_in depth bytes)) (channel_at xs)
Supposed depth stream d reads xs = Unit {0}

-- Demand 3.
abbrev pub RecoversStream : Type 0
RecoversStream =
    (depth : ℕ) (stream : List (List ℕ)) → NumberedFromOne (read_in depth stream)
    → (d : ℕ) → NeverBreaks (read_in depth stream) d
    → (ids xs : List ℕ) → open_answer depth ids xs ≡ 0
    → (cs : List Act) → Along (Supposed depth stream d) cs (open_store depth ids xs)
    → Live d (board_at (lefts cs (open_store depth ids xs)))
    → book_at (read_in depth stream) d (board_at (lefts cs (open_store depth ids xs))).H
    ≡ leaves (inst d (board_at (lefts cs (open_store depth ids xs)))).book

-- The stronger statement, from which it follows: s n are the entries for d and for all in message n, and t n is its true book after it,
-- which the stream may break. Less is supposed of a call: a message that it counts has the stream's entries for d and for all, and it is
-- the true book that snapshots and the ends of loops show.
abbrev pub SupposedLess : ℕ → ℕ → (ℕ → List Update) → (ℕ → Lists) → Act → List ℕ → Type 0
SupposedLess depth d s t (feeds bytes) xs = FairBy d s t (fed (message_in depth bytes)) (channel_at xs)
SupposedLess depth d s t reads xs = Unit {0}

abbrev pub RecoversTruth : Type 0
RecoversTruth =
    (d : ℕ) (s : ℕ → List Update) (t : ℕ → Lists) → Truth s t
    → (depth : ℕ) (ids xs : List ℕ) → open_answer depth ids xs ≡ 0
    → (cs : List Act) → Along (SupposedLess depth d s t) cs (open_store depth ids xs)
    → Live d (board_at (lefts cs (open_store depth ids xs)))
    → (inst d (board_at (lefts cs (open_store depth ids xs)))).book ≡ t (board_at (lefts cs (open_store depth ids xs))).H
