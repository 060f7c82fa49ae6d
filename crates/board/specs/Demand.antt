-- Demand 3: the stream, the book that it gives an instrument, what is supposed of the calls, and what is then shown.
use Rattle.std.specs.Prelude.{◌≡◌, true, List, [], ℕ, zero, suc, ◌≤◌, ◌<◌, length, get_or}
use Rattle.book.specs.Rules.{Lists, empty, Outcome, leaves}
use Rattle.book.specs.declared.Update.{Update}
use Rattle.message.specs.Message.{Message, numbered, snapshot, refused}
use Rattle.message.specs.declared.Refusal.TheVariants.{BadFrame}
use Rattle.board.specs.Board.{Board, opened}
use Rattle.board.specs.Snapshot.{shown, and_then, run}
use Rattle.board.specs.Feed.{feed}
use Rattle.board.specs.Calls.{Call, fed, aside, calls, Throughout, is_counted, inst, Live, mine}

-- The stream is a list of messages; k counts from 0, and past the end stands a message that says nothing.
abbrev pub nothing : Message
nothing = refused BadFrame

abbrev pub message_at : List Message → ℕ → Message
message_at ms k = get_or ms k nothing

-- It is well formed and numbered from 1.
abbrev pub NumberedFromOne : List Message → Type 0
NumberedFromOne ms = (k : ℕ) → k < length ms → (heard : ℕ) × (us : List Update) × (message_at ms k ≡ numbered (suc k) heard us)

-- The entries of a message with a number.
abbrev pub entries_in : Message → List Update
entries_in (numbered n heard us) = us
entries_in (snapshot h us) = []
entries_in (refused why) = []

-- The stream's entries for d and for all in its message number n.
abbrev pub entries_at : List Message → ℕ → ℕ → List Update
entries_at ms d zero = []
entries_at ms d (suc k) = mine d (entries_in (message_at ms k))

-- The book that the stream gives d up to number n: the entries for d and for all of the messages 1 to n, on the empty book.
unfoldable pub book_at : List Message → ℕ → ℕ → Outcome Lists
book_at ms d zero = leaves empty
book_at ms d (suc k) = and_then (book_at ms d k) (run (entries_at ms d (suc k)))

-- The stream never breaks d.
abbrev pub NeverBreaks : List Message → ℕ → Type 0
NeverBreaks ms d = (n : ℕ) → n ≤ length ms → (b : Lists) × (book_at ms d n ≡ leaves b)

-- The message is one of the stream's; its number says which.
abbrev pub IsOf : List Message → Message → Type 0
IsOf ms m = (k : ℕ) × (k < length ms) × (message_at ms k ≡ m)

-- Supposed of a call: a message that it counts is the stream's, and a snapshot of d that it takes shows the stream's book at
-- the number that the snapshot names.
abbrev pub Right : List Message → ℕ → Call → Board → Type 0
Right ms d (fed (numbered n heard us)) b = is_counted (feed (numbered n heard us) b).answer ≡ true → IsOf ms (numbered n heard us)
Right ms d (fed (snapshot h us)) b = (feed (snapshot h us) b).answer ≡ 4 → h.id ≡ d → book_at ms d h.last ≡ leaves (shown us)
Right ms d (fed (refused why)) b = Unit {0}
Right ms d (aside a) b = Unit {0}

-- Demand 3: whenever d, which the stream never breaks, is Live, its book is the stream's at H.
abbrev pub Demand3 : Type 0
Demand3 =
    (ms : List Message) → NumberedFromOne ms → (d : ℕ) → NeverBreaks ms d
    → (depth : ℕ) (ids : List ℕ) (cs : List Call) → Throughout (Right ms d) cs (opened depth ids)
    → Live d (calls cs (opened depth ids))
    → book_at ms d (calls cs (opened depth ids)).H ≡ leaves (inst d (calls cs (opened depth ids))).book

-- The stronger statement, of an instrument that the stream may break. s n are its entries in message n, and t n is its true
-- book after it: wherever the entries of message n+1 run on the true book, they leave the true book.
abbrev pub Truth : (ℕ → List Update) → (ℕ → Lists) → Type 0
Truth s t = (n : ℕ) (b : Lists) → run (s (suc n)) (t n) ≡ leaves b → b ≡ t (suc n)

-- Less is supposed of a call: a message that it counts has the stream's entries for d and for all, and a snapshot of d that it takes
-- shows the true book at the number that the snapshot names.
abbrev pub Fair : ℕ → (ℕ → List Update) → (ℕ → Lists) → Call → Board → Type 0
Fair d s t (fed (numbered n heard us)) b = is_counted (feed (numbered n heard us) b).answer ≡ true → mine d us ≡ s n
Fair d s t (fed (snapshot h us)) b = (feed (snapshot h us) b).answer ≡ 4 → h.id ≡ d → shown us ≡ t h.last
Fair d s t (fed (refused why)) b = Unit {0}
Fair d s t (aside a) b = Unit {0}

-- Whenever d is Live, its book is the true one at H.
abbrev pub Recovers : Type 0
Recovers =
    (d : ℕ) (s : ℕ → List Update) (t : ℕ → Lists) → Truth s t
    → (depth : ℕ) (ids : List ℕ) (cs : List Call) → Throughout (Fair d s t) cs (opened depth ids)
    → Live d (calls cs (opened depth ids))
    → (inst d (calls cs (opened depth ids))).book ≡ t (calls cs (opened depth ids)).H
