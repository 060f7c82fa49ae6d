-- What is shown of every call, besides demand 3.
use Rattle.std.specs.Prelude.{◌≡◌, Bool, true, false, List, [], ◌≢◌, ℕ, ◌+◌, ◌≤◌, ◌<◌, leb, ltb, length}
use Rattle.book.specs.Rules.{for_all}
use Rattle.book.specs.declared.Update.{Update}
use Rattle.message.specs.Message.{Message, Head, numbered, snapshot, refused}
use Rattle.board.specs.Board.{Inst, Board, opened, ids_of, any_waiting, waiting_in, look, at}
use Rattle.board.specs.Count.{gives}
use Rattle.board.specs.Feed.{feed}
use Rattle.board.specs.Calls.{Call, fed, aside, calls, Throughout, changes, inst, mine}
use Rattle.board.specs.Ranges.{within, message_fine}
use Rattle.board.specs.Sound.{opens, sound_board, Each}

-- Opening makes a sound board.
abbrev pub OpensSound : Type 0
OpensSound = (depth : ℕ) (ids : List ℕ) → opens depth ids ≡ true → sound_board (opened depth ids) ≡ true

-- A message in range leaves a sound board sound.
abbrev pub KeepsSound : Type 0
KeepsSound = (m : Message) (b : Board) → sound_board b ≡ true → message_fine b.depth m ≡ true → sound_board (feed m b).board ≡ true

-- So every board is sound that opening and calls with messages in range make.
abbrev pub InRange : Call → Board → Type 0
InRange (fed m) b = message_fine b.depth m ≡ true
InRange (aside a) b = Unit {0}

abbrev pub StaysSound : Type 0
StaysSound =
    (depth : ℕ) (ids : List ℕ) (cs : List Call) → opens depth ids ≡ true → Throughout InRange cs (opened depth ids)
    → sound_board (calls cs (opened depth ids)) ≡ true

-- Only 0, 1, 3, 4 and 10 change the board.
abbrev pub RefusalsStay : Type 0
RefusalsStay = (m : Message) (b : Board) → changes (feed m b).answer ≡ false → (feed m b).board ≡ b

-- No call changes the depth kind or the SecurityIDs, which stay in their order.
pub record Same (b c : Board) : Type 0 where
  pub depth : b.depth ≡ c.depth
  pub ids : ids_of b.insts ≡ ids_of c.insts

abbrev pub FeedsSame : Type 0
FeedsSame = (m : Message) (b : Board) → Same (feed m b).board b

-- Entries for one instrument never touch another's; since document 02, K4, that is said of entries with a 48 only. What a message leaves of
-- an instrument, its book, mark and reason, is what it leaves without the entries that have the 48 of another: `mine d` keeps those with
-- its own and those without one.
abbrev pub OwnEntriesOnly : Type 0
OwnEntriesOnly =
    (d n heard : ℕ) (us : List Update) (b : Board)
    → inst d (feed (numbered n heard us) b).board ≡ inst d (feed (numbered n heard (mine d us)) b).board

-- So an instrument stays as it is where each entry of a message in order has the 48 of another, and where a snapshot isn't for it.
abbrev pub OfAnother : ℕ → Update → Type 0
OfAnother d u = (for_all u ≡ false) × (u.who ≢ d)

abbrev pub OthersStay : Type 0
OthersStay =
    (d n heard : ℕ) (us : List Update) (b : Board) → n ≡ b.H + 1 → Each (OfAnother d) us
    → inst d (feed (numbered n heard us) b).board ≡ inst d b

abbrev pub OwnSnapshotOnly : Type 0
OwnSnapshotOnly = (d : ℕ) (h : Head) (us : List Update) (b : Board) → d ≢ h.id → inst d (feed (snapshot h us) b).board ≡ inst d b

-- The same by index, of the entries that Live instruments get.
abbrev pub GivesOwnOnly : Type 0
GivesOwnOnly = (i : ℕ) (us : List Update) (b : Board) → mine i us ≡ [] → at i (gives us b) ≡ at i b

-- After a snapshot is taken (4) its instrument is Live, and its reason is 0; where the replay broke (10) it is Waiting.
abbrev pub TakenIsLive : Type 0
TakenIsLive =
    (h : Head) (us : List Update) (b : Board) → (feed (snapshot h us) b).answer ≡ 4
    → ((inst h.id (feed (snapshot h us) b).board).waiting ≡ false) × ((inst h.id (feed (snapshot h us) b).board).reason ≡ 0)

abbrev pub BrokeIsWaiting : Type 0
BrokeIsWaiting =
    (h : Head) (us : List Update) (b : Board) → (feed (snapshot h us) b).answer ≡ 10
    → (inst h.id (feed (snapshot h us) b).board).waiting ≡ true

-- A snapshot changes neither H nor the heard time: a quote is dated by what was last counted.
abbrev pub SnapshotKeepsDate : Type 0
SnapshotKeepsDate =
    (h : Head) (us : List Update) (b : Board) → ((feed (snapshot h us) b).board.H ≡ b.H) × ((feed (snapshot h us) b).board.heard ≡ b.heard)

-- A message with a number answers 0 to 3, a snapshot 4 to 10, one that is not read 11 to 14.
abbrev pub answers_to : Message → ℕ → Bool
answers_to (numbered n heard us) a = leb a 3
answers_to (snapshot h us) a = within 4 10 a
answers_to (refused why) a = within 11 14 a

abbrev pub AnswersInTable : Type 0
AnswersInTable = (m : Message) (b : Board) → answers_to m (feed m b).answer ≡ true

-- 1 and 3 can't meet: at most 64 entries join the empty queue of a gap.
abbrev pub GapsAnswerOne : Type 0
GapsAnswerOne = (n heard : ℕ) (us : List Update) (b : Board) → b.H + 1 < n → length us ≤ 64 → (feed (numbered n heard us) b).answer ≡ 1

-- Any is Waiting where their number isn't 0, and each instrument of a sound board is the one that its SecurityID finds.
abbrev pub AnyIsSome : Type 0
AnyIsSome = (xs : List Inst) → any_waiting xs ≡ ltb 0 (waiting_in xs)

abbrev pub FoundAtOwnIndex : Type 0
FoundAtOwnIndex = (b : Board) → sound_board b ≡ true → (i : ℕ) → i < length b.insts → look (at i b).id b.insts ≡ i
