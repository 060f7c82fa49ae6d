-- What is shown of the walk of a recording.
use Rattle.std.specs.Prelude.{ℕ, ◌+◌, ◌*◌, ◌≤◌, ◌<◌, ◌≡◌, List, ◌∷◌, ◌++◌, map, true, length, take, drop}
use Rattle.frame.specs.Frames.{frame_of}
use Rattle.stretch.specs.Stretches.{passes}
use Rattle.stretch.specs.Windows.{decided}
use Rattle.salvage.specs.Pieces.{Piece, Walk, pieces, Tiles, times, apart, Messages, laid, end_to_end, all_pass}
use Rattle.salvage.specs.Rooms.{spanned, given, go_on, cells, least_room, walk_out, walks, reached, wide, join, said_in, calls}
use Rattle.salvage.specs.Windows.{sure}

-- ---- the whole walk
pub record Whole (rec : List ℕ) (from : ℕ) : Type 0 where
  -- the pieces are the recording's walk, and it has no other
  pub walk : Walk rec from (pieces rec from)
  pub only : (ps : List Piece) → Walk rec from ps → ps ≡ pieces rec from
  -- they cover the recording exactly once, in order
  pub tiles : Tiles from (pieces rec from) (length rec)
  pub once : (q : ℕ) → from ≤ q → q < length rec → times q (pieces rec from) ≡ 1
  -- no two passed runs touch
  pub apart : apart (pieces rec from) ≡ true
  -- and each message is bytes that 11 and 12 do not refuse
  pub good : Messages (λ p n. passes (frame_of (take n (drop p rec))) ≡ true) (pieces rec from)

abbrev pub WalkIsWhole : Type 0
WalkIsWhole = (rec : List ℕ) (from : ℕ) → from ≤ length rec → Whole rec from

-- Messages end to end, without holes, are found as they are.
abbrev pub AllAreFound : Type 0
AllAreFound = (ms : List (List ℕ)) → all_pass ms ≡ true → pieces (end_to_end ms) 0 ≡ laid 0 ms

-- ---- in lent room
-- A walk goes on inside the recording, and always gets on.
pub record Step (rec : List ℕ) (from room : ℕ) : Type 0 where
  pub inside : go_on rec from room ≤ length rec
  pub on : least_room ≤ room → from < length rec → from < go_on rec from room

abbrev pub WalkGetsOn : Type 0
WalkGetsOn = (rec : List ℕ) (from room : ℕ) → from ≤ length rec → Step rec from room

-- Walks that go on where the one before says reach the end, in at most as many rooms as there are bytes; joined, they are the one walk.
abbrev pub EndIsReached : Type 0
EndIsReached =
    (rec : List ℕ) (from : ℕ) (rooms : List ℕ) → from ≤ length rec → wide rooms ≡ true → length rec ≤ from + length rooms
    → reached rec from rooms ≡ length rec

abbrev pub WalksJoined : Type 0
WalksJoined =
    (rec : List ℕ) (from : ℕ) (rooms : List ℕ) → from ≤ length rec → reached rec from rooms ≡ length rec → walks rec from rooms ≡ pieces rec from

-- What a walk that is not refused leaves in the room: two numbers, the pieces, and what lay behind them; and the numbers say the pieces.
pub record Left (rec : List ℕ) (from : ℕ) (room : List ℕ) : Type 0 where
  pub numbers :
      walk_out rec from room
      ≡ (go_on rec from (length room) ∷ length (given rec from (length room)) ∷ cells (given rec from (length room)))
      ++ drop (2 + 3 * length (given rec from (length room))) room
  pub says : said_in (walk_out rec from room) ≡ given rec from (length room)

abbrev pub RoomSays : Type 0
RoomSays = (rec : List ℕ) (from : ℕ) (room : List ℕ) → from ≤ length rec → least_room ≤ length room → Left rec from room

-- So calls in rooms of 5 numbers and more, as many as there are bytes, say the one walk.
abbrev pub CallsJoined : Type 0
CallsJoined =
    (rec : List ℕ) (from : ℕ) (rooms : List (List ℕ)) → from ≤ length rec → wide (map length rooms) ≡ true → length rec ≤ from + length rooms
    → calls rec from rooms ≡ pieces rec from

-- ---- a window at a time
-- What is sure of a window, joined with the walk of the whole from there on, is the walk of the whole; and the window gets on where its
-- first place is decided.
abbrev pub sure_of : List ℕ → ℕ → List Piece
sure_of w from = sure (decided w) (pieces w from)

pub record Window (w rest : List ℕ) (from : ℕ) : Type 0 where
  pub joined : join (sure_of w from) (pieces (w ++ rest) (from + spanned (sure_of w from))) ≡ pieces (w ++ rest) from
  pub on : from < length w → decided w from ≡ true → 1 ≤ spanned (sure_of w from)

abbrev pub WindowsJoined : Type 0
WindowsJoined = (w rest : List ℕ) (from : ℕ) → from ≤ length w → Window w rest from
