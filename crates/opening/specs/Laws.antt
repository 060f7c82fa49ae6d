-- What is shown of opening: an opened store is sound, it is the opened board with no loop, and the call is settled.
use Rattle.std.specs.Prelude.{◌≡◌, true, List, ℕ}
use Rattle.board.specs.Board.{opened}
use Rattle.loops.specs.Calls.{opened_channel}
use Rattle.store.specs.Meaning.{board_at, channel_at}
use Rattle.sound.specs.Sound.{sound}
use Rattle.sound.specs.Settled.{Settled}
use Rattle.opening.specs.Opening.{open_answer, open_store, Opened}

abbrev pub OpenedIsSound : Type 0
OpenedIsSound = (depth : ℕ) (ids xs : List ℕ) → open_answer depth ids xs ≡ 0 → sound (open_store depth ids xs) ≡ true

abbrev pub OpenedIsChannel : Type 0
OpenedIsChannel = (depth : ℕ) (ids xs : List ℕ) → open_answer depth ids xs ≡ 0 → channel_at (open_store depth ids xs) ≡ opened_channel depth ids

abbrev pub OpenedIsBoard : Type 0
OpenedIsBoard = (depth : ℕ) (ids xs : List ℕ) → open_answer depth ids xs ≡ 0 → board_at (open_store depth ids xs) ≡ opened depth ids

abbrev pub OpenSettled : Type 0
OpenSettled = (depth : ℕ) (ids xs : List ℕ) → Settled (Opened depth ids xs)
