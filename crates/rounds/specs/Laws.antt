-- What is shown of a message on a store: what it leaves is settled; in range it leaves of a sound store the numbers of the channel after
-- it, which are sound again.
use Rattle.std.specs.Prelude.{◌≡◌, true, List, ◌++◌, ℕ, drop}
use Rattle.message.specs.Message.{Message}
use Rattle.board.specs.Ranges.{message_fine}
use Rattle.loops.specs.declared.Loop.{Loop}
use Rattle.loops.specs.Channel.{given}
use Rattle.store.specs.Layout.{store_size}
use Rattle.store.specs.Meaning.{State, board_at, loop_at, channel_at, loaded, saved, with_loop, written}
use Rattle.sound.specs.Sound.{sound}
use Rattle.rounds.specs.Rounds.{Gives}

-- What a message leaves of a store xs: the answer; the numbers of the channel after it, with those beyond the 7,168 as they were; that
-- they are read as that channel; and that they are sound.
pub record Left (m : Message) (xs : List ℕ) (a : ℕ) (ys : List ℕ) : Type 0 where
  pub answer : a ≡ (given m (channel_at xs)).answer
  pub store : ys ≡ written (given m (channel_at xs)).channel ++ drop store_size xs
  pub channel : channel_at ys ≡ (given m (channel_at xs)).channel
  pub again : sound ys ≡ true

-- The contract settles all: of any two outcomes that it allows the answer, the record, the heading and every number of the store are equal.
abbrev pub GivesOnce : Type 0
GivesOnce =
    (m : Message) (l : Loop) (s : State) (a b : ℕ) (row other : Loop) (t u : State) → Gives m l s a row t → Gives m l s b other u
    → (a ≡ b) × (row ≡ other) × (t ≡ u)

-- A sound store with its heading and its loop's record saved after a message in range.
abbrev pub SoundIsLeft : Type 0
SoundIsLeft =
    (xs : List ℕ) (m : Message) (a : ℕ) (row : Loop) (t : State) → sound xs ≡ true → message_fine (board_at xs).depth m ≡ true
    → Gives m (loop_at xs) (loaded xs) a row t → Left m xs a (with_loop row (saved t))
