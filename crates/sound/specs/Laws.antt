-- What is shown of sound stores: such a store and its channel determine each other, and they are the stores that the channel's
-- code may find and leaves.
use Rattle.std.specs.Prelude.{◌≡◌, true, false, List, ◌++◌, ℕ, length, get_or, take}
use Rattle.board.specs.Sound.{among, Sound}
use Rattle.loops.specs.Channel.{Channel}
use Rattle.loops.specs.Sound.{sound_loop, sound_channel}
use Rattle.store.specs.Layout.{store_size, at_layout, earlier_layouts}
use Rattle.store.specs.Meaning.{board_at, loop_at, channel_at, loaded, written}
use Rattle.store.specs.Canon.{Formed, Canon}
use Rattle.scan.specs.Scan.{scan}
use Rattle.sound.specs.Sound.{sound}

-- The scan finds exactly the sound stores.
abbrev pub ScanIsSound : Type 0
ScanIsSound = (xs : List ℕ) → scan xs ≡ sound xs

-- A sound store's 7,168 numbers are those of its channel.
abbrev pub SoundIsWritten : Type 0
SoundIsWritten = (xs : List ℕ) → sound xs ≡ true → take store_size xs ≡ written (channel_at xs)

-- A channel takes 7,168 numbers.
abbrev pub WrittenLength : Type 0
WrittenLength = (c : Channel) → length (written c) ≡ store_size

-- The numbers of a sound channel, whatever stands behind them, are read as that channel.
abbrev pub WrittenReadsBack : Type 0
WrittenReadsBack = (c : Channel) (ys : List ℕ) → sound_channel c ≡ true → channel_at (written c ++ ys) ≡ c

-- They are a sound store.
abbrev pub WrittenIsSound : Type 0
WrittenIsSound = (c : Channel) (ys : List ℕ) → sound_channel c ≡ true → sound (written c ++ ys) ≡ true

-- So two sound stores of one channel have the same numbers.
abbrev pub SoundOnce : Type 0
SoundOnce = (xs ys : List ℕ) → sound xs ≡ true → sound ys ≡ true → channel_at xs ≡ channel_at ys → take store_size xs ≡ take store_size ys

-- A sound store is one that the channel's code may find, with a sound board.
abbrev pub SoundIsCanon : Type 0
SoundIsCanon = (xs : List ℕ) → sound xs ≡ true → Canon (loaded xs) × Sound (board_at xs)

-- The record of its loop is sound.
abbrev pub LoopSound : List ℕ → Type 0
LoopSound xs = sound_loop (length (board_at xs).insts) (loop_at xs) ≡ true

abbrev pub SoundIsLooped : Type 0
SoundIsLooped = (xs : List ℕ) → sound xs ≡ true → LoopSound xs

-- And one that it leaves with a sound board and a sound loop is sound.
abbrev pub FormedIsSound : Type 0
FormedIsSound = (xs : List ℕ) → Formed (loaded xs) → Sound (board_at xs) → LoopSound xs → sound xs ≡ true

abbrev pub CanonIsSound : Type 0
CanonIsSound = (xs : List ℕ) → Canon (loaded xs) → Sound (board_at xs) → LoopSound xs → sound xs ≡ true

-- A store of an earlier layout is unsound.
abbrev pub EarlierIsUnsound : Type 0
EarlierIsUnsound = (xs : List ℕ) → among (get_or xs at_layout 0) earlier_layouts ≡ true → sound xs ≡ false
