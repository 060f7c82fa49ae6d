-- When a store is sound (document 01, "The store is unsound when .."): it has 7,168 numbers, and they are the numbers of a
-- sound channel. So an unused place, queue entry or instrument, and every spare number, is zero.
use Rattle.std.specs.Prelude.{Bool, true, false, ◌&&◌, List, [], ◌∷◌, ℕ, leb, eqb, length, take}
use Rattle.loops.specs.Sound.{sound_channel}
use Rattle.store.specs.Layout.{store_size}
use Rattle.store.specs.Meaning.{channel_at, written}

-- The same numbers.
unfoldable pub same : List ℕ → List ℕ → Bool
same [] [] = true
same [] (y ∷ ys) = false
same (x ∷ xs) [] = false
same (x ∷ xs) (y ∷ ys) = eqb x y && same xs ys

unfoldable pub sound : List ℕ → Bool
sound xs = leb store_size (length xs) && (sound_channel (channel_at xs) && same (take store_size xs) (written (channel_at xs)))
