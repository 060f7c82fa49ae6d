-- What a sound store gives to those who read it. Assumes nothing.
use mathlib.Core.Path.{◌≡◌}
use mathlib.Core.Bool.{true}
use mathlib.Core.List.{List}
use Prim.Native.Nat.{ℕ, ◌≤◌, ◌<◌, ◌^◌}
use lib.Pow.{pow_mono}
use native.Mathlib.Omega.{arith}
use lib.ListN.{length, get_or}
use Rattle.message.specs.Message.{most_number}
use Rattle.board.specs.Sound.{Sound}
use Rattle.loops.proofs.Sounding.{come_below, named_below}
use Rattle.store.specs.Layout.{at_followed, at_marks, at_come, at_named}
use Rattle.store.specs.Meaning.{board_at, loop_at, loaded}
use Rattle.store.specs.Canon.{Formed, Canon}
use Rattle.store.proofs.Decode.{insts_length}
use Rattle.sound.specs.Sound.{sound}
use Rattle.sound.proofs.Laws.{sound_is_canon, sound_is_looped}

-- marks of at most 16 instruments are a number of 16 bits
sixteen : (m f : ℕ) → m < 2 ^ f → f ≤ 16 → m < 65536
sixteen m f h l = let p : 2 ^ f ≤ 2 ^ 16 = pow_mono l in omega arith

module _ (xs : List ℕ) (s : sound xs ≡ true) where
  pub canon : Canon (loaded xs)
  canon = (sound_is_canon xs s).0

  pub formed : Formed (loaded xs)
  formed = canon.formed

  pub board : Sound (board_at xs)
  board = (sound_is_canon xs s).1

  pub marks : get_or xs at_marks 0 < 65536
  marks = sixteen _ _ formed.marks formed.few

  -- and so are the names of the loop's record
  pub named : get_or xs at_named 0 < 65536
  named = sixteen _ _ (named_below (get_or xs at_followed 0) (loop_at xs) (rw (insts_length (loaded xs)) at (sound_is_looped xs s))) formed.few

  pub come : get_or xs at_come 0 ≤ most_number
  come = come_below (length (board_at xs).insts) (loop_at xs) (sound_is_looped xs s)
