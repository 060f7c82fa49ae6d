-- What a sound store gives to a quote. Assumes nothing.
use mathlib.Core.Path.{◌≡◌}
use mathlib.Core.Bool.{true}
use mathlib.Core.List.{List}
use Prim.Native.Nat.{ℕ}
use Rattle.store.specs.Meaning.{board_of, loaded}
use Rattle.sound.specs.Sound.{sound}
use Rattle.sound.proofs.Readers.{formed, board}
use Rattle.quote.specs.Ready.{Ready}

pub ready : (xs : List ℕ) → sound xs ≡ true → Ready (loaded xs)
unfolding board_of
ready xs s = record { long = (formed xs s).long; few = (formed xs s).few; heard = (board xs s).heard }
