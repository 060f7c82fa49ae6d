-- The number of this layout is none of an earlier one. Assumes nothing.
use mathlib.Core.Path.{◌≡◌, refl}
use mathlib.Core.Bool.{false}
use Rattle.board.specs.Sound.{among}
use Rattle.store.specs.Layout.{layout_number, earlier_layouts}

pub new_number : among layout_number earlier_layouts ≡ false
new_number = refl
