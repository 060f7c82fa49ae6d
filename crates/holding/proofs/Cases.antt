-- Prices as they are held, worked through: 24.01, -0.5, and the greatest. Assumes nothing.
use mathlib.Core.Path.{◌≡◌, refl}
use lib.IntN.{pos, negsuc}
use Rattle.holding.specs.Prices.{hundredths, held_of, held_top}

pub a_price : hundredths 2401 ≡ pos 2401000000
a_price = refl

pub above : held_of (pos 2401000000) ≡ 4802000000
unfolding held_of
above = refl

pub below : held_of (negsuc 49999999) ≡ 99999999
unfolding held_of
below = refl

pub greatest : held_top ≡ 199999999999999998
greatest = refl
