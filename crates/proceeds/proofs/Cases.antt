-- The worked cases compute. Assumes nothing.
use mathlib.Core.Path.{refl}
use Rattle.sums.specs.Sums.{fits}
use Rattle.proceeds.specs.Lots.{units_of, left_of, value_of, all_fit, lot_of}
use Rattle.proceeds.specs.Cases.{LotCases}

pub lot_cases : LotCases
unfolding fits units_of left_of value_of all_fit lot_of
lot_cases =
    record {
      cut = refl;
      short = refl;
      none = refl;
      product = refl;
      least = refl;
      below = refl;
      most = refl;
      above = refl;
      partial = refl;
      largest = refl;
      smallest = refl;
      fitting = refl;
      passing = refl;
    }
