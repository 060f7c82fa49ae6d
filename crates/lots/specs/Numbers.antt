-- The answer number of each refusal of a lot (document 02, K11).
use Rattle.std.specs.Prelude.{ℕ}
use Rattle.quote.specs.Numbers.{refusal_number}
use Rattle.lots.specs.declared.NoLot.{NoLot}

-- The quote's, 18 for the quantity, 35 where a sum does not fit.
abbrev pub no_lot_number : NoLot → ℕ
no_lot_number (NoLot.Quote why) = refusal_number why
no_lot_number NoLot.BadQuantity = 18
no_lot_number NoLot.Over = 35
