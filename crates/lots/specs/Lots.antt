-- A lot of an instrument, dated by the quote that it rests on (document 02, K11).
use Rattle.std.specs.Prelude.{Option, None, Some, Result, Ok, Err, Bool, cond, ◌&&◌, List, ℕ, leb}
use Rattle.book.specs.declared.Entry.{Entry}
use Rattle.proceeds.specs.declared.Sale.{Sale}
use Rattle.proceeds.specs.Lots.{lot_of}
use Rattle.quote.specs.declared.Quote.{Quote}
use Rattle.quote.specs.Quotes.{Quoted}
use Rattle.backing.specs.Backing.{quoted_of, behind}
use Rattle.lots.specs.declared.Sold.{Sold}
use Rattle.lots.specs.declared.NoLot.{NoLot}
use Rattle.lots.specs.Numbers.{no_lot_number}

-- A quantity of 1 to 999,999,999.
abbrev pub most_units : ℕ
most_units = 999999999

abbrev pub units_fine : ℕ → Bool
units_fine n = leb 1 n && leb n most_units

-- What a lot of an instrument brings, or why it is refused.
abbrev pub Lotted : Type 0
Lotted = Result Sold NoLot

-- The sum and what is left, with the number and the moment of the quote.
abbrev pub dated : Quote → Option Sale → Lotted
dated q (Some s) = Ok (record { sum = s.sum; left = s.left; number = q.number; heard = q.heard })
dated q None = Err NoLot.Over

-- Quote refusals pass through unchanged and first, then a quantity out of range is refused.
abbrev pub on_quote : Quoted → ℕ → List Entry → Lotted
on_quote (Ok q) n es = cond (units_fine n) (dated q (lot_of n es)) (Err NoLot.BadQuantity)
on_quote (Err why) n es = Err (NoLot.Quote why)

-- A lot of n units of the instrument with this SecurityID, on the store xs.
unfoldable pub lotted_of : Bool → ℕ → ℕ → List ℕ → ℕ → List ℕ → Lotted
lotted_of buying id n now limit xs = on_quote (quoted_of id now limit xs) n (behind buying id now limit xs)

-- The answer number of each case.
abbrev pub lot_number : Lotted → ℕ
lot_number (Ok s) = 0
lot_number (Err why) = no_lot_number why
