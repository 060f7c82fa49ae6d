-- A lot that is given can be written. Assumes nothing.
use mathlib.Core.Bool.{Bool, true, false, cond}
use mathlib.Core.List.{List}
use Prim.Native.Nat.{ℕ, ◌<◌}
use Rattle.std.specs.Prelude.{Option, None, Some, Ok, Err}
use Rattle.book.specs.declared.Entry.{Entry}
use Rattle.quote.specs.Quotes.{Quoted}
use Rattle.moment.specs.Moments.{moments}
use Rattle.backing.specs.Backing.{quoted_of, behind}
use Rattle.backing.proofs.Laws.{quoted_is_fine}
use Rattle.ask.specs.Fine.{FineQuoted}
use Rattle.proceeds.specs.declared.Sale.{Sale}
use Rattle.proceeds.specs.Lots.{lot_of}
use Rattle.quote.specs.declared.Quote.{Quote}
use Rattle.lots.specs.declared.NoLot.{NoLot}
use Rattle.lots.specs.Lots.{units_fine, dated, on_quote, lotted_of}
use Rattle.lots.specs.Rooms.{FineLot}

dated_fine : (q : Quote) (l : Option Sale) → q.heard < moments → FineLot (dated q l)
dated_fine q (Some s) f = f
dated_fine q None f = tt

on_fine : (r : Quoted) (n : ℕ) (es : List Entry) → FineQuoted r → FineLot (on_quote r n es)
on_fine (Ok q) n es f = go (units_fine n)
  where
    go : (t : Bool) → FineLot (cond t (dated q (lot_of n es)) (Err NoLot.BadQuantity))
    go true = dated_fine q (lot_of n es) f.heard
    go false = tt
on_fine (Err why) n es f = tt

pub lot_fine : (buying : Bool) (id n : ℕ) (now : List ℕ) (limit : ℕ) (xs : List ℕ) → FineLot (lotted_of buying id n now limit xs)
unfolding lotted_of
lot_fine buying id n now limit xs = on_fine (quoted_of id now limit xs) n (behind buying id now limit xs) (quoted_is_fine id now limit xs)
