-- What is shown of selling and buying: the answers in the order of the checks, and what a lot that is given says.
use Rattle.std.specs.Prelude.{Ok, ◌≡◌, Bool, true, false, List, ℕ, ◌+◌, ◌≤◌, ◌<◌, negsuc, length}
use Rattle.book.specs.declared.Entry.{Entry}
use Rattle.sums.specs.Sums.{fits}
use Rattle.proceeds.specs.Lots.{units_of, left_of, sum_over, sum_after}
use Rattle.proceeds.specs.Laws.{total}
use Rattle.sound.specs.Settled.{Settled}
use Rattle.quote.specs.declared.Quote.{Quote}
use Rattle.quote.specs.Quotes.{quote_number}
use Rattle.ask.specs.Ask.{bits_of}
use Rattle.backing.specs.Backing.{quoted_of, behind}
use Rattle.lots.specs.declared.Sold.{Sold}
use Rattle.lots.specs.Lots.{units_fine, lotted_of}
use Rattle.lots.specs.Rooms.{lot_size, sold_words, lot_answer, Dealt}

-- A lot of n units down the places es rests on the quote q: it is exact, dated by the quote, and every sum on the way fits.
pub record Rests (q : Quote) (n : ℕ) (es : List Entry) (s : Sold) : Type 0 where
  pub sum : s.sum ≡ sum_over n es
  pub left : s.left ≡ left_of n es
  pub number : s.number ≡ q.number
  pub heard : s.heard ≡ q.heard
  pub fit : (k : ℕ) → fits (sum_after n es k) ≡ true
  -- the units taken and those left add up to the quantity
  pub whole : total (units_of n es) + s.left ≡ n

-- The quote and the lot of a call that is answered 0.
pub record Brings (buying : Bool) (id n : ℕ) (now : List ℕ) (limit : ℕ) (xs : List ℕ) : Type 0 where
  pub q : Quote
  pub s : Sold
  pub quoted : quoted_of id now limit xs ≡ Ok q
  pub lotted : lotted_of buying id n now limit xs ≡ Ok s
  pub rests : Rests q n (behind buying id now limit xs) s

pub record Answers (buying : Bool) (id n : ℕ) (now : List ℕ) (limit : ℕ) (room xs : List ℕ) : Type 0 where
  -- 17 first, whatever the room.
  pub store : quote_number (quoted_of id now limit xs) ≡ 17 → lot_answer buying id n now limit room xs ≡ 17
  -- Then room for fewer than 5 numbers is 18.
  pub short : (quote_number (quoted_of id now limit xs) ≡ 17 → ⊥) → length room < lot_size → lot_answer buying id n now limit room xs ≡ 18
  -- Then the quote's refusals, unchanged, whatever the quantity and the places are.
  pub quote : lot_size ≤ length room → (quote_number (quoted_of id now limit xs) ≡ 0 → ⊥)
      → lot_answer buying id n now limit room xs ≡ quote_number (quoted_of id now limit xs)
  -- Then a quantity out of range is 18.
  pub units : lot_size ≤ length room → quote_number (quoted_of id now limit xs) ≡ 0 → units_fine n ≡ false → lot_answer buying id n now limit room xs ≡ 18
  -- Then it is 35 exactly when the sum after some of the places, from place 1 on, does not fit.
  pub over : lot_size ≤ length room → quote_number (quoted_of id now limit xs) ≡ 0 → units_fine n ≡ true
      → (k : ℕ) → fits (sum_after n (behind buying id now limit xs) k) ≡ false → lot_answer buying id n now limit room xs ≡ 35
  pub only : lot_answer buying id n now limit room xs ≡ 35
      → (lot_size ≤ length room) × ((quote_number (quoted_of id now limit xs) ≡ 0) × ((units_fine n ≡ true)
      × ((k : ℕ) × ((k ≤ length (behind buying id now limit xs)) × (fits (sum_after n (behind buying id now limit xs) k) ≡ false)))))
  -- Else it is 0, with the lot.
  pub done : lot_size ≤ length room → quote_number (quoted_of id now limit xs) ≡ 0 → units_fine n ≡ true
      → ((k : ℕ) → fits (sum_after n (behind buying id now limit xs) k) ≡ true) → lot_answer buying id n now limit room xs ≡ 0
  pub given : lot_answer buying id n now limit room xs ≡ 0 → Brings buying id n now limit xs

abbrev pub LotsAreOrdered : Type 0
LotsAreOrdered = (buying : Bool) (id n : ℕ) (now : List ℕ) (limit : ℕ) (room xs : List ℕ) → Answers buying id n now limit room xs

-- The bounds: a quantity of 1 to 999,999,999, and as many numbers as a lot takes; -1 as its 64 bits.
pub record Bounds : Type 0 where
  pub none : units_fine 0 ≡ false
  pub one : units_fine 1 ≡ true
  pub most : units_fine 999999999 ≡ true
  pub above : units_fine 1000000000 ≡ false
  pub words : (s : Sold) → length (sold_words s) ≡ lot_size
  pub minus : bits_of (negsuc 0) ≡ 18446744073709551615

-- Both calls are settled.
abbrev pub LotSettled : Type 0
LotSettled = (buying : Bool) (id n : ℕ) (now : List ℕ) (limit : ℕ) (room xs : List ℕ) → Settled (Dealt buying id n now limit room xs)
