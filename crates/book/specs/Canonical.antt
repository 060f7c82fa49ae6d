-- A side whose unused places are zero is the same thing as the list of the entries that it holds: the two ways over,
-- for sides and books, and for what an operation leaves.
use Rattle.std.specs.Prelude.{◌≡◌, List, [], ◌∷◌, ℕ, ◌≤◌, length, get_or, take}
use Rattle.book.specs.declared.Entry.{Entry}
use Rattle.book.specs.declared.Side.{Side}
use Rattle.book.specs.declared.Book.{Book}
use Rattle.book.specs.Rules.{Outcome, leaves, breach, most_places, Lists}
use Rattle.book.specs.Sides.{Done, Turn, no_entry, pad}

-- A side has 20 places, holds at most 20, and its unused places are zero.
pub record Kept (s : Side) : Type 0 where
  pub full : length s.places ≡ most_places
  pub room : s.held ≤ most_places
  pub unused : (k : ℕ) → s.held ≤ k → get_or s.places k no_entry ≡ no_entry

-- Both sides of a book are kept.
pub record KeptBook (b : Book) : Type 0 where
  pub bids : Kept b.bids
  pub offers : Kept b.offers

-- The entries that a side holds, place 1 first.
abbrev pub held_in : Side → List Entry
held_in s = take s.held s.places

-- The side that holds these entries.
abbrev pub side_of : List Entry → Side
side_of l = record { places = pad most_places l; held = length l }

-- The entries that a book holds.
abbrev pub lists_in : Book → Lists
lists_in b = record { bids = held_in b.bids; offers = held_in b.offers }

-- The book that holds these entries.
abbrev pub book_of : Lists → Book
book_of b = record { bids = side_of b.bids; offers = side_of b.offers }

-- What an outcome leaves of a side: the side that holds the list, or the side as it was with the reason.
abbrev pub done_of : Side → Outcome (List Entry) → Done
done_of s (leaves l) = record { side = side_of l; reason = 0 }
done_of s (breach reason) = record { side = s; reason = reason }

-- What an outcome leaves of a book.
abbrev pub turn_of : Book → Outcome Lists → Turn
turn_of b (leaves l) = record { book = book_of l; reason = 0 }
turn_of b (breach reason) = record { book = b; reason = reason }

-- P of every entry of a list.
abbrev pub All : (Entry → Type 0) → List Entry → Type 0
All P [] = Unit {0}
All P (x ∷ l) = P x × All P l
