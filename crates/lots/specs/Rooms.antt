-- A lot as numbers in lent room.
use Rattle.std.specs.Prelude.{Ok, Err, ◌≡◌, Bool, cond, List, [], ◌∷◌, ◌++◌, ℕ, ◌<◌, leb, eqb, length}
use Rattle.moment.specs.Moments.{moments}
use Rattle.ask.specs.Ask.{room_after, bits_of, moment_words}
use Rattle.lots.specs.declared.Sold.{Sold}
use Rattle.lots.specs.Lots.{Lotted, lotted_of, lot_number}

-- A lot takes 5 numbers of the room that is lent for it.
abbrev pub lot_size : ℕ
lot_size = 5

-- H, the date and the time of day at which it was heard, the sum, what is left.
abbrev pub sold_words : Sold → List ℕ
sold_words s = s.number ∷ moment_words s.heard ++ (bits_of s.sum ∷ s.left ∷ [])

-- A refusal has none.
abbrev pub lot_words : Lotted → List ℕ
lot_words (Ok s) = sold_words s
lot_words (Err why) = []

-- 17 comes first; then room for fewer is 18, as are the quote's arguments; then the rest.
abbrev pub in_room : ℕ → ℕ → ℕ
in_room room answer = cond (eqb answer 17) answer (cond (leb lot_size room) answer 18)

unfoldable pub lot_answer : Bool → ℕ → ℕ → List ℕ → ℕ → List ℕ → List ℕ → ℕ
lot_answer buying id n now limit room xs = in_room (length room) (lot_number (lotted_of buying id n now limit xs))

-- The room that a lot of the store xs leaves.
unfoldable pub lot_out : Bool → ℕ → ℕ → List ℕ → ℕ → List ℕ → List ℕ → List ℕ
lot_out buying id n now limit room xs = room_after (lot_answer buying id n now limit room xs) (lot_words (lotted_of buying id n now limit xs)) room

-- What a call answers, and what ys it leaves of the room.
pub record Dealt (buying : Bool) (id n : ℕ) (now : List ℕ) (limit : ℕ) (room xs : List ℕ) (r : ℕ) (ys : List ℕ) : Type 0 where
  pub answer : r ≡ lot_answer buying id n now limit room xs
  pub out : ys ≡ lot_out buying id n now limit room xs

-- What can be written as numbers: the moment is one.
abbrev pub FineLot : Lotted → Type 0
FineLot (Ok s) = s.heard < moments
FineLot (Err why) = Unit {0}
