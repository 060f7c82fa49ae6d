-- What the Rust answers say in the rules' words: an `Ok` is reason 0, and an `Err` its breach's number, with the side or the book as it was.
use Rattle.std.specs.Prelude.{ℕ, Result, Ok, Err}
use Rattle.book.specs.declared.Side.{Side}
use Rattle.book.specs.declared.Book.{Book}
use Rattle.book.specs.declared.reasons.Breach.{Breach}
use Rattle.book.specs.declared.reasons.Breach.TheVariants.{Place, Room}
use Rattle.book.specs.Rules.{bad_place, no_room}
use Rattle.book.specs.Sides.{Done, Turn}

-- The reason of a breach.
abbrev pub reason_number : Breach → ℕ
reason_number Place = bad_place
reason_number Room = no_room

-- The reason that a test of an action gives, 0 where it is no breach.
abbrev pub breach_number : Result Unit Breach → ℕ
breach_number (Ok _) = 0
breach_number (Err why) = reason_number why

-- What an operation on a side leaves.
abbrev pub done_from : Side → Result Side Breach → Done
done_from s (Ok t) = record { side = t; reason = 0 }
done_from s (Err why) = record { side = s; reason = reason_number why }

-- What an entry on a book leaves.
abbrev pub turn_from : Book → Result Book Breach → Turn
turn_from b (Ok c) = record { book = c; reason = 0 }
turn_from b (Err why) = record { book = b; reason = reason_number why }

-- The same of a side, and of a book, that is worked where it stands.
abbrev pub done_at : Side → Result Unit Breach → Done
done_at s r = record { side = s; reason = breach_number r }

abbrev pub turn_at : Book → Result Unit Breach → Turn
turn_at b r = record { book = b; reason = breach_number r }
