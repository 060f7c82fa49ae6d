-- The cases of specs/Cases.antt, computed.
use mathlib.Core.Path.{refl}
use Rattle.book.specs.declared.Entry.{Entry}
use Rattle.book.specs.Sides.{pad, new_at, delete_at, delete_thru, delete_from, side_step, book_step}
use Rattle.book.specs.Cases.{SideCases, TenBids, Drawn}

pub side_cases : (a b c x : Entry) → SideCases a b c x
unfolding pad new_at delete_thru delete_from
side_cases a b c x = record { m6 = refl; m7 = refl; m8 = refl; m9 = refl; m10 = λ l. refl; m10_past = λ l. refl }

pub ten_bids : (a b c d e f g h i j x : Entry) → TenBids a b c d e f g h i j x
unfolding pad new_at delete_at
ten_bids a b c d e f g h i j x = record { new_at_4 = refl; delete_7 = refl }

pub drawn_books : Drawn
unfolding pad delete_thru delete_from side_step book_step
drawn_books = record { swept = refl; cancelled = refl; from_3 = refl; thru_1 = refl }
