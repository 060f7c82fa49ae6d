-- Marked cases M6 to M10 of document 01, and the books drawn in source document 000, section 9, as the contracts' definitions have them.
use Rattle.std.specs.Prelude.{◌≡◌, List, [], ◌∷◌, ℕ, pos, take, drop}
use Rattle.book.specs.declared.Entry.{Entry}
use Rattle.book.specs.declared.Side.{Side}
use Rattle.book.specs.declared.Update.{Update}
use Rattle.book.specs.Sides.{no_entry, refused, new_at, delete_at, delete_thru, delete_from, book_step}
use Rattle.book.specs.Canonical.{side_of, book_of}
use Rattle.book.specs.Rules.{Lists}

-- A side of any 20 places that holds 20.
abbrev pub twenty : List Entry → Side
twenty places = record { places = places; held = 20 }

-- For any entries a, b, c, and x that is new.
pub record SideCases (a b c x : Entry) : Type 0 where
  pub m6 : new_at (side_of (a ∷ b ∷ c ∷ [])) 2 x ≡ record { side = side_of (a ∷ x ∷ b ∷ c ∷ []); reason = 0 }
  pub m7 : delete_thru (side_of (a ∷ b ∷ c ∷ [])) 2 ≡ record { side = side_of (c ∷ []); reason = 0 }
  pub m8 : delete_from (side_of (a ∷ b ∷ c ∷ [])) 2 ≡ record { side = side_of (a ∷ []); reason = 0 }
  pub m9 : new_at (side_of (a ∷ b ∷ c ∷ [])) 5 x ≡ refused 1 (side_of (a ∷ b ∷ c ∷ []))
  pub m10 : (places : List Entry) → new_at (twenty places) 21 x ≡ refused 2 (twenty places)
  pub m10_past : (places : List Entry) → new_at (twenty places) 22 x ≡ refused 1 (twenty places)

-- Ten bids: a new one at 4 shifts the 4th to the 5th and so on to the 11th; with the 7th deleted the 8th moves into the 7th and so on.
pub record TenBids (a b c d e f g h i j x : Entry) : Type 0 where
  pub new_at_4 :
      new_at (side_of (a ∷ b ∷ c ∷ d ∷ e ∷ f ∷ g ∷ h ∷ i ∷ j ∷ [])) 4 x
      ≡ record { side = side_of (a ∷ b ∷ c ∷ x ∷ d ∷ e ∷ f ∷ g ∷ h ∷ i ∷ j ∷ []); reason = 0 }
  pub delete_7 :
      delete_at (side_of (a ∷ b ∷ c ∷ d ∷ e ∷ f ∷ g ∷ h ∷ i ∷ j ∷ [])) 7
      ≡ record { side = side_of (a ∷ b ∷ c ∷ d ∷ e ∷ f ∷ h ∷ i ∷ j ∷ []); reason = 0 }

-- So many at a price in hundredths: a book asks nothing of the unit.
abbrev pub of : ℕ → ℕ → Entry
of size price = record { price = pos price; size = size; by = 0; more = 0; moment = 0 }

-- The book of section 9.1, with other bids.
abbrev pub drawn : List Entry → Lists
drawn bids = record { bids = bids; offers = of 7000 1103 ∷ of 2000 1103 ∷ of 1000 1105 ∷ [] }

-- Its four bids.
abbrev pub four_bids : List Entry
four_bids = of 5000 1058 ∷ of 4000 1058 ∷ of 3000 1057 ∷ of 4000 1054 ∷ []

-- A bid entry that deletes.
abbrev pub deletes : ℕ → ℕ → Update
deletes action place = record { who = 0; what = 0; action = action; place = place; entry = no_entry }

-- A sweep of the first three bids leaves the book of section 9.4, and all bids cancelled that of section 9.5. In document 01 the first is
-- delete thru 3 and the second delete from 1; 000 gives each of the two the other's number, and by 01 those leave other books.
pub record Drawn : Type 0 where
  pub swept : book_step (book_of (drawn four_bids)) (deletes 3 3) ≡ record { book = book_of (drawn (of 4000 1054 ∷ [])); reason = 0 }
  pub cancelled : book_step (book_of (drawn four_bids)) (deletes 4 1) ≡ record { book = book_of (drawn []); reason = 0 }
  pub from_3 : book_step (book_of (drawn four_bids)) (deletes 4 3) ≡ record { book = book_of (drawn (take 2 four_bids)); reason = 0 }
  pub thru_1 : book_step (book_of (drawn four_bids)) (deletes 3 1) ≡ record { book = book_of (drawn (drop 1 four_bids)); reason = 0 }
