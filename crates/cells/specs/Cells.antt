-- Entries, sides and queued entries as runs of numbers, and read from a store at a place. An unused place is zeros.
use Rattle.std.specs.Prelude.{List, [], ◌∷◌, ◌++◌, ℕ, zero, suc, ◌+◌, ◌*◌, get_or}
use Rattle.holding.specs.Prices.{held_of, of_held}
use Rattle.book.specs.declared.Entry.{Entry}
use Rattle.book.specs.declared.Side.{Side}
use Rattle.book.specs.declared.Update.{Update}
use Rattle.book.specs.Rules.{most_places}

-- f 0, .., f (n - 1); shut, so that no goal writes it out.
unfoldable pub tab : {A : Type 0} → (ℕ → A) → ℕ → List A
tab f zero = []
tab f (suc n) = tab f n ++ (f n ∷ [])

-- n zeros; shut too.
unfoldable pub zeros : ℕ → List ℕ
zeros zero = []
zeros (suc n) = zeros n ++ (0 ∷ [])

-- An entry is 5 numbers: the number that holds its price, size, by, more, moment.
abbrev pub words : Entry → List ℕ
words e = held_of e.price ∷ e.size ∷ e.by ∷ e.more ∷ e.moment ∷ []

abbrev pub entry_at : List ℕ → ℕ → Entry
entry_at xs at =
    record { price = of_held (get_or xs at 0); size = get_or xs (at + 1) 0; by = get_or xs (at + 2) 0; more = get_or xs (at + 3) 0; moment = get_or xs (at + 4) 0 }

-- A side is 101: how many are held, and 20 entries.
abbrev pub side_size : ℕ
side_size = 101

unfoldable pub flat : List Entry → List ℕ
flat [] = []
flat (e ∷ es) = words e ++ flat es

abbrev pub side_words : Side → List ℕ
side_words s = s.held ∷ flat s.places

abbrev pub side_at : List ℕ → ℕ → Side
side_at xs at = record { places = tab (λ (i : ℕ). entry_at xs (at + 1 + i * 5)) most_places; held = get_or xs at 0 }

-- A queued entry is 10: the number of its message, who, what, action, place, and its entry.
abbrev pub update_words : Update → List ℕ
update_words u = u.who ∷ u.what ∷ u.action ∷ u.place ∷ words u.entry

abbrev pub queued_words : ℕ → Update → List ℕ
queued_words n u = n ∷ update_words u

abbrev pub update_at : List ℕ → ℕ → Update
update_at xs at =
    record { who = get_or xs at 0; what = get_or xs (at + 1) 0; action = get_or xs (at + 2) 0; place = get_or xs (at + 3) 0; entry = entry_at xs (at + 4) }
