-- What an entry says (document 01, "Fields", third paragraph). Values that an entry doesn't need are not read.
use Rattle.std.specs.Prelude.{Option, Some, None}
use Rattle.std.specs.Prelude.{ℕ, Bool, cond, ◌&&◌, leb, eqb, length}
use Rattle.book.specs.declared.Update.{Update}
use Rattle.book.specs.Rules.{empty_of_all}
use Rattle.book.specs.Sides.{no_entry}
use Rattle.values.specs.Values.{◌>>=◌, need, Values, instrument_of, action_at, sort_at, place_at, values_of}

-- An entry says one update, or it is passed over.
abbrev pub says : Update → Option (Option Update)
says u = Some (Some u)

abbrev pub passed_over : Option (Option Update)
passed_over = Some None

-- Bids and offers in X need 290, 48 and 22; new and change also the values of a place.
unfoldable pub book_entry : ℕ → ℕ → ℕ → Values → Option (Option Update)
book_entry depth side action v =
    place_at v >>= λ place.
    instrument_of v >>= λ id.
    cond (leb action 1) (values_of depth v) (Some no_entry) >>= λ entry.
    says (record { who = id; what = side; action = action; place = place; entry = entry })

-- J: of one instrument, or for all.
abbrev pub empties : ℕ → ℕ → Option (Option Update)
empties who what = says (record { who = who; what = what; action = 0; place = 0; entry = no_entry })

-- A tag is absent where its value has no bytes.
abbrev pub absent : ℕ → Values → Bool
absent t v = eqb (length (v t)) 0

-- J without 48 is for all instruments (document 02, K4): 22 and 207 must then be absent.
unfoldable pub empty_all : Values → Option (Option Update)
empty_all v = need (absent 22 v && absent 207 v) (empties 0 empty_of_all)

-- J with 48 needs 22.
unfoldable pub empty_book : Values → Option (Option Update)
empty_book v = cond (absent 48 v) (empty_all v) (instrument_of v >>= λ id. empties id 2)

-- An entry of an X: its 279 is checked whatever its 269.
unfoldable pub entry_in_x : ℕ → Values → Option (Option Update)
entry_in_x depth v =
    action_at v >>= λ action.
    sort_at v >>= λ sort.
    cond (leb sort 1) (book_entry depth sort action v) (cond (eqb sort 2) (empty_book v) passed_over)

-- An entry of a W for the instrument id: bids and offers need 290 and the values of a place; J is passed over too.
unfoldable pub shown_entry : ℕ → ℕ → ℕ → Values → Option (Option Update)
shown_entry depth id side v =
    place_at v >>= λ place.
    values_of depth v >>= λ entry.
    says (record { who = id; what = side; action = 0; place = place; entry = entry })

unfoldable pub entry_in_w : ℕ → ℕ → Values → Option (Option Update)
entry_in_w depth id v = sort_at v >>= λ sort. cond (leb sort 1) (shown_entry depth id sort v) passed_over
