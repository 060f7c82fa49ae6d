-- An entry is read by the values of its tags alone. Assumes nothing.
use mathlib.Core.Path.{◌≡◌}
use Prim.Native.Nat.{ℕ, ◌<◌}
use native.Mathlib.Omega.{arith}
use Rattle.tags.specs.Slots.{slot_of}
use Rattle.values.specs.Values.{Values, instrument_of, by_of, moment_in, values_of}
use Rattle.entries.specs.Entries.{book_entry, empty_all, empty_book, entry_in_x, shown_entry, entry_in_w}

-- values that agree on the named tags
module _ (v w : Values) (h : (t : ℕ) → slot_of t < 21 → v t ≡ w t) where
  pub instrument_same : instrument_of v ≡ instrument_of w
  unfolding instrument_of slot_of
  instrument_same = rw (h 48 (omega arith), h 22 (omega arith), h 207 (omega arith))

  values_same : (depth : ℕ) → values_of depth v ≡ values_of depth w
  unfolding values_of by_of moment_in slot_of
  values_same depth =
      rw (h 270 (omega arith), h 271 (omega arith), h 37 (omega arith), h 346 (omega arith), h 272 (omega arith), h 273 (omega arith))

  book_same : (depth side action : ℕ) → book_entry depth side action v ≡ book_entry depth side action w
  unfolding book_entry slot_of
  book_same depth side action = rw (h 290 (omega arith), instrument_same, values_same depth)

  empty_same : empty_book v ≡ empty_book w
  unfolding empty_book empty_all slot_of
  empty_same = rw (h 48 (omega arith), h 22 (omega arith), h 207 (omega arith), instrument_same)

  shown_same : (depth id side : ℕ) → shown_entry depth id side v ≡ shown_entry depth id side w
  unfolding shown_entry slot_of
  shown_same depth id side = rw (h 290 (omega arith), values_same depth)

  pub x_same : (depth : ℕ) → entry_in_x depth v ≡ entry_in_x depth w
  unfolding entry_in_x slot_of
  x_same depth = simp (h 279 (omega arith), h 269 (omega arith), empty_same, book_same depth)

  pub w_same : (depth id : ℕ) → entry_in_w depth id v ≡ entry_in_w depth id w
  unfolding entry_in_w slot_of
  w_same depth id = simp (h 269 (omega arith), shown_same depth id)
