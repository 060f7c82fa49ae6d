-- An entry that is written is the entry that is read. Assumes nothing.
use Rattle.std.specs.Prelude.{Some}
use mathlib.Core.Path.{◌≡◌, refl, sym, ap}
use mathlib.Core.Bool.{Bool, true, false}
use mathlib.Core.List.{List, [], ◌∷◌, ◌++◌}
use Prim.Native.Nat.{ℕ, ◌+◌, ◌*◌, ◌/◌, ◌%◌, ◌^◌, ◌≤◌, ◌<◌}
use native.Mathlib.Omega.{arith}
use lib.Dec.{leb, eqb}
use Rattle.digits.specs.Digits.{ranged_of}
use Rattle.digits.proofs.Ranges.{ranged_back}
use Rattle.text.specs.Text.{decimal}
use Rattle.text.proofs.Written.{whole_back}
use Rattle.price.proofs.Back.{price_back}
use Rattle.moment.specs.Moments.{day_part, time_part}
use Rattle.moment.proofs.Back.{date_back, time_back}
use Rattle.orderid.proofs.Back.{read_back}
use Rattle.chain.specs.Fields.{Field}
use Rattle.book.specs.declared.Entry.{Entry}
use Rattle.book.specs.declared.Update.{Update}
use Rattle.tags.specs.Tags.{named_tags, entry_w, has, stands, tidy, up_to, parts, lookup}
use Rattle.values.specs.Values.{sort_of, by_of, moment_in, values_of}
use Rattle.entries.specs.Entries.{shown_entry, entry_in_w, says}
use Rattle.line.specs.Entries.{entry_fields}
use Rattle.roundtrip.proofs.Fine.{Fine, By}

-- a number in its range, in its shortest form
pub number_back : (w lo hi n : ℕ) → 1 ≤ w → w ≤ 18 → n < 10 ^ w → lo ≤ n → n ≤ hi → ranged_of w lo hi (decimal n) ≡ Some n
number_back w lo hi n p q r l h = ranged_back w lo hi (decimal n) (whole_back w n p q r) l h

-- a moment from its day and its time of day
both_parts : (m : ℕ) → m / 87840000 * 87840000 + m % 87840000 ≡ m
both_parts m = omega arith

-- what an entry says: a new one at its place
abbrev pub new_at : ℕ → ℕ → ℕ → Entry → Update
new_at who side place e = record { who = who; what = side; action = 0; place = place; entry = e }

no_more : (who side place : ℕ) (e : Entry) → e.more ≡ 0
    → says (new_at who side place (record { price = e.price; size = e.size; by = e.by; more = 0; moment = e.moment })) ≡ says (new_at who side place e)
no_more who side place e q =
    ap (λ (n : ℕ). says (new_at who side place (record { price = e.price; size = e.size; by = e.by; more = n; moment = e.moment }))) (sym q)

module _ (depth who place : ℕ) (e : Entry) (low : 1 ≤ place) (high : place ≤ 65535) (f : Fine depth e) where
  -- by 269's byte, 48 or 49
  entry_by : (side : ℕ) → leb side 1 ≡ true → (t : Bool) → eqb depth 0 ≡ t → By t e.by e.more
      → shown_entry depth who side (lookup (entry_fields depth (48 + side) place e)) ≡ says (new_at who side place e)
  unfolding shown_entry values_of by_of moment_in lookup
  entry_by side s true q h =
      rw (
        q,
        number_back 5 1 65535 place (omega arith) (omega arith) (omega arith) low high,
        price_back e.price f.price,
        number_back 12 1 999999999999 e.size (omega arith) (omega arith) (omega (arith, f.size_high)) f.size_low f.size_high,
        read_back e.by e.more h,
        date_back (day_part e.moment) (omega (arith, f.moment)),
        time_back (time_part e.moment) (omega arith),
        both_parts e.moment,
      )
  entry_by side s false q h =
      rw (
        q,
        number_back 5 1 65535 place (omega arith) (omega arith) (omega arith) low high,
        price_back e.price f.price,
        number_back 12 1 999999999999 e.size (omega arith) (omega arith) (omega (arith, f.size_high)) f.size_low f.size_high,
        number_back 5 1 65535 e.by (omega arith) (omega arith) (omega (arith, h.high)) h.low h.high,
        date_back (day_part e.moment) (omega (arith, f.moment)),
        time_back (time_part e.moment) (omega arith),
        both_parts e.moment,
      ) (no_more who side place e h.none)

  pub bid_back : entry_in_w depth who (lookup (entry_fields depth 48 place e)) ≡ says (new_at who 0 place e)
  unfolding entry_in_w shown_entry sort_of lookup
  bid_back = entry_by 0 refl (eqb depth 0) refl f.by

  pub offer_back : entry_in_w depth who (lookup (entry_fields depth 49 place e)) ≡ says (new_at who 1 place e)
  unfolding entry_in_w shown_entry sort_of lookup
  offer_back = entry_by 1 refl (eqb depth 0) refl f.by

-- ---- where its tags stand
module _ (depth sort place : ℕ) (e : Entry) where
  entry_tidy : (t : Bool) → eqb depth 0 ≡ t → tidy named_tags entry_w (entry_fields depth sort place e) ≡ true
  unfolding tidy has stands
  entry_tidy true q = rw q
  entry_tidy false q = rw q

  pub is_tidy : tidy named_tags entry_w (entry_fields depth sort place e) ≡ true
  is_tidy = entry_tidy (eqb depth 0) refl

  -- it is one part of the group, where another entry or nothing follows
  part_by : (r : List Field) → up_to 269 r ≡ [] → (t : Bool) → eqb depth 0 ≡ t
      → parts 269 (entry_fields depth sort place e ++ r) ≡ entry_fields depth sort place e ∷ parts 269 r
  unfolding parts up_to
  part_by r h true q = rw (q, h)
  part_by r h false q = rw (q, h)

  pub one_part : (r : List Field) → up_to 269 r ≡ [] → parts 269 (entry_fields depth sort place e ++ r) ≡ entry_fields depth sort place e ∷ parts 269 r
  one_part r h = part_by r h (eqb depth 0) refl

  pub begins_part : (r : List Field) → up_to 269 (entry_fields depth sort place e ++ r) ≡ []
  unfolding up_to
  begins_part r = refl
