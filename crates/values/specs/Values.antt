-- The values of tags (document 01, "Fields", first paragraph): a value that is missing or out of its range is none.
use Rattle.std.specs.Prelude.{Option, Some, None}
use Rattle.orderid.specs.OrderIds.{order_id}
use Rattle.std.specs.Prelude.{ℕ, ℤ, List, [], ◌∷◌, Bool, true, false, cond, ◌&&◌, eqb}
use Rattle.digits.specs.Digits.{ranged_of}
use Rattle.price.specs.Price.{price_of}
use Rattle.orderid.specs.OrderIds.{id_of}
use Rattle.orderid.specs.declared.OrderId.{OrderId}
use Rattle.moment.specs.Moments.{date_of, time_of, moment_of, span, join}
use Rattle.frame.specs.Frames.{equal}
use Rattle.book.specs.Ids.{most_id}
use Rattle.book.specs.declared.Entry.{Entry}

module _ {A : Type 0} where
  infixr 10 ◌>>=◌
  -- One value, and what it is for; without it there is nothing.
  abbrev pub ◌>>=◌ : {B : Type 0} → Option B → (B → Option A) → Option A
  None >>= k = None
  Some v >>= k = k v

  -- A rule that must hold.
  abbrev pub need : Bool → Option A → Option A
  need true r = r
  need false r = None

-- The values of a place by their tags; no bytes where a tag does not stand in it.
abbrev pub Values : Type 0
Values = ℕ → List ℕ

-- A whole number of at most w digits from lo to hi, the value of a tag.
abbrev pub whole_at : ℕ → ℕ → ℕ → ℕ → Values → Option ℕ
whole_at t w lo hi v = ranged_of w lo hi (v t)

-- 34: 1 to 4,294,967,295. 369: 0 to 4,294,967,295. 911: 1 to 4,294,967,295.
abbrev pub seq_at : Values → Option ℕ
seq_at = whole_at 34 10 1 4294967295

abbrev pub last_at : Values → Option ℕ
last_at = whole_at 369 10 0 4294967295

abbrev pub loops_at : Values → Option ℕ
loops_at = whole_at 911 10 1 4294967295

-- 268: 0 to 64. 279: 0 to 4. 290: 1 to 65,535. 271: 1 to 999,999,999,999.
abbrev pub count_at : Values → Option ℕ
count_at = whole_at 268 2 0 64

abbrev pub action_at : Values → Option ℕ
action_at = whole_at 279 1 0 4

abbrev pub place_at : Values → Option ℕ
place_at = whole_at 290 5 1 65535

abbrev pub size_at : Values → Option ℕ
size_at = whole_at 271 12 1 999999999999

-- 52: a date and a time of day.
abbrev pub heard_at : Values → Option ℕ
heard_at v = moment_of (v 52)

-- 48: 1 to 18 digits, at least 1. 22: 8. 207: BVMF, or absent.
unfoldable pub bvmf : List ℕ → Bool
bvmf [] = true
bvmf (b ∷ bs) = equal (b ∷ bs) (66 ∷ 86 ∷ 77 ∷ 70 ∷ [])

abbrev pub identified : Option ℕ → Bool → Option ℕ
identified None rest = None
identified (Some id) rest = cond rest (Some id) None

unfoldable pub instrument_of : Values → Option ℕ
instrument_of v = identified (ranged_of 18 1 most_id (v 48)) (equal (v 22) (56 ∷ []) && bvmf (v 207))

-- 269: 0 bid, 1 offer, J empty book, numbered 0, 1, 2; any other value is 3.
unfoldable pub sort_of : List ℕ → Option ℕ
sort_of [] = None
sort_of (b ∷ []) = Some (cond (eqb b 48) 0 (cond (eqb b 49) 1 (cond (eqb b 74) 2 3)))
sort_of (b ∷ c ∷ bs) = Some 3

abbrev pub sort_at : Values → Option ℕ
sort_at v = sort_of (v 269)

-- 270: a signed whole number of hundred-millionths (document 02, K6).
abbrev pub price_at : Values → Option ℤ
price_at v = price_of (v 270)

-- On an order-depth channel (0) 37: 1 to 16 bytes, each 33 to 126, held as two numbers. On a price-depth one 346: 1 to
-- 65,535, held as it and 0.
abbrev pub orders : Option ℕ → Option OrderId
orders None = None
orders (Some n) = Some (order_id n 0)

unfoldable pub by_of : ℕ → Values → Option OrderId
by_of depth v = cond (eqb depth 0) (id_of (v 37)) (orders (ranged_of 5 1 65535 (v 346)))

-- 272: a date. 273: a time of day. A date and a time of day are held as one number.
unfoldable pub moment_in : Values → Option ℕ
moment_in v = join span (date_of (v 272)) (time_of (v 273))

-- The values of a place: 270, 271, 37 or 346, 272, 273.
unfoldable pub values_of : ℕ → Values → Option Entry
values_of depth v =
    price_at v >>= λ price.
    size_at v >>= λ size.
    by_of depth v >>= λ by.
    moment_in v >>= λ moment.
    Some (record { price = price; size = size; by = by.by; more = by.more; moment = moment })
