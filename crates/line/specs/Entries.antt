-- One entry of a snapshot as fields (document 01, "Quote and writing").
use Rattle.std.specs.Prelude.{ℕ, ◌<◌, ◌^◌, List, [], ◌∷◌, Bool, true, false, eqb, nat_abs, length, get_or}
use Rattle.text.specs.Text.{decimal}
use Rattle.price.specs.Price.{top}
use Rattle.price.specs.PriceText.{price_text}
use Rattle.moment.specs.Moments.{moments, date_text, time_text, day_part, time_part}
use Rattle.orderid.specs.OrderIds.{id_text}
use Rattle.chain.specs.Fields.{Field, field}
use Rattle.book.specs.declared.Entry.{Entry}
use Rattle.book.specs.Sides.{no_entry}

-- 37 on an order-depth channel, 346 on a price-depth one.
abbrev pub by_field : Bool → Entry → Field
by_field true e = field 37 (id_text e.by e.more)
by_field false e = field 346 (decimal e.by)

-- Entry: 269, 270, 271, 37 or 346, 272, 273, 290. The sort is 269's byte, and depth 0 is an order-depth channel.
abbrev pub entry_fields : ℕ → ℕ → ℕ → Entry → List Field
entry_fields depth sort place e =
    field 269 (sort ∷ [])
    ∷ field 270 (price_text e.price)
    ∷ field 271 (decimal e.size)
    ∷ by_field (eqb depth 0) e
    ∷ field 272 (date_text (day_part e.moment))
    ∷ field 273 (time_text (time_part e.moment))
    ∷ field 290 (decimal place)
    ∷ []

-- The numbers of an entry that can be written: those of every place in range are.
pub record Writable (e : Entry) : Type 0 where
  pub price : nat_abs e.price < top
  pub size : e.size < 10 ^ 12
  pub by : e.by < 10 ^ 18
  pub moment : e.moment < moments

-- Each of these entries can be written.
abbrev pub AllWritable : List Entry → Type 0
AllWritable es = (k : ℕ) → k < length es → Writable (get_or es k no_entry)
