-- The ranges of document 01, "Fields": when an entry, a queued entry and a message lie in them.
use Rattle.std.specs.Prelude.{Bool, true, cond, ◌&&◌, ◌||◌, List, [], ◌∷◌, ℕ, ltb, leb, eqb, ℤ, nat_abs, length}
use Rattle.book.specs.declared.Entry.{Entry}
use Rattle.book.specs.declared.Update.{Update}
use Rattle.book.specs.Rules.{is_for_all, for_all}
use Rattle.holding.specs.Prices.{top}
use Rattle.holding.specs.Moments.{moments}
use Rattle.holding.specs.OrderIds.{id_sound}
use Rattle.message.specs.Message.{Message, Head, numbered, snapshot, refused}
pub use Rattle.book.specs.Ids.{most_id, id_fine}
pub use Rattle.message.specs.Message.{most_number}

-- f of each of a list.
abbrev pub all : {A : Type 0} → (A → Bool) → List A → Bool
all f [] = true
all f (x ∷ xs) = f x && all f xs

-- n from lo to hi.
abbrev pub within : ℕ → ℕ → ℕ → Bool
within lo hi n = leb lo n && leb n hi

-- 52, and 272 with 273: a moment of the years 0000 to 9999.
abbrev pub moment_fine : ℕ → Bool
moment_fine m = ltb m moments

-- 270: a price that it can say.
abbrev pub price_fine : ℤ → Bool
price_fine p = ltb (nat_abs p) top

-- 271: 1 to 999,999,999,999.
abbrev pub most_size : ℕ
most_size = 999999999999

abbrev pub size_fine : ℕ → Bool
size_fine n = within 1 most_size n

-- 346: 1 to 65,535, with nothing more.
abbrev pub most_orders : ℕ
most_orders = 65535

abbrev pub orders_fine : ℕ → ℕ → Bool
orders_fine by more = within 1 most_orders by && eqb more 0

-- 37 on an order-depth channel (0), 346 on a price-depth one.
abbrev pub by_fine : ℕ → ℕ → ℕ → Bool
by_fine depth by more = cond (eqb depth 0) (id_sound by more) (orders_fine by more)

-- A place's entry: 270, 271, its moment, and 37 or 346.
unfoldable pub entry_fine : ℕ → Entry → Bool
entry_fine depth e =
    price_fine e.price && (size_fine e.size && (moment_fine e.moment && by_fine depth e.by e.more))

-- Values that an entry doesn't need are zero.
unfoldable pub none_fine : Entry → Bool
none_fine e = eqb (nat_abs e.price) 0 && (eqb e.size 0 && (eqb e.by 0 && (eqb e.more 0 && eqb e.moment 0)))

-- J of one instrument (2), or for all, and then it names none.
abbrev pub empty_fine : ℕ → ℕ → Bool
empty_fine who what = eqb what 2 || (is_for_all what && eqb who 0)

-- What an entry of an X says: a bid (0) or an offer (1) with its action and 290, where new and change need their values; or J.
unfoldable pub update_fine : ℕ → Update → Bool
update_fine depth u =
    cond (leb u.what 1)
    (leb u.action 4 && (within 1 65535 u.place && cond (leb u.action 1) (entry_fine depth u.entry) (none_fine u.entry)))
    (empty_fine u.who u.what && (eqb u.action 0 && (eqb u.place 0 && none_fine u.entry)))

-- An entry of a W: a bid or an offer, all new.
unfoldable pub shown_fine : ℕ → Update → Bool
shown_fine depth u = leb u.what 1 && (eqb u.action 0 && entry_fine depth u.entry)

-- What stands before a W's entries.
unfoldable pub head_fine : Head → Bool
head_fine h =
    within 1 most_number h.number
    && (moment_fine h.heard && (id_fine h.id && (leb h.last most_number && within 1 most_number h.loops)))

-- An entry of an X names an instrument, but where it is for all.
abbrev pub said_fine : ℕ → Update → Bool
said_fine depth u = (for_all u || id_fine u.who) && update_fine depth u

-- A message in range on a channel of this depth kind; 268 is at most 64.
unfoldable pub message_fine : ℕ → Message → Bool
message_fine depth (numbered n heard us) =
    within 1 most_number n && (moment_fine heard && (leb (length us) 64 && all (said_fine depth) us))
message_fine depth (snapshot h us) = head_fine h && (leb (length us) 64 && all (shown_fine depth) us)
message_fine depth (refused why) = true
