-- What an entry says lies in its ranges. Assumes nothing.
use Rattle.std.specs.Prelude.{Option, Some, None}
use mathlib.Core.Path.{◌≡◌, refl}
use mathlib.Core.Bool.{Bool, true, false, cond, ◌&&◌, ◌||◌}
use mathlib.Core.List.{List, [], ◌∷◌}
use Prim.Native.Nat.{ℕ, ◌+◌, ◌*◌}
use native.Mathlib.Omega.{arith}
use borrow.Author.Tests.{le-leb, lt-ltb}
use lib.Dec.{leb, eqb}
use lib.IntN.{ℤ, nat_abs}
use Rattle.digits.specs.Digits.{ranged_of}
use Rattle.digits.proofs.Ranges.{ranged_in}
use Rattle.digits.proofs.Width.{both}
use Rattle.price.specs.Price.{top, price_of}
use Rattle.price.proofs.Parts.{price_small}
use Rattle.moment.specs.Moments.{moment_of, date_of, time_of, span, moments, join}
use Rattle.moment.proofs.Bounds.{moment_lt, date_lt, time_lt}
use Rattle.orderid.specs.OrderIds.{id_of, id_sound}
use Rattle.orderid.specs.declared.OrderId.{OrderId}
use Rattle.orderid.proofs.Back.{read_sound}
use Rattle.book.specs.declared.Entry.{Entry}
use Rattle.book.specs.Rules.{empty_of_all, is_for_all}
use Rattle.book.specs.Sides.{no_entry}
use Rattle.board.specs.Ranges.{within, most_id, most_size, most_orders, id_fine, price_fine, size_fine, moment_fine, orders_fine, by_fine, entry_fine, none_fine, update_fine, shown_fine, said_fine}
use Rattle.values.specs.Values.{◌>>=◌, need, Values, whole_at, action_at, place_at, size_at, heard_at, identified, bvmf, instrument_of, sort_of, sort_at, price_at, orders, by_of, moment_in, values_of}
use Rattle.entries.specs.Entries.{book_entry, empties, absent, empty_all, empty_book, entry_in_x, shown_entry, entry_in_w}
use Rattle.frame.specs.Frames.{equal}
use Rattle.inrange.proofs.Okay.{okay, bind}

-- ---- values
in_range : (w lo hi : ℕ) (bs : List ℕ) (x : Option ℕ) → ranged_of w lo hi bs ≡ x → okay (within lo hi) x ≡ true
in_range w lo hi bs None e = refl
in_range w lo hi bs (Some n) e =
    let i = ranged_in w lo hi bs e in
    rw (le-leb lo n i.low, le-leb n hi i.high)

pub whole_okay : (t w lo hi : ℕ) (v : Values) → okay (within lo hi) (whole_at t w lo hi v) ≡ true
whole_okay t w lo hi v = in_range w lo hi (v t) (ranged_of w lo hi (v t)) refl

pub heard_okay : (v : Values) → okay moment_fine (heard_at v) ≡ true
heard_okay v = go (moment_of (v 52)) refl
  where
    go : (x : Option ℕ) → moment_of (v 52) ≡ x → okay moment_fine x ≡ true
    go None e = refl
    go (Some m) e = lt-ltb m 320829012000000 (omega (arith, moment_lt (v 52) e))

pub instrument_okay : (v : Values) → okay id_fine (instrument_of v) ≡ true
unfolding instrument_of
instrument_okay v = go (ranged_of 18 1 most_id (v 48)) (equal (v 22) (56 ∷ []) && bvmf (v 207)) (in_range 18 1 most_id (v 48) (ranged_of 18 1 most_id (v 48)) refl)
  where
    go : (x : Option ℕ) (z : Bool) → okay id_fine x ≡ true → okay id_fine (identified x z) ≡ true
    go None z h = refl
    go (Some n) true h = h
    go (Some n) false h = refl

price_okay : (v : Values) → okay price_fine (price_at v) ≡ true
price_okay v = go (price_of (v 270)) refl
  where
    go : (x : Option ℤ) → price_of (v 270) ≡ x → okay price_fine x ≡ true
    go None e = refl
    go (Some p) e = lt-ltb (nat_abs p) top (price_small (v 270) p e)

moment_okay : (v : Values) → okay moment_fine (moment_in v) ≡ true
unfolding moment_in
moment_okay v = go (date_of (v 272)) (time_of (v 273)) refl refl
  where
    go : (a b : Option ℕ) → date_of (v 272) ≡ a → time_of (v 273) ≡ b → okay moment_fine (join span a b) ≡ true
    go None b p q = refl
    go (Some d) None p q = refl
    go (Some d) (Some t) p q = lt-ltb (d * span + t) moments (omega (arith, date_lt (v 272) p, time_lt (v 273) q))

abbrev by_is : Bool → OrderId → Bool
by_is z b = cond z (id_sound b.by b.more) (orders_fine b.by b.more)

by_okay : (depth : ℕ) (v : Values) → okay (λ b. by_fine depth b.by b.more) (by_of depth v) ≡ true
unfolding by_of
by_okay depth v = go (eqb depth 0)
  where
    order : (x : Option OrderId) → id_of (v 37) ≡ x → okay (by_is true) x ≡ true
    order None e = refl
    order (Some id) e = read_sound (v 37) e

    many : (x : Option ℕ) → okay (within 1 most_orders) x ≡ true → okay (by_is false) (orders x) ≡ true
    many None h = refl
    many (Some n) h = rw h

    go : (z : Bool) → okay (by_is z) (cond z (id_of (v 37)) (orders (ranged_of 5 1 most_orders (v 346)))) ≡ true
    go true = order (id_of (v 37)) refl
    go false = many (ranged_of 5 1 most_orders (v 346)) (in_range 5 1 most_orders (v 346) (ranged_of 5 1 most_orders (v 346)) refl)

values_okay : (depth : ℕ) (v : Values) → okay (entry_fine depth) (values_of depth v) ≡ true
unfolding values_of entry_fine
values_okay depth v =
    bind price_fine (entry_fine depth) (price_at v) _ (price_okay v)
    (λ p hp. bind size_fine (entry_fine depth) (size_at v) _ (whole_okay 271 12 1 most_size v)
    (λ s hs. bind (λ b. by_fine depth b.by b.more) (entry_fine depth) (by_of depth v) _ (by_okay depth v)
    (λ b hb. bind moment_fine (entry_fine depth) (moment_in v) _ (moment_okay v)
    (λ m hm. rw (hp, hs, hm, hb)))))

-- ---- entries
none_fine_lem : none_fine no_entry ≡ true
unfolding none_fine
none_fine_lem = refl

sort_most : (v : Values) → okay (within 0 3) (sort_at v) ≡ true
unfolding sort_of
sort_most v = go (v 269)
  where
    pick : (a b c : Bool) → within 0 3 (cond a 0 (cond b 1 (cond c 2 3))) ≡ true
    pick true b c = refl
    pick false true c = refl
    pick false false true = refl
    pick false false false = refl

    go : (t : List ℕ) → okay (within 0 3) (sort_of t) ≡ true
    go [] = refl
    go (b ∷ []) = pick (eqb b 48) (eqb b 49) (eqb b 74)
    go (b ∷ d ∷ bs) = refl

or_true : (a : Bool) → a || true ≡ true
or_true true = refl
or_true false = refl

book_okay : (depth side action : ℕ) (v : Values) → leb side 1 ≡ true → leb action 4 ≡ true → okay (okay (said_fine depth)) (book_entry depth side action v) ≡ true
unfolding book_entry update_fine
book_okay depth side action v hs ha =
    bind (within 1 most_orders) (okay (said_fine depth)) (place_at v) _ (whole_okay 290 5 1 most_orders v)
    (λ place hp. bind id_fine (okay (said_fine depth)) (instrument_of v) _ (instrument_okay v)
    (λ id hi. bind (fits (leb action 1)) (okay (said_fine depth)) (cond (leb action 1) (values_of depth v) (Some no_entry)) _ (either (leb action 1))
    (λ entry he. rw (hi, or_true (is_for_all side), hs, ha, hp) he)))
  where
    fits : Bool → Entry → Bool
    fits z e = cond z (entry_fine depth e) (none_fine e)

    either : (z : Bool) → okay (fits z) (cond z (values_of depth v) (Some no_entry)) ≡ true
    either true = values_okay depth v
    either false = none_fine_lem

empty_okay : (depth : ℕ) (v : Values) → okay (okay (said_fine depth)) (empty_book v) ≡ true
unfolding empty_book empty_all update_fine
empty_okay depth v = go (absent 48 v) (absent 22 v && absent 207 v)
  where
    go : (a z : Bool) → okay (okay (said_fine depth)) (cond a (need z (empties 0 empty_of_all)) (instrument_of v >>= λ id. empties id 2)) ≡ true
    go true true = none_fine_lem
    go true false = refl
    go false z = bind id_fine (okay (said_fine depth)) (instrument_of v) _ (instrument_okay v) (λ id hi. rw (hi, none_fine_lem))

pub x_okay : (depth : ℕ) (v : Values) → okay (okay (said_fine depth)) (entry_in_x depth v) ≡ true
unfolding entry_in_x
x_okay depth v =
    bind (within 0 4) (okay (said_fine depth)) (action_at v) _ (whole_okay 279 1 0 4 v)
    (λ action ha. bind (within 0 3) (okay (said_fine depth)) (sort_at v) _ (sort_most v)
    (λ sort hs. go action sort (both (leb 0 action) (leb action 4) ha).1 (leb sort 1) (eqb sort 2) refl))
  where
    go : (action sort : ℕ) → leb action 4 ≡ true → (z y : Bool) → leb sort 1 ≡ z
        → okay (okay (said_fine depth)) (cond z (book_entry depth sort action v) (cond y (empty_book v) (Some None))) ≡ true
    go action sort h true y e = book_okay depth sort action v e h
    go action sort h false true e = empty_okay depth v
    go action sort h false false e = refl

shown_okay : (depth id side : ℕ) (v : Values) → leb side 1 ≡ true → okay (okay (shown_fine depth)) (shown_entry depth id side v) ≡ true
unfolding shown_entry shown_fine
shown_okay depth id side v hs =
    bind (within 1 most_orders) (okay (shown_fine depth)) (place_at v) _ (whole_okay 290 5 1 most_orders v)
    (λ place hp. bind (entry_fine depth) (okay (shown_fine depth)) (values_of depth v) _ (values_okay depth v) (λ entry he. rw (hs, he)))

pub w_okay : (depth id : ℕ) (v : Values) → okay (okay (shown_fine depth)) (entry_in_w depth id v) ≡ true
unfolding entry_in_w
w_okay depth id v =
    bind (within 0 3) (okay (shown_fine depth)) (sort_at v) _ (sort_most v) (λ sort hs. go sort (leb sort 1) refl)
  where
    go : (sort : ℕ) (z : Bool) → leb sort 1 ≡ z → okay (okay (shown_fine depth)) (cond z (shown_entry depth id sort v) (Some None)) ≡ true
    go sort true e = shown_okay depth id sort v e
    go sort false e = refl
