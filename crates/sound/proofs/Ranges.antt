-- The tests of an entry and of an update by position are those of the entry and the update that are read there.
use mathlib.Core.Path.{◌≡◌, refl, sym, ap, ◌∙◌}
use mathlib.Core.Bool.{Bool, true, false, cond, ◌&&◌, ◌||◌}
use mathlib.Core.List.{List}
use Prim.Native.Nat.{ℕ, suc, ◌+◌, ◌/◌, ◌%◌}
use native.Mathlib.Nat.{add-zero}
use native.Mathlib.Omega.{arith}
use lib.Dec.{ltb, leb, eqb}
use lib.IntN.{pos, negsuc, nat_abs}
use lib.ListN.{get_or}
use borrow.Author.Tests.{leb-true, leb-false, ltb-true, ltb-false, eqb-true, eqb-false, le-leb, lt-leb, lt-ltb, eq-eqb, ne_eqb}
use Rattle.holding.specs.Prices as price
use Rattle.holding.specs.Prices.{held_top, of_held}
use Rattle.holding.proofs.Holding.{held_of_held, held_small, small_held}
use Rattle.holding.specs.OrderIds.{top, full, id_sound}
use Rattle.cells.specs.Cells.{entry_at, update_at}
use Rattle.board.specs.Ranges.{within, most_orders, price_fine, moment_fine, orders_fine, by_fine, entry_fine, none_fine, empty_fine, update_fine}
use Rattle.board.proofs.Tested.{both}
use Rattle.sides.specs.Side.{each, all_zero, more_to, entry_scan}
use Rattle.scan.specs.Scan.{most_of, full_of, update_scan}

-- ---- Bools

and_turn : (a b c : Bool) → a && (b && c) ≡ c && (a && b)
and_turn true true true = refl
and_turn true true false = refl
and_turn true false true = refl
and_turn true false false = refl
and_turn false b true = refl
and_turn false b false = refl

-- the same test where the first holds
and_where : (a : Bool) {b c : Bool} → (a ≡ true → b ≡ c) → a && b ≡ a && c
and_where true h = h refl
and_where false h = refl

-- ---- an entry

price_test : (w : ℕ) → leb w held_top ≡ price_fine (of_held w)
price_test w = go (leb w held_top) (price_fine (of_held w)) refl refl
  where
    go : (s t : Bool) → leb w held_top ≡ s → price_fine (of_held w) ≡ t → s ≡ t
    go true true p q = refl
    go true false p q = absurd (omega (arith, small_held w (leb-true w held_top p), ltb-false (nat_abs (of_held w)) price.top q))
    go false true p q =
        absurd (omega (arith, leb-false w held_top p, held_small (of_held w) (ltb-true (nat_abs (of_held w)) price.top q), held_of_held w))
    go false false p q = refl

le_zero : (n : ℕ) → leb n 0 ≡ eqb n 0
le_zero n = go (eqb n 0) refl
  where
    go : (t : Bool) → eqb n 0 ≡ t → leb n 0 ≡ t
    go true e = le-leb n 0 (omega (arith, eqb-true n 0 e))
    go false e = let q = eqb-false n 0 e in lt-leb n 0 (omega arith)

-- `more` on an order-depth channel
more_order : (by more : ℕ) → leb more (more_to top full by) ≡ eqb more 0 || (leb full by && leb more top)
unfolding more_to
more_order by more = go (ltb by full) (eqb more 0) refl refl
  where
    go : (s t : Bool) → ltb by full ≡ s → eqb more 0 ≡ t → leb more (cond s 0 top) ≡ t || (leb full by && leb more top)
    go true true p q = le_zero more ∙ q
    go true false p q = le_zero more ∙ q ∙ rw (lt-leb full by (ltb-true by full p))
    go false true p q = le-leb more top (omega (arith, eqb-true more 0 q))
    go false false p q = rw (le-leb full by (ltb-false by full p))

-- and on a price-depth one
more_orders : (by more : ℕ) → within 1 most_orders by ≡ true → leb more (more_to most_orders 65536 by) ≡ eqb more 0
unfolding more_to
more_orders by more h = rw (lt-ltb by 65536 (omega (arith, leb-true by most_orders (both (leb 1 by) (leb by most_orders) h).1))) (le_zero more)

kind_test : (depth by more : ℕ) (m : Bool) → within 1 (most_of depth) by && (leb more (more_to (most_of depth) (full_of depth) by) && m) ≡ m && by_fine depth by more
unfolding most_of full_of
kind_test depth by more m = go (eqb depth 0)
  where
    go : (t : Bool) → within 1 (cond t top most_orders) by && (leb more (more_to (cond t top most_orders) (cond t full 65536) by) && m)
        ≡ m && cond t (id_sound by more) (orders_fine by more)
    go true = rw (more_order by more) (and_turn (within 1 top by) (eqb more 0 || (leb full by && leb more top)) m)
    go false =
        and_where (within 1 most_orders by) (λ e. ap (λ (t : Bool). t && m) (more_orders by more e)) ∙ and_turn (within 1 most_orders by) (eqb more 0) m

pub entry_test : (depth : ℕ) (xs : List ℕ) (at : ℕ) → entry_scan (most_of depth) (full_of depth) xs at ≡ entry_fine depth (entry_at xs at)
unfolding entry_scan entry_fine
entry_test depth xs at =
    rw (price_test (get_or xs at 0), kind_test depth (get_or xs (at + 2) 0) (get_or xs (at + 3) 0) (moment_fine (get_or xs (at + 4) 0)))

-- ---- no entry

no_price : (w : ℕ) → eqb w 0 ≡ eqb (nat_abs (of_held w)) 0
unfolding of_held
no_price w = go (eqb (w % 2) 0) (eqb w 0) refl refl
  where
    go : (s t : Bool) → eqb (w % 2) 0 ≡ s → eqb w 0 ≡ t → t ≡ eqb (nat_abs (cond s (pos (w / 2)) (negsuc (w / 2)))) 0
    go true true p q = sym (eq-eqb (w / 2) 0 (omega (arith, eqb-true w 0 q)))
    go true false p q = let h = eqb-false w 0 q in sym (ne_eqb (w / 2) 0 (λ z. h (omega (arith, eqb-true (w % 2) 0 p))))
    go false true p q = let h = eqb-false (w % 2) 0 p in absurd (h (omega (arith, eqb-true w 0 q)))
    go false false p q = sym (ne_eqb (suc (w / 2)) 0 (λ z. omega arith))

five : (a b c d e : Bool) → true && a && b && c && d && e ≡ a && (b && (c && (d && e)))
five true true true d e = refl
five true true false d e = refl
five true false c d e = refl
five false b c d e = refl

pub none_test : (xs : List ℕ) (at : ℕ) → all_zero xs at 5 ≡ none_fine (entry_at xs at)
unfolding all_zero each none_fine
none_test xs at =
    five (eqb (get_or xs (at + 0) 0) 0) (eqb (get_or xs (at + 1) 0) 0) (eqb (get_or xs (at + 2) 0) 0) (eqb (get_or xs (at + 3) 0) 0) (eqb (get_or xs (at + 4) 0) 0)
    ∙ rw (add-zero, no_price (get_or xs at 0))

-- ---- an update

four : (a b c d : Bool) → a && b && c && d ≡ a && (b && (c && d))
four true true c d = refl
four true false c d = refl
four false b c d = refl

pub update_test : (depth : ℕ) (xs : List ℕ) (at : ℕ) → update_scan (most_of depth) (full_of depth) xs at ≡ update_fine depth (update_at xs at)
unfolding update_scan update_fine
update_test depth xs at =
    rw (
      entry_test depth xs (at + 4),
      none_test xs (at + 4),
      four (empty_fine (get_or xs at 0) (get_or xs (at + 1) 0)) (eqb (get_or xs (at + 2) 0) 0) (eqb (get_or xs (at + 3) 0) 0) (none_fine (entry_at xs (at + 4))),
    )
