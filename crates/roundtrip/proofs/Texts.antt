-- Every value that is written is not empty, has no SOH, and has so many bytes. Assumes nothing.
use Rattle.std.specs.Prelude.{Some}
use Rattle.orderid.specs.OrderIds.{order_id}
use mathlib.Core.Path.{◌≡◌, refl}
use mathlib.Core.Bool.{Bool, true, false, cond}
use mathlib.Core.List.{List, [], ◌∷◌}
use Prim.Native.Nat.{ℕ, suc, ◌+◌, ◌/◌, ◌%◌, ◌^◌, ◌≤◌, ◌<◌}
use native.Mathlib.Omega.{arith}
use borrow.Author.Tests.{eqb-false}
use lib.Dec.{eqb}
use lib.IntN.{ℤ, pos, negsuc, nat_abs}
use lib.ListN.{length, take, drop, length-append}
use Rattle.text.specs.Text.{width_of, decimal, free}
use Rattle.text.proofs.Written.{length_decimal, width_pos, width_in, digits_decimal}
use Rattle.price.specs.Price.{most_wholes, most_decimals, unit, top}
use Rattle.price.specs.PriceText.{decimals, fraction_text, amount_text, price_text, most_text}
use Rattle.price.proofs.Back.{digits_free, kept}
use Rattle.moment.specs.Moments.{date_text, time_text, moment_text}
use Rattle.moment.proofs.Texts.{length_date, length_time, length_moment, date_free, time_free, moment_free}
use Rattle.orderid.specs.OrderIds.{is_id, id_of, word_from, id_text, id_sound}
use Rattle.orderid.proofs.Back.{was_read_lem, text_back, id_some, id_most, id_free}
use Rattle.chain.proofs.Ahead.{free_append}

-- a value of lo to hi bytes
pub record Text (lo hi : ℕ) (v : List ℕ) : Type 0 where
  pub some : 1 ≤ length v
  pub least : lo ≤ length v
  pub most : length v ≤ hi
  pub free : free 1 v ≡ true

pub text_decimal : (w n : ℕ) → 1 ≤ w → w ≤ 18 → n < 10 ^ w → Text 1 w (decimal n)
unfolding width_of
text_decimal w n p q h =
    record {
      some = rw length_decimal (width_pos 17 n);
      least = rw length_decimal (width_pos 17 n);
      most = rw length_decimal (width_in w n p q h);
      free = digits_free 1 (decimal n) refl (digits_decimal n);
    }

-- ---- a price
fraction : (f : ℕ) → f < unit → (length (fraction_text f) ≤ 1 + most_decimals) × (free 1 (fraction_text f) ≡ true)
unfolding fraction_text
fraction f h = go (eqb f 0) refl
  where
    go : (t : Bool) → eqb f 0 ≡ t → (length (cond t [] (46 ∷ decimals most_decimals f)) ≤ 1 + most_decimals) × (free 1 (cond t [] (46 ∷ decimals most_decimals f)) ≡ true)
    go true e = (omega arith, refl)
    go false e =
        let n = eqb-false f 0 e in
        let some : 0 < f = omega arith in
        let k = kept most_decimals f some h in
        (omega (arith, k.most), digits_free 1 (decimals most_decimals f) refl k.digits)

text_amount : (m : ℕ) → m < top → Text 1 (most_wholes + 1 + most_decimals) (amount_text m)
unfolding amount_text
text_amount m h =
    let a = text_decimal most_wholes (m / unit) (omega arith) (omega arith) (omega arith) in
    let b = fraction (m % unit) (omega arith) in
    record {
      some = rw length-append (omega (arith, a.some));
      least = rw length-append (omega (arith, a.some));
      most = rw length-append (omega (arith, a.most, b.0));
      free = free_append 1 (decimal (m / unit)) (fraction_text (m % unit)) a.free b.1;
    }

pub text_price : (p : ℤ) → nat_abs p < top → Text 1 most_text (price_text p)
unfolding price_text
text_price (pos n) h = let a = text_amount n h in record { some = a.some; least = a.least; most = omega (arith, a.most); free = a.free }
text_price (negsuc n) h = let a = text_amount (suc n) h in record { some = omega arith; least = omega arith; most = omega (arith, a.most); free = a.free }

-- ---- dates and times
exactly : (n : ℕ) (v : List ℕ) → length v ≡ n → 1 ≤ n → free 1 v ≡ true → Text n n v
exactly n v e l f = record { some = omega arith; least = omega arith; most = omega arith; free = f }

pub text_date : (d : ℕ) → Text 8 8 (date_text d)
text_date d = exactly 8 (date_text d) (length_date d) (omega arith) (date_free 1 (omega arith) d)

pub text_time : (t : ℕ) → Text 12 12 (time_text t)
text_time t = exactly 12 (time_text t) (length_time t) (omega arith) (time_free 1 (omega arith) t)

pub text_moment : (m : ℕ) → Text 21 21 (moment_text m)
text_moment m = exactly 21 (moment_text m) (length_moment m) (omega arith) (moment_free 1 (omega arith) m)

-- ---- order ids, senders and targets
pub text_id : (a b : ℕ) → id_sound a b ≡ true → Text 1 16 (id_text a b)
text_id a b h = record { some = id_some a b h; least = id_some a b h; most = id_most a b; free = id_free 1 a b (omega arith) }

read_name : (v : List ℕ) → is_id v ≡ true → id_of v ≡ Some (order_id (word_from 0 (take 8 v)) (word_from 0 (drop 8 v)))
unfolding id_of
read_name v h = rw h

pub text_name : (v : List ℕ) → is_id v ≡ true → Text 1 16 v
text_name v h =
    let e = read_name v h in
    let r = was_read_lem v e in
    let f : free 1 v ≡ true = rw (text_back v e) at (id_free 1 (word_from 0 (take 8 v)) (word_from 0 (drop 8 v)) (omega arith)) in
    record { some = r.some; least = r.some; most = r.most; free = f }
