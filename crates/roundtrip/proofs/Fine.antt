-- What is known of an entry in range. Assumes nothing.
use mathlib.Core.Path.{◌≡◌}
use mathlib.Core.Bool.{Bool, true, false, cond}
use mathlib.Core.List.{List, [], ◌∷◌}
use Prim.Native.Nat.{ℕ, ◌≤◌, ◌<◌, ◌^◌}
use native.Mathlib.Omega.{arith}
use borrow.Author.Tests.{leb-true, eqb-true}
use lib.Dec.{leb, eqb}
use lib.IntN.{nat_abs}
use Rattle.digits.proofs.Width.{both}
use Rattle.price.specs.Price.{top}
use Rattle.moment.specs.Moments.{moments}
use Rattle.orderid.specs.OrderIds.{id_sound}
use Rattle.orderid.proofs.Back.{is_sound_lem}
use Rattle.book.specs.Canonical.{All}
use Rattle.book.specs.declared.Entry.{Entry}
use Rattle.board.specs.Ranges.{within, most_size, most_orders, entry_fine, orders_fine}
use Rattle.board.proofs.Tested.{entry_sound}
use Rattle.line.specs.Entries.{Writable}

-- 346 in range, with nothing more
pub record Orders (by more : ℕ) : Type 0 where
  pub low : 1 ≤ by
  pub high : by ≤ most_orders
  pub none : more ≡ 0

-- 37 where the depth is 0, else 346
abbrev pub By : Bool → ℕ → ℕ → Type 0
By true by more = id_sound by more ≡ true
By false by more = Orders by more

pub record Fine (depth : ℕ) (e : Entry) : Type 0 where
  pub price : nat_abs e.price < top
  pub size_low : 1 ≤ e.size
  pub size_high : e.size ≤ most_size
  pub moment : e.moment < moments
  pub by : By (eqb depth 0) e.by e.more

by_is_lem : (t : Bool) (by more : ℕ) → cond t (id_sound by more) (orders_fine by more) ≡ true → By t by more
by_is_lem true by more h = h
by_is_lem false by more h =
    let x = both (within 1 most_orders by) (eqb more 0) h in
    let y = both (leb 1 by) (leb by most_orders) x.0 in
    record { low = leb-true 1 by y.0; high = leb-true by most_orders y.1; none = eqb-true more 0 x.1 }

pub fine_is : (depth : ℕ) (e : Entry) → entry_fine depth e ≡ true → Fine depth e
fine_is depth e h =
    let s = entry_sound depth e h in
    record {
      price = s.price;
      size_low = s.size_low;
      size_high = s.size_high;
      moment = s.moment;
      by = by_is_lem (eqb depth 0) e.by e.more s.by;
    }

-- an entry in range can be written
by_small : (t : Bool) (by more : ℕ) → By t by more → by < 10 ^ 18
by_small true by more h = omega (arith, (is_sound_lem by more h).most)
by_small false by more h = omega (arith, h.high)

pub writable : (depth : ℕ) (e : Entry) → entry_fine depth e ≡ true → Writable e
writable depth e h =
    let f = fine_is depth e h in
    record { price = f.price; size = omega (arith, f.size_high); by = by_small (eqb depth 0) e.by e.more f.by; moment = f.moment }

pub all_writable : (depth : ℕ) (es : List Entry) → All (λ e. entry_fine depth e ≡ true) es → All Writable es
all_writable depth [] h = tt
all_writable depth (e ∷ es) h = (writable depth e h.0, all_writable depth es h.1)
