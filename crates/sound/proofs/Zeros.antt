-- What stands in no use, region by region, is the same as what crate store says of every number.
use mathlib.Core.Path.{◌≡◌}
use mathlib.Core.List.{List}
use Prim.Native.Nat.{ℕ, ◌+◌, ◌*◌, ◌-◌, ◌/◌, ◌%◌, ◌≤◌, ◌<◌}
use native.Mathlib.Omega.{arith}
use lib.ListN.{get_or}
use Rattle.cells.proofs.Stores.{below_or}
use Rattle.store.specs.Canon.{Unused, Spare}
use Rattle.cells.specs.Cells.{side_size}

-- behind the heading and the loop's record; in a record and behind the records; in a side and behind the sides; in a slot and behind the queue
pub record Zeros (f q : ℕ) (xs : List ℕ) : Type 0 where
  pub heading : (k : ℕ) → 12 ≤ k → k < 32 → get_or xs k 0 ≡ 0
  pub in_record : (i j : ℕ) → i < f → 2 ≤ j → j < 8 → get_or xs (32 + i * 8 + j) 0 ≡ 0
  pub records : (k : ℕ) → 32 + f * 8 ≤ k → k < 160 → get_or xs k 0 ≡ 0
  pub in_side : (i j : ℕ) → i < f * 2 → side_size ≤ j → j < 128 → get_or xs (160 + i * 128 + j) 0 ≡ 0
  pub sides : (k : ℕ) → 160 + f * 256 ≤ k → k < 4256 → get_or xs k 0 ≡ 0
  pub in_slot : (i : ℕ) → i < q → get_or xs (4256 + i * 11 + 10) 0 ≡ 0
  pub queue : (k : ℕ) → 4256 + q * 11 ≤ k → k < 7168 → get_or xs k 0 ≡ 0

module _ (f q : ℕ) (xs : List ℕ) (few : f ≤ 16) (room : q ≤ 256) where
  pub zeros_of : Spare f q xs → Zeros f q xs
  zeros_of s = record {
    heading = λ k l m. s k (omega arith) (record { head = λ h. omega arith; record_of = λ i h a b. omega arith; side = λ i h a b. omega arith; slot = λ i h a b. omega arith });
    in_record = λ i j l m n. s (32 + i * 8 + j) (omega arith) (record { head = λ h. omega arith; record_of = λ t h a b. omega arith; side = λ t h a b. omega arith; slot = λ t h a b. omega arith });
    records = λ k l m. s k (omega arith) (record { head = λ h. omega arith; record_of = λ i h a b. omega arith; side = λ i h a b. omega arith; slot = λ i h a b. omega arith });
    in_side = λ i j l m n. s (160 + i * 128 + j) (omega arith) (record { head = λ h. omega arith; record_of = λ t h a b. omega arith; side = λ t h a b. omega arith; slot = λ t h a b. omega arith });
    sides = λ k l m. s k (omega arith) (record { head = λ h. omega arith; record_of = λ i h a b. omega arith; side = λ i h a b. omega arith; slot = λ i h a b. omega arith });
    in_slot = λ i l. s (4256 + i * 11 + 10) (omega arith) (record { head = λ h. omega arith; record_of = λ t h a b. omega arith; side = λ t h a b. omega arith; slot = λ t h a b. omega arith });
    queue = λ k l m. s k m (record { head = λ h. omega arith; record_of = λ i h a b. omega arith; side = λ i h a b. omega arith; slot = λ i h a b. omega arith });
  }

  -- a number of a record, a side or a slot that is not used
  of_record : Zeros f q xs → (k : ℕ) → Unused f q k → 32 ≤ k → k < 32 + f * 8 → get_or xs k 0 ≡ 0
  of_record z k u l m =
      let i = (k - 32) / 8 in
      let j = (k - 32) % 8 in
      let e : 32 + i * 8 + j ≡ k = omega arith in
      below_or j 2 (λ p. absurd (u.record_of i (omega arith) (omega arith) (omega arith))) (λ p. rw e at (z.in_record i j (omega arith) p (omega arith)))

  of_side_lem : Zeros f q xs → (k : ℕ) → Unused f q k → 160 ≤ k → k < 160 + f * 256 → get_or xs k 0 ≡ 0
  of_side_lem z k u l m =
      let i = (k - 160) / 128 in
      let j = (k - 160) % 128 in
      let e : 160 + i * 128 + j ≡ k = omega arith in
      below_or j side_size (λ p. absurd (u.side i (omega arith) (omega arith) (omega arith))) (λ p. rw e at (z.in_side i j (omega arith) p (omega arith)))

  of_slot : Zeros f q xs → (k : ℕ) → Unused f q k → 4256 ≤ k → k < 4256 + q * 11 → get_or xs k 0 ≡ 0
  of_slot z k u l m =
      let i = (k - 4256) / 11 in
      let j = (k - 4256) % 11 in
      below_or j 10 (λ p. absurd (u.slot i (omega arith) (omega arith) (omega arith))) (λ p.
      let e : 4256 + i * 11 + 10 ≡ k = omega arith in
      rw e at (z.in_slot i (omega arith)))

  pub spare_of : Zeros f q xs → Spare f q xs
  spare_of z k l u =
      below_or k 12 (λ p. absurd (u.head p)) (λ p.
      below_or k 32 (λ o. z.heading k p o) (λ o.
      below_or k (32 + f * 8) (λ n. of_record z k u o n) (λ n.
      below_or k 160 (λ m. z.records k n m) (λ m.
      below_or k (160 + f * 256) (λ h. of_side_lem z k u m h) (λ h.
      below_or k 4256 (λ g. z.sides k h g) (λ g.
      below_or k (4256 + q * 11) (λ d. of_slot z k u g d) (λ d. z.queue k d l)))))))
