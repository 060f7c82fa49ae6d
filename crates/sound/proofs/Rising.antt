-- Queued numbers that never fall, by position.
use mathlib.Core.Path.{◌≡◌, refl, ap}
use mathlib.Core.List.{List, [], ◌∷◌}
use Prim.Native.Nat.{ℕ, zero, suc, ◌+◌, ◌≤◌, ◌<◌}
use native.Mathlib.Nat.{le_of_suc-le-suc}
use native.Mathlib.Omega.{arith}
use lib.ListN.{length, get_or}
use Rattle.cells.specs.Cells.{tab}
use Rattle.cells.proofs.Tables.{length_tab, get_d_tab}
use Rattle.board.specs.Board.{Queued}
use Rattle.board.specs.Sound.{Rising}
use Rattle.store.specs.Layout.{slot_of}
use Rattle.store.specs.Meaning.{queued_at}
use Rattle.scan.specs.Scan.{low_of}
use Rattle.sound.proofs.Back.{no_queued}

-- the least number that may stand at k
abbrev low : ℕ → List Queued → ℕ → ℕ
low from l zero = from
low from l (suc k) = (get_or l k no_queued).number

low_tail : (from : ℕ) (q : Queued) (l : List Queued) (k : ℕ) → low from (q ∷ l) (suc k) ≡ low q.number l k
low_tail from q l zero = refl
low_tail from q l (suc k) = refl

abbrev Between : ℕ → ℕ → List Queued → ℕ → Type 0
Between from to l k = (low from l k ≤ (get_or l k no_queued).number) × ((get_or l k no_queued).number ≤ to)

rises_at : (from to : ℕ) (l : List Queued) → Rising from to l → (k : ℕ) → k < length l → Between from to l k
rises_at from to [] r k h = absurd (omega arith)
rises_at from to (q ∷ l) r zero h = (r.0, r.1)
rises_at from to (q ∷ l) r (suc k) h = let p = rises_at q.number to l r.2 k (le_of_suc-le-suc h) in (rw (low_tail from q l k) p.0, p.1)

rises_of : (from to : ℕ) (l : List Queued) → ((k : ℕ) → k < length l → Between from to l k) → Rising from to l
rises_of from to [] h = tt
rises_of from to (q ∷ l) h =
    let p = h 0 (omega arith) in
    (p.0, p.1, rises_of q.number to l (λ k g. let o = h (suc k) (omega arith) in (rw (low_tail from q l k) at o.0, o.1)))

-- in a store
module _ (xs : List ℕ) (to q : ℕ) where
  abbrev queue : List Queued
  queue = tab (queued_at xs) q

  number_at : (k : ℕ) → k < q → (get_or queue k no_queued).number ≡ get_or xs (slot_of k) 0
  unfolding queued_at
  number_at k h = ap (λ (x : Queued). x.number) (get_d_tab no_queued (queued_at xs) q k h)

  low_at : (k : ℕ) → k < q → low (get_or xs 4 0 + 1) queue k ≡ low_of xs k
  unfolding low_of
  low_at zero h = refl
  low_at (suc k) h = number_at k (omega arith)

  pub numbers_rise : ((k : ℕ) → k < q → (low_of xs k ≤ get_or xs (slot_of k) 0) × (get_or xs (slot_of k) 0 ≤ to)) → Rising (get_or xs 4 0 + 1) to queue
  numbers_rise h =
      rises_of (get_or xs 4 0 + 1) to queue (λ k g.
      let l : k < q = omega (arith, length_tab (queued_at xs) q) in
      let p = h k l in
      (omega (arith, p.0, low_at k l, number_at k l), omega (arith, p.1, number_at k l)))

  pub rise_numbers : Rising (get_or xs 4 0 + 1) to queue → (k : ℕ) → k < q → (low_of xs k ≤ get_or xs (slot_of k) 0) × (get_or xs (slot_of k) 0 ≤ to)
  rise_numbers r k h =
      let p = rises_at (get_or xs 4 0 + 1) to queue r k (omega (arith, length_tab (queued_at xs) q)) in
      (omega (arith, p.0, low_at k h, number_at k h), omega (arith, p.1, number_at k h))
