-- Sides that are sound, an instrument's two in a row, are sound books.
use mathlib.Core.Path.{◌≡◌}
use mathlib.Core.Bool.{true}
use mathlib.Core.List.{List}
use Prim.Native.Nat.{ℕ, ◌+◌, ◌*◌, ◌/◌, ◌<◌}
use native.Mathlib.Omega.{arith}
use Rattle.store.specs.Layout.{bids_of}
use Rattle.sides.specs.Side.{each, side_scan, room_of}
use Rattle.sides.proofs.Each.{each_of}
use Rattle.sweep.specs.Quick.{Sides}
use Rattle.scan.specs.Scan.{book_scan}

pub books_fine : (most full marks : ℕ) (xs : List ℕ) (n : ℕ) → Sides most full marks xs 0 (2 * n)
    → each (λ (i : ℕ). book_scan (room_of marks i) most full xs (bids_of i)) n ≡ true
unfolding book_scan
books_fine most full marks xs n h = each_of (λ (i : ℕ). book_scan (room_of marks i) most full xs (bids_of i)) n go
  where
    go : (i : ℕ) → i < n → book_scan (room_of marks i) most full xs (bids_of i) ≡ true
    go i l =
        let p : 160 + 2 * i * 128 ≡ bids_of i = omega arith in
        let q : 160 + (2 * i + 1) * 128 ≡ bids_of i + 128 = omega arith in
        let r : 2 * i / 2 ≡ i = omega arith in
        let t : (2 * i + 1) / 2 ≡ i = omega arith in
        let a : side_scan (room_of marks i) most full xs (bids_of i) ≡ true = rw (p, r) at (h (2 * i) (omega arith) (omega (arith, l))) in
        let b : side_scan (room_of marks i) most full xs (bids_of i + 128) ≡ true = rw (q, t) at (h (2 * i + 1) (omega arith) (omega (arith, l))) in
        rw (a, b)
