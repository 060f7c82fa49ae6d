-- The heading's tests as facts, both ways.
use mathlib.Core.Path.{◌≡◌, refl}
use mathlib.Core.Bool.{Bool, true, false, cond, not, ◌&&◌, ◌||◌}
use mathlib.Core.List.{List}
use Prim.Native.Nat.{ℕ, ◌/◌, ◌^◌, ◌≤◌, ◌<◌}
use native.Mathlib.Nat.{div-eq_of_lt}
use native.Mathlib.Omega.{arith}
use lib.Dec.{leb, eqb}
use lib.ListN.{get_or}
use borrow.Author.Tests.{leb-true, eqb-true, le-leb, lt-ltb, eq-eqb}
use Rattle.heading.proofs.Bits.{no_bit}
use Rattle.board.specs.Ranges.{most_number, moment_fine}
use Rattle.board.specs.Sound.{heard_fine}
use Rattle.board.proofs.Tested.{both, and_true}
use Rattle.store.specs.Layout.{layout_number, at_layout, at_depth, at_followed, at_number, at_base, at_heard, at_marks, at_queued}
use Rattle.scan.specs.Scan.{heading_scan}

pub record Headed (xs : List ℕ) : Type 0 where
  pub layout : get_or xs at_layout 0 ≡ layout_number
  pub kind : get_or xs at_depth 0 ≤ 1
  pub some : 1 ≤ get_or xs at_followed 0
  pub few : get_or xs at_followed 0 ≤ 16
  pub last : get_or xs at_number 0 ≤ most_number
  pub base : get_or xs at_base 0 ≤ get_or xs at_number 0
  pub heard : heard_fine (get_or xs at_number 0) (get_or xs at_heard 0) ≡ true
  pub marks : get_or xs at_marks 0 < 2 ^ get_or xs at_followed 0
  pub room : get_or xs at_queued 0 ≤ 256
  pub rest : get_or xs at_marks 0 ≡ 0 → (get_or xs at_queued 0 ≡ 0) × (get_or xs at_base 0 ≡ get_or xs at_number 0)

-- ten tests in a row
module _ (a b c d e f g h i j : Bool) where
  ten : a && b && c && d && e && f && g && h && i && j ≡ true
      → (a ≡ true) × (b ≡ true) × (c ≡ true) × (d ≡ true) × (e ≡ true) × (f ≡ true) × (g ≡ true) × (h ≡ true) × (i ≡ true) × (j ≡ true)
  ten t =
      let p = both (a && b && c && d && e && f && g && h && i) j t in
      let q = both (a && b && c && d && e && f && g && h) i p.0 in
      let r = both (a && b && c && d && e && f && g) h q.0 in
      let s = both (a && b && c && d && e && f) g r.0 in
      let u = both (a && b && c && d && e) f s.0 in
      let v = both (a && b && c && d) e u.0 in
      let w = both (a && b && c) d v.0 in
      let x = both (a && b) c w.0 in
      let y = both a b x.0 in
      (y.0, y.1, x.1, w.1, v.1, u.1, s.1, r.1, q.1, p.1)

-- the heard moment, in two tests
heard_tests : (n m : ℕ) → moment_fine m ≡ true → not (eqb n 0) || eqb m 0 ≡ true → heard_fine n m ≡ true
heard_tests n m p q = go (eqb n 0) q
  where
    go : (t : Bool) → not t || eqb m 0 ≡ true → cond t (eqb m 0) (moment_fine m) ≡ true
    go true q = q
    go false q = p

tests_heard : (n m : ℕ) → heard_fine n m ≡ true → (moment_fine m ≡ true) × (not (eqb n 0) || eqb m 0 ≡ true)
tests_heard n m h = go (eqb n 0) h
  where
    go : (t : Bool) → cond t (eqb m 0) (moment_fine m) ≡ true → (moment_fine m ≡ true) × (not t || eqb m 0 ≡ true)
    go true h = let z : m ≡ 0 = eqb-true m 0 h in (lt-ltb m 320829012000000 (omega arith), h)
    go false h = (h, refl)

-- where none waits
rest_tests : (m q b n : ℕ) → not (eqb m 0) || (eqb q 0 && eqb b n) ≡ true → m ≡ 0 → (q ≡ 0) × (b ≡ n)
rest_tests m q b n e z =
    let p = both (eqb q 0) (eqb b n) (rw (eq-eqb m 0 z) at e) in
    (eqb-true q 0 p.0, eqb-true b n p.1)

tests_rest : (m q b n : ℕ) → (m ≡ 0 → (q ≡ 0) × (b ≡ n)) → not (eqb m 0) || (eqb q 0 && eqb b n) ≡ true
tests_rest m q b n h = go (eqb m 0) refl
  where
    go : (t : Bool) → eqb m 0 ≡ t → not t || (eqb q 0 && eqb b n) ≡ true
    go true e = let p = h (eqb-true m 0 e) in and_true (eq-eqb q 0 p.0) (eq-eqb b n p.1)
    go false e = refl

module _ (xs : List ℕ) where
  pub headed : heading_scan xs ≡ true → Headed xs
  unfolding heading_scan
  headed e =
      let p = both (leb n 16) tests e in
      let q = ten (eqb (get_or xs at_layout 0) layout_number) (leb (get_or xs at_depth 0) 1) (leb 1 n) (leb h most_number) (leb b h) (moment_fine heard) (not (eqb h 0) || eqb heard 0) (eqb (m / 2 ^ n) 0) (leb k 256) (not (eqb m 0) || (eqb k 0 && eqb b h)) p.1 in
      record {
        layout = eqb-true (get_or xs at_layout 0) layout_number q.0;
        kind = leb-true (get_or xs at_depth 0) 1 q.1;
        some = leb-true 1 n q.2;
        few = leb-true n 16 p.0;
        last = leb-true h most_number q.3;
        base = leb-true b h q.4;
        heard = heard_tests h heard q.5 q.6;
        marks = no_bit m n (eqb-true (m / 2 ^ n) 0 q.7);
        room = leb-true k 256 q.8;
        rest = rest_tests m k b h q.9;
      }
    where
      n : ℕ
      n = get_or xs at_followed 0

      h : ℕ
      h = get_or xs at_number 0

      b : ℕ
      b = get_or xs at_base 0

      heard : ℕ
      heard = get_or xs at_heard 0

      m : ℕ
      m = get_or xs at_marks 0

      k : ℕ
      k = get_or xs at_queued 0

      tests : Bool
      tests =
          eqb (get_or xs at_layout 0) layout_number && leb (get_or xs at_depth 0) 1 && leb 1 n && leb h most_number && leb b h && moment_fine heard
          && (not (eqb h 0) || eqb heard 0) && eqb (m / 2 ^ n) 0 && leb k 256 && (not (eqb m 0) || (eqb k 0 && eqb b h))

  pub heading_of_lem : Headed xs → heading_scan xs ≡ true
  unfolding heading_scan
  heading_of_lem r =
      let t = tests_heard (get_or xs at_number 0) (get_or xs at_heard 0) r.heard in
      and_true (le-leb _ _ r.few)
      (and_true (and_true (and_true (and_true (and_true (and_true (and_true (and_true (and_true
      (eq-eqb _ _ r.layout) (le-leb _ _ r.kind)) (le-leb _ _ r.some)) (le-leb _ _ r.last)) (le-leb _ _ r.base))
      t.0) t.1) (eq-eqb _ _ (div-eq_of_lt r.marks))) (le-leb _ _ r.room))
      (tests_rest (get_or xs at_marks 0) (get_or xs at_queued 0) (get_or xs at_base 0) (get_or xs at_number 0) r.rest))
