-- A lot is what the request says. Assumes nothing.
use mathlib.Core.Path.{◌≡◌, refl, sym, ap, ◌∙◌}
use mathlib.Core.Bool.{Bool, true, false, false≢true, cond, ◌&&◌}
use mathlib.Core.List.{List, [], ◌∷◌}
use Prim.Native.Nat.{ℕ, zero, suc, ◌+◌, ◌-◌, ◌≤◌, ◌<◌, min}
use native.Mathlib.Omega.{arith}
use lib.Dec.{leb}
use lib.ListN.{length, take, get_or}
use lib.Seq.{take_all}
use borrow.Author.Tests.{leb-true, leb-false}
use Rattle.std.specs.Prelude.{Option, None, Some}
use Rattle.book.specs.declared.Entry.{Entry}
use Rattle.sums.specs.Sums.{fits}
use Rattle.proceeds.specs.declared.Sale.{Sale}
use Rattle.proceeds.specs.Lots.{units_of, left_of, value_of, sum_over, sum_after, all_fit, lot_of}
use Rattle.proceeds.specs.Laws.{total, sizes, LotsAreExact}
use Rattle.proceeds.proofs.Runs.{whole}

-- ---- units
conserved : (n : ℕ) (es : List Entry) → total (units_of n es) + left_of n es ≡ n
unfolding total units_of left_of
conserved n [] = omega arith
conserved n (e ∷ es) = omega (arith, conserved (n - e.size) es)

left_most : (n : ℕ) (es : List Entry) → left_of n es ≤ n
left_most n es = omega (arith, conserved n es)

used_up : (n : ℕ) (es : List Entry) → 0 < left_of n es → units_of n es ≡ sizes es
unfolding units_of left_of sizes
used_up n [] h = refl
used_up n (e ∷ es) h =
    let l = left_most (n - e.size) es in
    let m : min n e.size ≡ e.size = omega arith in
    rw (m, used_up (n - e.size) es h)

none_taken : (es : List Entry) (k : ℕ) → get_or (units_of 0 es) k 0 ≡ 0
unfolding units_of
none_taken [] k = refl
none_taken (e ∷ es) zero = omega arith
none_taken (e ∷ es) (suc k) = let l : 0 - e.size ≡ 0 = omega arith in rw l (none_taken es k)

in_order : (n : ℕ) (es : List Entry) (k : ℕ) → 0 < get_or (units_of n es) k 0 → take k (units_of n es) ≡ take k (sizes es)
unfolding units_of sizes
in_order n es zero h = refl
in_order n [] (suc k) h = refl
in_order n (e ∷ es) (suc k) h = go (leb n e.size) refl (in_order (n - e.size) es k h)
  where
    go : (t : Bool) → leb n e.size ≡ t → take k (units_of (n - e.size) es) ≡ take k (sizes es)
        → min n e.size ∷ take k (units_of (n - e.size) es) ≡ e.size ∷ take k (sizes es)
    go true q r =
        let s = leb-true n e.size q in
        let l : n - e.size ≡ 0 = omega arith in
        let z : get_or (units_of (n - e.size) es) k 0 ≡ 0 = rw l (none_taken es k) in
        absurd (omega arith)
    go false q r =
        let s = leb-false n e.size q in
        let m : min n e.size ≡ e.size = omega arith in
        rw (m, r)

grows : (n : ℕ) (es : List Entry) (m : ℕ) → n ≤ m → total (units_of n es) ≤ total (units_of m es)
unfolding total units_of
grows n [] m h = omega arith
grows n (e ∷ es) m h = omega (arith, grows (n - e.size) es (m - e.size) (omega arith))

-- ---- sums
both : (a b : Bool) → a && b ≡ true → (a ≡ true) × (b ≡ true)
both true b h = (refl, h)
both false b h = absurd (false≢true h)

module _ (n : ℕ) (es : List Entry) where
  start : fits (sum_after n es 0) ≡ true
  unfolding fits value_of units_of
  start = refl

  all_at : (m k : ℕ) → k ≤ m → all_fit n es m ≡ true → fits (sum_after n es k) ≡ true
  unfolding all_fit
  all_at zero k g h = let z : k ≡ 0 = omega arith in rw z start
  all_at (suc m) k g h = go (leb k m) refl (λ l. all_at m k l (both (all_fit n es m) (fits (sum_after n es (suc m))) h).0)
    where
      go : (t : Bool) → leb k m ≡ t → (k ≤ m → fits (sum_after n es k) ≡ true) → fits (sum_after n es k) ≡ true
      go true q r = r (leb-true k m q)
      go false q r =
          let l = leb-false k m q in
          let z : k ≡ suc m = omega arith in
          ap (λ (j : ℕ). fits (sum_after n es j)) z ∙ (both (all_fit n es m) (fits (sum_after n es (suc m))) h).1

  -- places past the last add nothing
  past : (k : ℕ) → length es ≤ k → sum_after n es k ≡ sum_after n es (length es)
  past k h = rw (take_all k es h, take_all (length es) es (omega arith))

  all_true : all_fit n es (length es) ≡ true → (k : ℕ) → fits (sum_after n es k) ≡ true
  all_true h k = go (leb k (length es)) refl
    where
      go : (t : Bool) → leb k (length es) ≡ t → fits (sum_after n es k) ≡ true
      go true q = all_at (length es) k (leb-true k (length es) q) h
      go false q = let l = leb-false k (length es) q in ap fits (past k (omega arith)) ∙ all_at (length es) (length es) (omega arith) h

  some_out : (m : ℕ) → all_fit n es m ≡ false → (k : ℕ) × ((k ≤ m) × (fits (sum_after n es k) ≡ false))
  unfolding all_fit
  some_out zero h = absurd (false≢true (sym h))
  some_out (suc m) h = go (all_fit n es m) refl h (some_out m)
    where
      go : (t : Bool) → all_fit n es m ≡ t → t && fits (sum_after n es (suc m)) ≡ false
          → (all_fit n es m ≡ false → (k : ℕ) × ((k ≤ m) × (fits (sum_after n es k) ≡ false)))
          → (k : ℕ) × ((k ≤ suc m) × (fits (sum_after n es k) ≡ false))
      go true q w i = (suc m, (omega arith, w))
      go false q w i = let r = i q in (r.0, (omega (arith, r.1.0), r.1.1))

  -- the lot by its test
  lot_true : (s : Sale) → lot_of n es ≡ Some s → (all_fit n es (length es) ≡ true) × ((s.sum ≡ sum_over n es) × (s.left ≡ left_of n es))
  unfolding lot_of
  lot_true s h = go (all_fit n es (length es)) refl h
    where
      go : (t : Bool) → all_fit n es (length es) ≡ t
          → cond {A = Option Sale} t (Some (record { sum = sum_over n es; left = left_of n es })) None ≡ Some s
          → (all_fit n es (length es) ≡ true) × ((s.sum ≡ sum_over n es) × (s.left ≡ left_of n es))
      go true q w = let e : s ≡ record { sum = sum_over n es; left = left_of n es } = cc in (q, (ap (λ (x : Sale). x.sum) e, ap (λ (x : Sale). x.left) e))
      go false q w = let z : ◌≡◌ {A = ℕ} 0 1 = cc in absurd (omega arith)

  lot_false : lot_of n es ≡ None → all_fit n es (length es) ≡ false
  unfolding lot_of
  lot_false h = go (all_fit n es (length es)) refl h
    where
      go : (t : Bool) → all_fit n es (length es) ≡ t
          → cond {A = Option Sale} t (Some (record { sum = sum_over n es; left = left_of n es })) None ≡ None
          → all_fit n es (length es) ≡ false
      go true q w = let z : ◌≡◌ {A = ℕ} 0 1 = cc in absurd (omega arith)
      go false q w = q

  refuses : (k : ℕ) → fits (sum_after n es k) ≡ false → lot_of n es ≡ None
  unfolding lot_of
  refuses k h = go (all_fit n es (length es)) refl
    where
      go : (t : Bool) → all_fit n es (length es) ≡ t
          → cond {A = Option Sale} (all_fit n es (length es)) (Some (record { sum = sum_over n es; left = left_of n es })) None ≡ None
      go true q = absurd (false≢true (sym h ∙ all_true q k))
      go false q = rw q

pub lots_are_exact : LotsAreExact
lots_are_exact n es =
    record {
      conserved = conserved n es;
      in_order = in_order n es;
      used_up = used_up n es;
      grows = grows n es;
      given = λ s h. (lot_true n es s h).1;
      fit = λ s h. all_true n es (lot_true n es s h).0;
      refused = λ h. some_out n es (length es) (lot_false n es h);
      refuses = refuses n es;
      whole = whole n es;
    }
