-- One turn of the loop that takes one side of a W: the places made so far, and those to come, make the whole side.
use mathlib.Core.Path.{◌≡◌, refl, sym, ap, ◌∙◌}
use mathlib.Core.Bool.{true, false}
use mathlib.Core.List.{List, [], ◌∷◌, ◌++◌, append-nil, append_assoc}
use Prim.Native.Nat.{ℕ, zero, suc, ◌+◌, ◌≤◌, ◌<◌}
use native.Mathlib.Nat.{zero-add}
use native.Mathlib.Numerals.{add-one}
use native.Mathlib.Omega.{arith}
use lib.Dec.{eqb}
use lib.ListN.{length, take, drop, set, replicate, length-set}
use lib.Seq.{take_all, take-suc-set, length-take-le}
use Rattle.book.specs.declared.Entry.{Entry}
use Rattle.book.specs.declared.Side.{Side}
use Rattle.book.specs.declared.Update.{Update}
use Rattle.book.specs.Sides.{no_entry, pad}
use Rattle.book.specs.Canonical.{side_of}
use Rattle.book.proofs.Padding.{cons, pad_all, pad_whole}
use Rattle.cells.specs.Cells.{tab}
use Rattle.cells.proofs.Tables.{tab_turn}
use Rattle.board.specs.Snapshot.{entries_of}

pub record Shows (places : List Entry) (n : ℕ) (rest total : List Entry) : Type 0 where
  pub full : length places ≡ 20
  pub kept : pad 20 (take n places) ≡ places
  pub makes : pad 20 (take n places ++ rest) ≡ pad 20 total
  pub counts : n + length rest ≡ length total

pub shows_none : (total : List Entry) → Shows (replicate 20 no_entry) 0 total total
unfolding pad
shows_none total = record { full = refl; kept = refl; makes = refl; counts = zero-add (length total) }

-- an entry past the twentieth
pub shows_over : (places : List Entry) (n : ℕ) (e : Entry) (rest total : List Entry) → 20 ≤ n → Shows places n (e ∷ rest) total → Shows places (n + 1) rest total
shows_over places n e rest total h s =
    let f = s.full in
    let a : take n places ≡ places = take_all n places (omega arith) in
    let b : take (n + 1) places ≡ places = take_all (n + 1) places (omega arith) in
    let m : pad 20 (places ++ e ∷ rest) ≡ pad 20 total = rw a at s.makes in
    let c = s.counts in
    record {
      full = f;
      kept = rw b (pad_whole 20 places f);
      makes = rw b (pad_all 20 places rest f ∙ sym (pad_all 20 places (e ∷ rest) f) ∙ m);
      counts = omega arith;
    }

set_pad : (k : ℕ) (l : List Entry) (e : Entry) → set (pad k l) (length l) e ≡ pad k (l ++ e ∷ [])
unfolding pad
set_pad zero l e = refl
set_pad (suc k) [] e = refl
set_pad (suc k) (x ∷ l) e = ap (cons x) (set_pad k l e)

-- an entry that takes the next place
pub shows_put : (places : List Entry) (n : ℕ) (e : Entry) (rest total : List Entry) → n < 20 → Shows places n (e ∷ rest) total
    → Shows (set places n e) (n + 1) rest total
shows_put places n e rest total h s =
    let f = s.full in
    let c = s.counts in
    let l = take n places in
    let a : take (n + 1) (set places n e) ≡ l ++ e ∷ [] = rw (add-one, take-suc-set places n e (omega arith)) in
    let z : length l ≡ n = length-take-le n places (omega arith) in
    let k : pad 20 (l ++ e ∷ []) ≡ set places n e = sym (set_pad 20 l e) ∙ rw (s.kept, z) in
    record {
      full = length-set places n e ∙ f;
      kept = rw a k;
      makes = rw (a, append_assoc l (e ∷ []) rest) s.makes;
      counts = omega arith;
    }

side_by : {a b : List Entry} {n m : ℕ} → a ≡ b → n ≡ m → ◌≡◌ {A = Side} (record { places = a; held = n }) (record { places = b; held = m })
side_by h g = cc

pub shows_end : (places : List Entry) (n : ℕ) (total : List Entry) → Shows places n [] total → ◌≡◌ {A = Side} (record { places = places; held = n }) (side_of total)
shows_end places n total s =
    let c = s.counts in
    let m : pad 20 (take n places) ≡ pad 20 total = rw append-nil at s.makes in
    side_by (sym s.kept ∙ m) (omega arith)

-- the entries of a side in what is left of a message
module _ (side : ℕ) (f : ℕ → Update) (n i : ℕ) (h : i < n) where
  pub entries_pass : eqb (f i).what side ≡ false → entries_of side (drop i (tab f n)) ≡ entries_of side (drop (i + 1) (tab f n))
  unfolding entries_of
  entries_pass e = rw (tab_turn f n i h, e)

  pub entries_take : eqb (f i).what side ≡ true → entries_of side (drop i (tab f n)) ≡ (f i).entry ∷ entries_of side (drop (i + 1) (tab f n))
  unfolding entries_of
  entries_take e = rw (tab_turn f n i h, e)
