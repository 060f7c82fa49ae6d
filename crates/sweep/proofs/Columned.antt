-- Laws of places tested by column, for the numbers that the code joins by `|`.
use Rattle.std.proofs.Common.{◌≡◌, ℕ, zero, suc, ◌+◌, ◌-◌, ◌*◌, ◌/◌, ◌%◌, ◌^◌, ◌<◌, ◌≤◌, Fits, w64, Bool, true, false, cond, not, ◌&&◌, ◌||◌, eqb, ltb, leb, List, get_or, refl, true≢false, arith, ltb-false, ltb-true, le-ltb, lt-ltb, eq-eqb, eqb-true, le-leb, leb-true}
use mathlib.Core.Bool.{false≢true}
use Rattle.std.specs.Prelude.{Option, Some, None, IfSome}
use lib.Bits.{bit_or, or_add_and, and_le_l, and_le_r}
use Rattle.holding.specs.Prices.{held_top}
use Rattle.board.proofs.Tested.{both, is_within}
use Rattle.sides.specs.Side.{each, all_zero, more_to, entry_scan, side_scan, room_of}
use Rattle.sides.proofs.Each.{each_of}
use Rattle.sweep.specs.declared.Columns.{Columns}
use Rattle.sweep.specs.declared.Way.{Way}
use Rattle.sweep.specs.declared.Swept.{Swept}
use Rattle.sweep.specs.Quick.{Spans, fits, joined, Ids, Alone, Stands, Joins, Keeps, few_of, Sides, Settles, settled_to}
use Rattle.cells.specs.Cells.{side_size}
use Rattle.store.specs.Layout.{side_spare}

-- what two numbers give is at least each of them
pub or_l : (a b : ℕ) → a ≤ bit_or a b
or_l a b = omega (arith, or_add_and a b, and_le_r a b)

pub or_r : (a b : ℕ) → b ≤ bit_or a b
or_r a b = omega (arith, or_add_and a b, and_le_l a b)

-- a number less `low`, wrapped, that is at most r
unwrapped : (a low x r : ℕ) → (a + low) % 2 ^ 64 ≡ x → a ≤ r → r + low < 2 ^ 64 → (low ≤ x) × (x ≤ r + low)
unwrapped a low x r e h l = (omega arith, omega arith)

pub four_spans : (xs : List ℕ) (at low a b c d : ℕ) → (a + low) % 2 ^ 64 ≡ get_or xs at 0 → (b + low) % 2 ^ 64 ≡ get_or xs (at + 5) 0
    → (c + low) % 2 ^ 64 ≡ get_or xs (at + 10) 0 → (d + low) % 2 ^ 64 ≡ get_or xs (at + 15) 0 → Spans xs at low (bit_or (bit_or a b) (bit_or c d))
four_spans xs at low a b c d ea eb ec ed = go
  where
    r : ℕ
    r = bit_or (bit_or a b) (bit_or c d)

    la : a ≤ r
    la = omega (arith, or_l a b, or_l (bit_or a b) (bit_or c d))

    lb : b ≤ r
    lb = omega (arith, or_r a b, or_l (bit_or a b) (bit_or c d))

    lc : c ≤ r
    lc = omega (arith, or_l c d, or_r (bit_or a b) (bit_or c d))

    ld : d ≤ r
    ld = omega (arith, or_r c d, or_r (bit_or a b) (bit_or c d))

    go : Spans xs at low r
    go zero l h = let q : at + 0 * 5 ≡ at = omega arith in rw q (unwrapped a low (get_or xs at 0) r ea la h)
    go (suc zero) l h = let q : at + 1 * 5 ≡ at + 5 = omega arith in rw q (unwrapped b low (get_or xs (at + 5) 0) r eb lb h)
    go (suc (suc zero)) l h = let q : at + 2 * 5 ≡ at + 10 = omega arith in rw q (unwrapped c low (get_or xs (at + 10) 0) r ec lc h)
    go (suc (suc (suc zero))) l h = let q : at + 3 * 5 ≡ at + 15 = omega arith in rw q (unwrapped d low (get_or xs (at + 15) 0) r ed ld h)
    go (suc (suc (suc (suc k)))) l h = absurd (omega arith)

-- a number less `low`, wrapped, is the number again with `low`
pub wrapped : (x low : ℕ) → Fits w64 x → Fits w64 low → ((x + (2 ^ 64 - low)) % 2 ^ 64 + low) % 2 ^ 64 ≡ x
wrapped x low h l = omega arith

-- columns that fit, as facts and back
pub record Fitting (c : Columns) : Type 0 where
  pub price : c.price ≤ held_top
  pub size : c.size < 999999999999
  pub moment : c.moment < 320829012000000
  pub even : c.even ≡ 0
  pub odd : c.odd ≡ 0

pub fit_facts : (c : Columns) → fits c ≡ true → Fitting c
unfolding fits
fit_facts c e =
    let p = leb c.price held_top in
    let s = ltb c.size 999999999999 in
    let t = ltb c.moment 320829012000000 in
    let v = eqb c.even 0 in
    let o = eqb c.odd 0 in
    let e4 = both (p && s && t && v) o e in
    let e3 = both (p && s && t) v e4.0 in
    let e2 = both (p && s) t e3.0 in
    let e1 = both p s e2.0 in
    record {
      price = leb-true c.price held_top e1.0;
      size = ltb-true c.size 999999999999 e1.1;
      moment = ltb-true c.moment 320829012000000 e2.1;
      even = eqb-true c.even 0 e3.1;
      odd = eqb-true c.odd 0 e4.1;
    }

pub facts_fit : (c : Columns) → Fitting c → fits c ≡ true
unfolding fits
facts_fit c f =
    rw (
      le-leb c.price held_top f.price,
      lt-ltb c.size 999999999999 f.size,
      lt-ltb c.moment 320829012000000 f.moment,
      eq-eqb c.even 0 f.even,
      eq-eqb c.odd 0 f.odd,
    )

-- four places joined to what was there. Where words are mixed, e has those of the first and the third that stand beside a short first
-- word, and o those of the others.
module _ (xs : List ℕ) (at low full : ℕ) (mixed : Bool) (c d : Columns) where
  pub joins_four : Spans xs at 0 d.price → Spans xs (at + 1) 1 d.size → Spans xs (at + 2) low d.by → Spans xs (at + 3) 0 d.more
      → Spans xs (at + 4) 0 d.moment → (mixed ≡ true → d.even ≡ 0 → Alone full xs at × Alone full xs (at + 10))
      → (mixed ≡ true → d.odd ≡ 0 → Alone full xs (at + 5) × Alone full xs (at + 5 + 10)) → Joins xs at 4 low full mixed c (joined c d)
  joins_four P S B M T E O = record { columns = columns; ids = ids; places = places }
    where
      r : Columns
      r = joined c d

      columns : fits r ≡ true → fits c ≡ true
      columns e =
          let f = fit_facts r e in
          let fp = f.price in
          let fs = f.size in
          let ft = f.moment in
          let fe = f.even in
          let fo = f.odd in
          facts_fit c (record {
            price = omega (arith, or_l c.price d.price, fp);
            size = omega (arith, or_l c.size d.size, fs);
            moment = omega (arith, or_l c.moment d.moment, ft);
            even = omega (arith, or_l c.even d.even, fe);
            odd = omega (arith, or_l c.odd d.odd, fo);
          })

      ids : (most top : ℕ) → Ids low most top r → Ids low most top c
      ids most top i = (omega (arith, or_l c.by d.by, i.0), omega (arith, or_l c.more d.more, i.1))

      alone : fits r ≡ true → mixed ≡ true → (k : ℕ) → k < 4 → Alone full xs (at + k * 5)
      alone g mx k l = go k l
        where
          ez : d.even ≡ 0
          ez = let fe = (fit_facts r g).even in omega (arith, or_r c.even d.even, fe)

          oz : d.odd ≡ 0
          oz = let fo = (fit_facts r g).odd in omega (arith, or_r c.odd d.odd, fo)

          go : (k : ℕ) → k < 4 → Alone full xs (at + k * 5)
          go zero l = let q : at + 0 * 5 ≡ at = omega arith in rw q (E mx ez).0
          go (suc zero) l = let q : at + 1 * 5 ≡ at + 5 = omega arith in rw q (O mx oz).0
          go (suc (suc zero)) l = let q : at + 2 * 5 ≡ at + 10 = omega arith in rw q (E mx ez).1
          go (suc (suc (suc zero))) l = let q : at + 3 * 5 ≡ at + 5 + 10 = omega arith in rw q (O mx oz).1
          go (suc (suc (suc (suc k)))) l = absurd (omega arith)

      places : (most top : ℕ) → most < 2 ^ 64 → top < 2 ^ 64 → fits r ≡ true → Ids low most top r → (k : ℕ) → k < 4
          → Stands low most top full mixed xs (at + k * 5)
      places most top lm lt g i k l =
          let f = fit_facts r g in
          let fp = f.price in
          let fs = f.size in
          let ft = f.moment in
          let ib = i.0 in
          let im = i.1 in
          let p1 = or_r c.price d.price in
          let s1 = or_r c.size d.size in
          let b1 = or_r c.by d.by in
          let m1 = or_r c.more d.more in
          let t1 = or_r c.moment d.moment in
          let q1 : at + 1 + k * 5 ≡ at + k * 5 + 1 = omega arith in
          let q2 : at + 2 + k * 5 ≡ at + k * 5 + 2 = omega arith in
          let q3 : at + 3 + k * 5 ≡ at + k * 5 + 3 = omega arith in
          let q4 : at + 4 + k * 5 ≡ at + k * 5 + 4 = omega arith in
          let hp = P k l (omega (arith, p1, fp)) in
          let hs = rw q1 at (S k l (omega (arith, s1, fs))) in
          let hb = rw q2 at (B k l (omega (arith, b1, ib, lm))) in
          let hm = rw q3 at (M k l (omega (arith, m1, im, lt))) in
          let ht = rw q4 at (T k l (omega (arith, t1, ft))) in
          record {
            price = omega (arith, hp.1, p1, fp);
            size = (hs.0, omega (arith, hs.1, s1, fs));
            by = (hb.0, omega (arith, hb.1, b1, ib));
            more = omega (arith, hm.1, m1, im);
            moment = omega (arith, ht.1, t1, ft);
            alone = λ mx. alone g mx k l;
          }

-- a const parameter that is false, as a number, where it is true
pub not_mixed : {P : Type 0} (m : ℕ) → m ≡ 0 → not (eqb m 0) ≡ true → P
not_mixed m e t = absurd (false≢true (rw e at t))

pub joins_none : (xs : List ℕ) (at low full : ℕ) (mixed : Bool) (c : Columns) → Joins xs at 0 low full mixed c c
joins_none xs at low full mixed c =
    record { columns = λ e. e; ids = λ most top i. i; places = λ most top lm lt e i k l. absurd (omega (arith, l)) }

-- four places more, from the n-th on, where those before it are joined
pub joins_more : (xs : List ℕ) (at m n low full : ℕ) (mixed : Bool) (c r t : Columns) → n ≤ m → Joins xs at m low full mixed c r
    → Joins xs (at + n * 5) 4 low full mixed r t → Joins xs at (n + 4) low full mixed c t
joins_more xs at m n low full mixed c r t h A B =
    record {
      columns = λ e. A.columns (B.columns e);
      ids = λ most top i. A.ids most top (B.ids most top i);
      places = λ most top lm lt e i k l. go most top lm lt e i k l (ltb k n) refl;
    }
  where
    go : (most top : ℕ) → most < 2 ^ 64 → top < 2 ^ 64 → fits t ≡ true → Ids low most top t → (k : ℕ) → k < n + 4 → (b : Bool) → ltb k n ≡ b
        → Stands low most top full mixed xs (at + k * 5)
    go most top lm lt e i k l true q = A.places most top lm lt (B.columns e) (B.ids most top i) k (omega (arith, h, ltb-true k n q))
    go most top lm lt e i k l false q =
        let g = ltb-false k n q in
        let w : at + n * 5 + (k - n) * 5 ≡ at + k * 5 = omega (arith, g) in
        rw w at (B.places most top lm lt e i (k - n) (omega (arith, g, l)))

-- an entry that lies within the limits of a way is used
pub used : (w : Way) (most full : ℕ) (xs : List ℕ) (at : ℕ) → Keeps w most full → Stands w.low most w.top full w.mixed xs at
    → entry_scan most full xs at ≡ true
unfolding entry_scan
used w most full xs at L s =
    let more = L.4 (get_or xs (at + 2) 0) (get_or xs (at + 3) 0) s.by.0 s.more s.alone in
    let least = L.0 in
    let low = s.by.0 in
    rw (
      le-leb (get_or xs at 0) held_top s.price,
      is_within 1 999999999999 (get_or xs (at + 1) 0) s.size.0 s.size.1,
      is_within 1 most (get_or xs (at + 2) 0) (omega (arith, least, low)) s.by.1,
      le-leb (get_or xs (at + 3) 0) (more_to most full (get_or xs (at + 2) 0)) more,
      lt-ltb (get_or xs (at + 4) 0) 320829012000000 s.moment,
    )

-- ids that go the way, as the code tests it
pub goes : (low most top : ℕ) (c : Columns) → low ≤ most → ltb (most - low) c.by || ltb top c.more ≡ false → Ids low most top c
goes low most top c h e = go (ltb (most - low) c.by) (ltb top c.more) refl refl e
  where
    go : (s t : Bool) → ltb (most - low) c.by ≡ s → ltb top c.more ≡ t → s || t ≡ false → Ids low most top c
    go true t p q e = absurd (true≢false e)
    go false true p q e = absurd (true≢false e)
    go false false p q e =
        let hb = ltb-false (most - low) c.by p in
        let hm = ltb-false top c.more q in
        (omega (arith, hb, h), hm)

-- n places are all too few for a four, or none of them is
pub few_all : (n : ℕ) → n < 4 → few_of n ≡ n
unfolding few_of
few_all n h = rw (lt-ltb n 4 h)

pub few_none : (n : ℕ) → 4 ≤ n → few_of n ≡ 0
unfolding few_of
few_none n h = rw (le-ltb n 4 h)

-- one side more
pub side_more : (P : ℕ → Type 0) (from j : ℕ) → ((i : ℕ) → from ≤ i → i < j → P i) → P j → (i : ℕ) → from ≤ i → i < j + 1 → P i
side_more P from j A p i f l = go (ltb i j) refl
  where
    go : (b : Bool) → ltb i j ≡ b → P i
    go true e = A i f (ltb-true i j e)
    go false e = let h = ltb-false i j e in let q : j ≡ i = omega (arith, h, l) in rw q at p

-- the limits of the three ways: no id has a second word; the first word of each has 8 bytes; words are mixed
pub limits_short : (most full : ℕ) → 1 ≤ most → most < 2 ^ 64 → Keeps (record { low = 1; top = 0; mixed = false }) most full
limits_short most full h l = (omega arith, h, l, omega arith, λ b m lb lm a. omega (arith, lm))

pub limits_long : (most full : ℕ) → 1 ≤ full → full ≤ most → most < 2 ^ 64 → Keeps (record { low = full; top = most; mixed = false }) most full
unfolding more_to
limits_long most full h g l = (h, g, l, l, λ b m lb lm a. rw (le-ltb b full lb) lm)

pub limits_mixed : (most full : ℕ) → 1 ≤ most → most < 2 ^ 64 → Keeps (record { low = 1; top = most; mixed = true }) most full
unfolding more_to
limits_mixed most full h l = (omega arith, h, l, l, λ b m lb lm a. go b m lm (a refl) (ltb b full) refl)
  where
    go : (b m : ℕ) → m ≤ most → (b < full → m ≡ 0) → (t : Bool) → ltb b full ≡ t → m ≤ cond (ltb b full) 0 most
    go b m lm a true e = let z = a (ltb-true b full e) in rw e (omega (arith, z))
    go b m lm a false e = rw e lm

-- a side whose places are used, whether in fours or too few for one, with nothing behind them
pub side_fine_lem : (room most full : ℕ) (xs : List ℕ) (at : ℕ) → get_or xs at 0 ≤ room
    → ((k : ℕ) → k < get_or xs at 0 - few_of (get_or xs at 0) → entry_scan most full xs (at + 1 + k * 5) ≡ true)
    → each (λ (k : ℕ). entry_scan most full xs (at + 1 + k * 5)) (few_of (get_or xs at 0)) ≡ true
    → all_zero xs (at + 1 + get_or xs at 0 * 5) (100 - get_or xs at 0 * 5) && all_zero xs (at + side_size) side_spare ≡ true → side_scan room most full xs at ≡ true
unfolding side_scan
side_fine_lem room most full xs at h A E z = rw (le-leb n room h, go (ltb n 4) refl, z)
  where
    n : ℕ
    n = get_or xs at 0

    f : ℕ → Bool
    f k = entry_scan most full xs (at + 1 + k * 5)

    go : (b : Bool) → ltb n 4 ≡ b → each f n ≡ true
    go true e = rw (few_all n (ltb-true n 4 e)) at E
    go false e =
        let q = few_none n (ltb-false n 4 e) in
        each_of f n (λ k l. A k (omega (arith, q, l)))

-- nothing stands beside a short first word where what the code joins is 0
pub alone : (full : ℕ) (xs : List ℕ) (at a : ℕ) → a ≡ cond (ltb (get_or xs (at + 2) 0) full) (get_or xs (at + 3) 0) 0 → a ≡ 0 → Alone full xs at
alone full xs at a e z l = let q = rw (lt-ltb (get_or xs (at + 2) 0) full l) at e in omega (arith, q, z)

-- what was swept settles the sides up to n, the answer of `settled`
pub settles : (w : Way) (most full marks : ℕ) (xs : List ℕ) (from n : ℕ) (s : Option Swept) → IfSome s (Settles w most full marks xs from) → Keeps w most full
    → n ≡ settled_to s from → Sides most full marks xs from n
settles w most full marks xs from n None S L e = λ j h l. absurd (omega (arith, e, h, l))
settles w most full marks xs from n (Some s) S L e = go (fits s.columns) (eqb s.rest 0) refl refl e
  where
    go : (p q : Bool) → fits s.columns ≡ p → eqb s.rest 0 ≡ q → n ≡ cond (p && q) s.upto from → Sides most full marks xs from n
    go true true f z e = λ j h l. S L f (eqb-true s.rest 0 z) j h (omega (arith, e, l))
    go true false f z e = λ j h l. absurd (omega (arith, e, h, l))
    go false q f z e = λ j h l. absurd (omega (arith, e, h, l))

-- two runs of sides, one behind the other
pub sides_join : (most full marks : ℕ) (xs : List ℕ) (m n : ℕ) → Sides most full marks xs 0 m → Sides most full marks xs m n
    → Sides most full marks xs 0 n
sides_join most full marks xs m n A B j h l = go (ltb j m) refl
  where
    go : (b : Bool) → ltb j m ≡ b → side_scan (room_of marks (j / 2)) most full xs (160 + j * 128) ≡ true
    go true e = A j h (ltb-true j m e)
    go false e = B j (ltb-false j m e) l
