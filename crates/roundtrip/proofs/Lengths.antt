-- A snapshot has `least_bytes` to `most_bytes` bytes, and its fields are fair. Assumes nothing.
use mathlib.Core.Path.{◌≡◌, refl}
use mathlib.Core.Bool.{Bool, true, false}
use mathlib.Core.List.{List, [], ◌∷◌}
use Prim.Native.Nat.{ℕ, ◌+◌, ◌-◌, ◌*◌, ◌^◌, ◌≤◌, ◌<◌, min}
use native.Mathlib.Omega.{arith}
use borrow.Author.Tests.{ltb-true, ltb-false}
use lib.Dec.{ltb, eqb}
use lib.ListN.{length, length-append}
use Rattle.text.specs.Text.{width_of, decimal}
use Rattle.text.proofs.Written.{width_in, width_more}
use Rattle.price.specs.PriceText.{most_text}
use Rattle.moment.specs.Moments.{day_part, time_part}
use Rattle.chain.specs.Fields.{Field}
use Rattle.chain.specs.Bytes.{bytes_of, all_fair}
use Rattle.frame.proofs.Well.{bytes_append, fair_append}
use Rattle.book.specs.Canonical.{All}
use Rattle.book.specs.Rules.{Lists}
use Rattle.book.specs.declared.Entry.{Entry}
use Rattle.board.specs.Ranges.{entry_fine}
use Rattle.line.specs.Entries.{by_field, entry_fields}
use Rattle.snapshot.specs.Snapshot.{Letter, side_fields, head_fields, snapshot_fields, snapshot_bytes}
use Rattle.writer.proofs.Pages.{long}
use Rattle.roundtrip.specs.ReadBack.{InRange, Sized}
use Rattle.roundtrip.proofs.Texts.{Text, text_decimal, text_price, text_date, text_time, text_moment, text_id, text_name}
use Rattle.roundtrip.proofs.Runs.{Run, no_field, tag_of_2, tag_of_3, runs}
use Rattle.roundtrip.proofs.Fine.{By, Fine, fine_is}

-- ---- an entry
-- a byte that is no SOH
byte : (x : ℕ) → eqb x 1 ≡ false → Text 1 1 (x ∷ [])
byte x h = record { some = omega arith; least = omega arith; most = omega arith; free = rw h }

by_run : (t : Bool) (e : Entry) (b : ℕ) (fs : List Field) → By t e.by e.more → Run 0 b fs → Run 0 (20 + b) (by_field t e ∷ fs)
by_run true e b fs h r =
    let x = tag_of_2 37 (omega arith) (omega arith) (text_id e.by e.more h) r in
    record { fair = x.fair; least = omega arith; most = omega (arith, x.most) }
by_run false e b fs h r =
    let x = tag_of_3 346 (omega arith) (omega arith) (text_decimal 5 e.by (omega arith) (omega arith) (omega (arith, h.high))) r in
    record { fair = x.fair; least = omega arith; most = omega (arith, x.most) }

-- an entry but for the digits of its place
abbrev most_entry : ℕ
most_entry = 83 + most_text

-- a place of w digits
entry_run : (depth sort place : ℕ) (e : Entry) (w : ℕ) → eqb sort 1 ≡ false → Fine depth e → 1 ≤ w → w ≤ 18 → place < 10 ^ w
    → Run 0 (most_entry + w) (entry_fields depth sort place e)
entry_run depth sort place e w s f l h q =
    let p = tag_of_3 290 (omega arith) (omega arith) (text_decimal w place l h q) no_field in
    let t = tag_of_3 273 (omega arith) (omega arith) (text_time (time_part e.moment)) p in
    let d = tag_of_3 272 (omega arith) (omega arith) (text_date (day_part e.moment)) t in
    let b = by_run (eqb depth 0) e _ _ f.by (record { fair = d.fair; least = omega arith; most = d.most }) in
    let z = tag_of_3 271 (omega arith) (omega arith) (text_decimal 12 e.size (omega arith) (omega arith) (omega (arith, f.size_high))) b in
    let y = tag_of_3 270 (omega arith) (omega arith) (text_price e.price f.price) z in
    let x = tag_of_3 269 (omega arith) (omega arith) (byte sort s) y in
    record { fair = x.fair; least = omega arith; most = omega (arith, x.most) }

-- ---- a side: the places below 10 have one digit
abbrev most_side : ℕ
most_side = (most_entry + 2) * 20 - 9

pub record Side (depth sort place : ℕ) (es : List Entry) : Type 0 where
  pub fair : all_fair (side_fields depth sort place es) ≡ true
  pub most : length (bytes_of (side_fields depth sort place es)) + min (length es) (10 - place) ≤ (most_entry + 2) * length es

side_run : (depth sort place : ℕ) (es : List Entry) → eqb sort 1 ≡ false → All (λ e. entry_fine depth e ≡ true) es → place + length es ≤ 100
    → Side depth sort place es
unfolding side_fields bytes_of
side_run depth sort place [] s h l = record { fair = refl; most = none }
  where
    none : length (bytes_of []) + min 0 (10 - place) ≤ (most_entry + 2) * 0
    none = omega arith
side_run depth sort place (e ∷ es) s h l = go (ltb place 10) refl (fine_is depth e h.0) (side_run depth sort (place + 1) es s h.1 (omega arith))
  where
    go : (t : Bool) → ltb place 10 ≡ t → Fine depth e → Side depth sort (place + 1) es → Side depth sort place (e ∷ es)
    go true q f r =
        let p = ltb-true place 10 q in
        let x = entry_run depth sort place e 1 s f (omega arith) (omega arith) (omega arith) in
        record {
          fair = fair_append (entry_fields depth sort place e) (side_fields depth sort (place + 1) es) x.fair r.fair;
          most = rw (bytes_append (entry_fields depth sort place e), length-append) (omega (arith, x.most, r.most));
        }
    go false q f r =
        let p = ltb-false place 10 q in
        let x = entry_run depth sort place e 2 s f (omega arith) (omega arith) (omega arith) in
        record {
          fair = fair_append (entry_fields depth sort place e) (side_fields depth sort (place + 1) es) x.fair r.fair;
          most = rw (bytes_append (entry_fields depth sort place e), length-append) (omega (arith, x.most, r.most));
        }

side_all : (depth sort : ℕ) (es : List Entry) → eqb sort 1 ≡ false → All (λ e. entry_fine depth e ≡ true) es → length es ≤ 20
    → Run 0 most_side (side_fields depth sort 1 es)
side_all depth sort es s h l =
    let x = side_run depth sort 1 es s h (omega arith) in
    record { fair = x.fair; least = omega arith; most = omega (arith, x.most) }

-- ---- what stands before the entries
two_digits : (n : ℕ) → n ≤ 99 → Text 1 2 (decimal n)
two_digits n h = text_decimal 2 n (omega arith) (omega arith) (omega arith)

module _ (depth : ℕ) (l : Letter) (who H : ℕ) (b : Lists) (r : InRange depth l who H b) where
  head_run : Run 82 141 (head_fields l who H (length b.bids + length b.offers))
  head_run =
      let p = tag_of_3 268 (omega arith) (omega arith) (two_digits (length b.bids + length b.offers) (omega (arith, r.bids.room, r.offers.room))) no_field in
      let o = tag_of_3 911 (omega arith) (omega arith) (two_digits l.m (omega (arith, r.m_high))) p in
      let n = tag_of_3 369 (omega arith) (omega arith) (text_decimal 10 H (omega arith) (omega arith) (omega (arith, r.last))) o in
      let m = tag_of_3 207 (omega arith) (omega arith) (text_bvmf) n in
      let i = tag_of_2 22 (omega arith) (omega arith) (byte 56 refl) m in
      let h = tag_of_2 48 (omega arith) (omega arith) (text_decimal 18 who (omega arith) (omega arith) (omega (arith, r.id_high))) i in
      let g = tag_of_2 52 (omega arith) (omega arith) (text_moment l.time) h in
      let f = tag_of_2 34 (omega arith) (omega arith) (two_digits l.k (omega (arith, r.k_high, r.m_high))) g in
      let e = tag_of_2 56 (omega arith) (omega arith) (text_name l.target r.target) f in
      let d = tag_of_2 49 (omega arith) (omega arith) (text_name l.sender r.sender) e in
      tag_of_2 35 (omega arith) (omega arith) (byte 87 refl) d
    where
      text_bvmf : Text 4 4 (66 ∷ 86 ∷ 77 ∷ 70 ∷ [])
      text_bvmf = record { some = omega arith; least = omega arith; most = omega arith; free = refl }

  -- all of it from 35 up to 10
  pub fields_run : Run 82 (141 + (most_side + most_side)) (snapshot_fields depth l who H b)
  unfolding snapshot_fields
  fields_run =
      runs head_run (runs (side_all depth 48 b.bids refl r.bids.entries r.bids.room) (side_all depth 49 b.offers refl r.offers.entries r.offers.room))

  pub page_sized : Sized (snapshot_bytes depth l who H b)
  unfolding snapshot_bytes width_of
  page_sized =
      let fs = snapshot_fields depth l who H b in
      let n = length (bytes_of fs) in
      let e = long fs n refl in
      let x = width_in 4 n (omega arith) (omega arith) (omega (arith, fields_run.most)) in
      let y = width_more 17 n 1 (omega (arith, fields_run.most)) (omega (arith, fields_run.least)) in
      record { least = omega (arith, e, y, fields_run.least); most = omega (arith, e, x, fields_run.most) }
