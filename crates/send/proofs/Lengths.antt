-- A snapshot's length is bounded, so that it and the answer fit one number.
use mathlib.Core.Path.{◌≡◌, refl}
use mathlib.Core.Bool.{Bool, true, false}
use mathlib.Core.List.{List, [], ◌∷◌, ◌++◌}
use Prim.Native.Nat.{ℕ, ◌+◌, ◌*◌, ◌≤◌}
use native.Mathlib.Nat.{suc-mul}
use native.Mathlib.Omega.{arith}
use lib.Dec.{eqb}
use lib.ListN.{length, length-append}
use Rattle.moment.specs.Moments.{day_part, time_part}
use Rattle.moment.proofs.Texts.{length_date, length_time, length_moment}
use Rattle.chain.specs.Fields.{Field}
use Rattle.chain.specs.Bytes.{field_bytes, bytes_of}
use Rattle.chain.proofs.Inverse.{length_field}
use Rattle.book.specs.Rules.{Lists}
use Rattle.book.specs.declared.Entry.{Entry}
use Rattle.pen.specs.Values.{width_of_lem, decimal_most, price_most, id_most}
use Rattle.line.specs.Entries.{by_field, entry_fields}
use Rattle.snapshot.specs.Snapshot.{Letter, side_fields, head_fields, snapshot_fields, snapshot_bytes}
use Rattle.writer.proofs.Pages.{long}

-- ---- values

by_most : (t : Bool) (e : Entry) → length (by_field t e).text ≤ 18
by_most true e = omega (arith, id_most e.by e.more)
by_most false e = decimal_most e.by

-- ---- fields

-- a field takes at most 20 bytes beside its value
abbrev room : List Field → ℕ
room [] = 0
room (f ∷ fs) = 20 + length f.text + room fs

room_append : (fs gs : List Field) → room (fs ++ gs) ≡ room fs + room gs
room_append [] gs = omega arith
room_append (f ∷ fs) gs = omega (arith, room_append fs gs)

bytes_most : (fs : List Field) → length (bytes_of fs) ≤ room fs
unfolding bytes_of
bytes_most [] = omega arith
bytes_most (f ∷ fs) = omega (arith, length-append (field_bytes f) (bytes_of fs), length_field f, decimal_most f.tag, bytes_most fs)

entry_most : (depth sort place : ℕ) (e : Entry) → room (entry_fields depth sort place e) ≤ 250
entry_most depth sort place e =
    omega (
      arith,
      price_most e.price,
      decimal_most e.size,
      by_most (eqb depth 0) e,
      length_date (day_part e.moment),
      length_time (time_part e.moment),
      decimal_most place,
    )

side_most : (depth sort place : ℕ) (es : List Entry) → room (side_fields depth sort place es) ≤ length es * 250
unfolding side_fields
side_most depth sort place [] = omega arith
side_most depth sort place (e ∷ es) =
    omega (
      arith,
      room_append (entry_fields depth sort place e) (side_fields depth sort (place + 1) es),
      entry_most depth sort place e,
      side_most depth sort (place + 1) es,
      suc-mul (length es) 250,
    )

head_most : (l : Letter) (id H n : ℕ) → length l.sender ≤ 16 → length l.target ≤ 16 → room (head_fields l id H n) ≤ 400
head_most l id H n s t =
    omega (arith, decimal_most l.k, length_moment l.time, decimal_most id, decimal_most H, decimal_most l.m, decimal_most n)

-- ---- the message

pub snapshot_most : (depth : ℕ) (l : Letter) (id H : ℕ) (b : Lists) → length l.sender ≤ 16 → length l.target ≤ 16 → length b.bids ≤ 20 → length b.offers ≤ 20
    → length (snapshot_bytes depth l id H b) ≤ 12000
unfolding snapshot_bytes snapshot_fields
snapshot_most depth l id H b s t p q =
    let n = length b.bids + length b.offers in
    let bids = side_fields depth 48 1 b.bids in
    let offers = side_fields depth 49 1 b.offers in
    let fs = head_fields l id H n ++ (bids ++ offers) in
    omega (
      arith,
      long fs (length (bytes_of fs)) refl,
      width_of_lem (length (bytes_of fs)),
      bytes_most fs,
      room_append (head_fields l id H n) (bids ++ offers),
      room_append bids offers,
      head_most l id H n s t,
      side_most depth 48 1 b.bids,
      side_most depth 49 1 b.offers,
    )
