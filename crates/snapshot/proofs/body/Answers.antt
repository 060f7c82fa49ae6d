-- What stands before the entries, the bids, the offers. Assumes nothing.
use Prim.Native.Nat.{◌+◌}
use Rattle.pen.proofs.Laws.{more_fields}
use Rattle.book.specs.Canonical.{held_in}
use Rattle.snapshot.specs.Snapshot.{side_fields, snapshot_fields}
use Rattle.snapshot.specs.Writing.{letter_of, sender_fields, book_fields}
use lib.Seq.{length-take-le}
use native.Mathlib.Omega.{arith}
use Rattle.snapshot.proofs.body.Goals as goal

pub returns : goal.returns
unfolding snapshot_fields
returns c =
    let l = c.args.letter.now in
    let s = c.args.sheet.now in
    let b = s.book.now.bids in
    let o = s.book.now.offers in
    let k = s.kept in
    let t = c.sender_part-a.ensures in
    let u = c.book_part-b.ensures in
    let v = c.side-d.ensures in
    let w = c.side.ensures in
    let entries = more_fields (side_fields s.depth 48 1 (held_in b)) (side_fields s.depth 49 1 (held_in o)) v.0 w.0 in
    let rest = more_fields (book_fields s.id s.last l.m (b.held + o.held)) _ u.0 entries in (
      rw (length-take-le b.held b.places (omega (arith, k.bids.full, k.bids.room)), length-take-le o.held o.places (omega (arith, k.offers.full, k.offers.room)))
          (more_fields (sender_fields (letter_of l)) _ t.0 rest),
      omega (arith, t.1, u.1, v.1, w.1),
    )
