-- A book written as a snapshot reads back as the same book. Assumes nothing.
use Rattle.std.specs.Prelude.{Some}
use mathlib.Core.Path.{◌≡◌, refl}
use mathlib.Core.List.{List, [], ◌∷◌}
use Prim.Native.Nat.{ℕ}
use native.Mathlib.Omega.{arith}
use lib.ListN.{length, take}
use Rattle.chain.specs.Fields.{field}
use Rattle.chain.specs.Bytes.{fair, all_fair}
use Rattle.frame.proofs.Messages.{Back, frame_back}
use Rattle.digits.proofs.Width.{both}
use Rattle.book.specs.Canonical.{lists_in}
use Rattle.book.specs.Rules.{Lists}
use Rattle.book.specs.declared.Book.{Book}
use Rattle.message.specs.Message.{snapshot}
use Rattle.lead.specs.Messages.{snapshot_of, or_bad_fields, typed_as}
use Rattle.fields.specs.Messages.{message_in}
use Rattle.snapshot.specs.Snapshot.{Letter, snapshot_fields, snapshot_bytes}
use Rattle.writer.specs.Writing.{page_of, written_of, out_after}
use Rattle.writer.proofs.Promise.{fits, starts}
use Rattle.roundtrip.specs.ReadBack.{InRange, ReadBack, new_of}
use Rattle.roundtrip.proofs.Lengths.{fields_run, page_sized}
use Rattle.roundtrip.proofs.Groups.{book_back, group_said, group_runs}
use Rattle.roundtrip.proofs.Heads.{head_said, body, head_tidy, head_back, group_back}

module _ (depth : ℕ) (l : Letter) (who H : ℕ) (b : Lists) (r : InRange depth l who H b) where
  -- the message frames, and the fields between 35 and 10 are those that were written
  pub page_framed : Back 87 (body depth l who H b r) (snapshot_bytes depth l who H b)
  unfolding snapshot_bytes snapshot_fields
  page_framed =
      frame_back 87 (body depth l who H b r) refl (both (fair (field 35 (87 ∷ []))) (all_fair (body depth l who H b r)) (fields_run depth l who H b r).fair).1
      (omega (arith, (page_sized depth l who H b r).most))

  page_said : snapshot_of depth (body depth l who H b r) ≡ Some (snapshot (head_said l who H) (new_of who b))
  unfolding snapshot_of
  page_said =
      rw (
        head_tidy depth l who H b r,
        head_back depth l who H b r,
        group_back depth l who H b r,
        group_said depth who b r.bids.entries r.offers.entries r.bids.room r.offers.room,
        group_runs depth who b,
      )

  pub read_back : ReadBack depth l who H b
  unfolding message_in typed_as or_bad_fields
  read_back =
      let f = page_framed in
      record { message = rw (f.frame, f.body, page_said); book = book_back who b }

-- what the writer leaves with answer 0 reads back as the book that it was given
pub written_reads_back : (depth : ℕ) (l : Letter) (who H : ℕ) (b : Book) (out : List ℕ) → InRange depth l who H (lists_in b)
    → (written_of (page_of depth l who H b) out).answer ≡ 0
    → message_in depth (take (length (page_of depth l who H b)) (out_after (page_of depth l who H b) out)) ≡ snapshot (head_said l who H) (new_of who (lists_in b))
written_reads_back depth l who H b out r e =
    let msg = page_of depth l who H b in
    rw (starts msg out (fits msg out e)) (read_back depth l who H (lists_in b) r).message
