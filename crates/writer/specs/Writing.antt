-- What the writer answers, and what it leaves (document 01, "Quote and writing"; answers 0 and 25).
use Rattle.std.specs.Prelude.{ℕ, List, [], ◌∷◌, cond, leb, length}
use Rattle.std.proofs.lemmas.List.Edits.{sets}
use Rattle.text.specs.Text.{decimal}
use Rattle.chain.specs.Fields.{Field, field}
use Rattle.frame.specs.Frames.{begin}
use Rattle.book.specs.Canonical.{lists_in}
use Rattle.book.specs.declared.Book.{Book}
use Rattle.snapshot.specs.Snapshot.{Letter, snapshot_bytes}

-- What a writing answers: 0 and the message's length, or 25 and 0.
pub record Written : Type 0 where
  pub answer : ℕ
  pub bytes : ℕ

-- The bytes of a book's snapshot.
abbrev pub page_of : ℕ → Letter → ℕ → ℕ → Book → List ℕ
page_of depth l id last book = snapshot_bytes depth l id last (lists_in book)

-- 0 and the message's length; 25, and length 0, where the output is too short for the message.
unfoldable pub written_of : List ℕ → List ℕ → Written
written_of msg out = cond (leb (length msg) (length out)) (record { answer = 0; bytes = length msg }) (record { answer = 25; bytes = 0 })

-- The message first and later bytes unchanged; with 25 all as it was.
unfoldable pub out_after : List ℕ → List ℕ → List ℕ
out_after msg out = cond (leb (length msg) (length out)) (sets out 0 msg) out

-- ---- what the code writes in one piece
-- 8, and 9 with a length
abbrev pub opening_fields : ℕ → List Field
opening_fields n = field 8 begin ∷ field 9 (decimal n) ∷ []
