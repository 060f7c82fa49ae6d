-- A book written as a snapshot (document 01, "Quote and writing"): the message as a list of fields.
use Rattle.std.specs.Prelude.{ℕ, ◌+◌, List, [], ◌∷◌, ◌++◌, length}
use Rattle.text.specs.Text.{decimal}
use Rattle.moment.specs.Moments.{moment_text}
use Rattle.chain.specs.Fields.{Field, field}
use Rattle.chain.specs.Bytes.{bytes_of}
use Rattle.frame.specs.Frames.{framed}
use Rattle.book.specs.Rules.{Lists}
use Rattle.book.specs.declared.Entry.{Entry}
use Rattle.line.specs.Entries.{entry_fields}

-- The entries of a side, from a place on.
unfoldable pub side_fields : ℕ → ℕ → ℕ → List Entry → List Field
side_fields depth sort place [] = []
side_fields depth sort place (e ∷ es) = entry_fields depth sort place e ++ side_fields depth sort (place + 1) es

-- Who writes to whom, message k of a loop of m, at a time.
pub record Letter : Type 0 where
  pub sender : List ℕ
  pub target : List ℕ
  pub k : ℕ
  pub m : ℕ
  pub time : ℕ

-- 35, 49, 56, 34 = k, 52, 48, 22, 207, 369 = H, 911 = m, 268.
abbrev pub head_fields : Letter → ℕ → ℕ → ℕ → List Field
head_fields l id H n =
    field 35 (87 ∷ [])
    ∷ field 49 l.sender
    ∷ field 56 l.target
    ∷ field 34 (decimal l.k)
    ∷ field 52 (moment_text l.time)
    ∷ field 48 (decimal id)
    ∷ field 22 (56 ∷ [])
    ∷ field 207 (66 ∷ 86 ∷ 77 ∷ 70 ∷ [])
    ∷ field 369 (decimal H)
    ∷ field 911 (decimal l.m)
    ∷ field 268 (decimal n)
    ∷ []

-- bids, offers.
unfoldable pub snapshot_fields : ℕ → Letter → ℕ → ℕ → Lists → List Field
snapshot_fields depth l id H b =
    head_fields l id H (length b.bids + length b.offers) ++ (side_fields depth 48 1 b.bids ++ side_fields depth 49 1 b.offers)

-- 8 and 9 before them, 10 after them.
unfoldable pub snapshot_bytes : ℕ → Letter → ℕ → ℕ → Lists → List ℕ
snapshot_bytes depth l id H b = bytes_of (framed (snapshot_fields depth l id H b))
