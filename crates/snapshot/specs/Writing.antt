-- What a snapshot is written from, and the pieces that the code writes (document 01, "Quote and writing").
use Rattle.std.specs.Prelude.{ℕ, ◌≤◌, ◌<◌, ◌^◌, List, [], ◌∷◌, length}
use Rattle.text.specs.Text.{decimal}
use Rattle.moment.specs.Moments.{moments, moment_text}
use Rattle.chain.specs.Fields.{Field, field}
use Rattle.book.specs.Canonical.{All, KeptBook, held_in, lists_in}
use Rattle.book.specs.declared.Book.{Book}
use Rattle.line.specs.Entries.{Writable}
use Rattle.snapshot.specs.Snapshot.{Letter, snapshot_fields}
use Rattle.snapshot.specs.declared.letters.Letter as lent
use Rattle.snapshot.specs.declared.letters.Sheet.{Sheet}

abbrev pub letter : List ℕ → List ℕ → ℕ → ℕ → ℕ → Letter
letter sender target k m time = record { sender = sender; target = target; k = k; m = m; time = time }

-- What is given can be written: it is no greater than its range has it.
pub record Ready (l : Letter) (who H : ℕ) (b : Book) : Type 0 where
  pub sender : length l.sender ≤ 16
  pub target : length l.target ≤ 16
  pub k : l.k ≤ 16
  pub m : l.m ≤ 16
  pub time : l.time < moments
  pub id : who < 10 ^ 18
  pub last : H ≤ 4294967295
  pub kept : KeptBook b
  pub bids : All Writable (held_in b.bids)
  pub offers : All Writable (held_in b.offers)

-- ---- what the code is lent
abbrev pub letter_of : lent.Letter → Letter
letter_of l = letter l.sender.now l.target.now l.k l.m l.time

-- The snapshot's fields from 35 up to 10.
abbrev pub fields_in : lent.Letter → Sheet → List Field
fields_in l s = snapshot_fields s.depth (letter_of l) s.id s.last (lists_in s.book.now)

-- ---- what the code writes in one piece
-- 35, 49, 56, 34, 52
abbrev pub sender_fields : Letter → List Field
sender_fields l =
    field 35 (87 ∷ []) ∷ field 49 l.sender ∷ field 56 l.target ∷ field 34 (decimal l.k) ∷ field 52 (moment_text l.time) ∷ []

-- 48, 22, 207, 369, 911, 268
abbrev pub book_fields : ℕ → ℕ → ℕ → ℕ → List Field
book_fields id last m n =
    field 48 (decimal id)
    ∷ field 22 (56 ∷ [])
    ∷ field 207 (66 ∷ 86 ∷ 77 ∷ 70 ∷ [])
    ∷ field 369 (decimal last)
    ∷ field 911 (decimal m)
    ∷ field 268 (decimal n)
    ∷ []
