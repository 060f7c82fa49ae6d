-- What a store is asked to be beside what its board says: long enough, of this layout, within its counts, its books kept,
-- and zero where nothing stands. Each call leaves it so.
use Rattle.std.specs.Prelude.{◌≡◌, List, ℕ, ◌+◌, ◌*◌, ◌≤◌, ◌<◌, ◌^◌, length, get_or}
use Rattle.book.specs.Canonical.{KeptBook}
use Rattle.store.specs.Layout.{store_size, layout_number, at_layout, heading_used}
use Rattle.store.specs.Meaning.{State, book_at}
use Rattle.cells.specs.Cells.{side_size}

-- No number of f instruments and q queued entries stands at k: none of the heading, none of an id and a reason, none of the
-- numbers of a side, none of the 10 of a queued entry.
pub record Unused (f q k : ℕ) : Type 0 where
  pub head : k < heading_used → ⊥
  pub record_of : (i : ℕ) → i < f → 32 + i * 8 ≤ k → k < 34 + i * 8 → ⊥
  pub side : (j : ℕ) → j < f * 2 → 160 + j * 128 ≤ k → k < 160 + j * 128 + side_size → ⊥
  pub slot : (j : ℕ) → j < q → 4256 + j * 11 ≤ k → k < 4266 + j * 11 → ⊥

abbrev pub Spare : ℕ → ℕ → List ℕ → Type 0
Spare f q xs = (k : ℕ) → k < store_size → Unused f q k → get_or xs k 0 ≡ 0

-- The counts are within 01's, the marks are of followed instruments alone, each book is kept, and what is not used is zero.
pub record Formed (s : State) : Type 0 where
  pub long : store_size ≤ length s.store
  pub layout : get_or s.store at_layout 0 ≡ layout_number
  pub some : 1 ≤ s.head.followed
  pub few : s.head.followed ≤ 16
  pub marks : s.head.marks < 2 ^ s.head.followed
  pub room : s.head.queued ≤ 256
  pub books : (i : ℕ) → i < s.head.followed → KeptBook (book_at s.store i)
  pub spare : Spare s.head.followed s.head.queued s.store

-- And where none waits the queue is empty. A call finds a store so, and leaves it so.
pub record Canon (s : State) : Type 0 where
  pub formed : Formed s
  pub idle : s.head.marks ≡ 0 → s.head.queued ≡ 0
