-- What a store means: the channel that its numbers are, its board and its loop, and the numbers that a channel is.
use Rattle.std.specs.Prelude.{cond, List, [], ◌∷◌, ◌++◌, ℕ, zero, suc, ◌+◌, ◌^◌, length, get_or}
use Rattle.std.proofs.lemmas.List.Edits.{sets}
use Rattle.book.specs.declared.Book.{Book}
use Rattle.book.specs.Canonical.{lists_in, book_of}
use Rattle.cells.specs.Cells.{tab, zeros, side_at, side_words, update_at, queued_words}
use Rattle.heading.specs.declared.Heading.{Heading}
use Rattle.heading.specs.Marks.{marked}
use Rattle.board.specs.Board.{Inst, Queued, Board}
use Rattle.loops.specs.declared.Loop.{Loop}
use Rattle.loops.specs.Channel.{Channel, channel}
use Rattle.store.specs.Layout.{layout_number, at_depth, at_followed, at_number, at_base, at_heard, at_marks, at_queued, at_loops, at_come, at_low, at_named, heading_spare, id_of, reason_of, bids_of, offers_of, slot_of, side_spare}

-- ---- numbers as a channel

abbrev pub heading_at : List ℕ → Heading
heading_at xs =
    record {
      depth = get_or xs at_depth 0;
      followed = get_or xs at_followed 0;
      number = get_or xs at_number 0;
      base = get_or xs at_base 0;
      heard = get_or xs at_heard 0;
      marks = get_or xs at_marks 0;
      queued = get_or xs at_queued 0;
    }

abbrev pub book_at : List ℕ → ℕ → Book
book_at xs i = record { bids = side_at xs (bids_of i); offers = side_at xs (offers_of i) }

-- The instrument at index i, with the marks m.
unfoldable pub inst_at : ℕ → List ℕ → ℕ → Inst
inst_at m xs i = record { id = get_or xs (id_of i) 0; waiting = marked m i; reason = get_or xs (reason_of i) 0; book = lists_in (book_at xs i) }

unfoldable pub queued_at : List ℕ → ℕ → Queued
queued_at xs k = record { number = get_or xs (slot_of k) 0; update = update_at xs (slot_of k + 1) }

-- The board of a heading by value and a store, whose own heading may be behind.
unfoldable pub board_of : Heading → List ℕ → Board
board_of h xs =
    record {
      depth = h.depth;
      H = h.number;
      B = h.base;
      heard = h.heard;
      insts = tab (inst_at h.marks xs) h.followed;
      queue = tab (queued_at xs) h.queued;
    }

-- The board that a store is.
abbrev pub board_at : List ℕ → Board
board_at xs = board_of (heading_at xs) xs

-- The record of its loop, and the channel that it is.
abbrev pub loop_at : List ℕ → Loop
loop_at xs = record { loops = get_or xs at_loops 0; come = get_or xs at_come 0; low = get_or xs at_low 0; named = get_or xs at_named 0 }

abbrev pub channel_at : List ℕ → Channel
channel_at xs = channel (board_at xs) (loop_at xs)

-- A heading by value, and the store that it goes with.
pub record State : Type 0 where
  pub head : Heading
  pub store : List ℕ

abbrev pub st : Heading → List ℕ → State
st h xs = record { head = h; store = xs }

abbrev pub board_in : State → Board
board_in s = board_of s.head s.store

abbrev pub loaded : List ℕ → State
loaded xs = st (heading_at xs) xs

-- ---- a channel as numbers

-- What is written of a heading; it starts behind the layout's number.
abbrev pub head_words : Heading → List ℕ
head_words h = h.depth ∷ h.followed ∷ h.number ∷ h.base ∷ h.heard ∷ h.marks ∷ h.queued ∷ []

-- The store with its heading saved.
abbrev pub saved : State → List ℕ
saved s = sets s.store at_depth (head_words s.head)

-- What is written of a loop's record, behind the heading, and a store with it saved.
abbrev pub loop_words : Loop → List ℕ
loop_words l = l.loops ∷ l.come ∷ l.low ∷ l.named ∷ []

abbrev pub with_loop : Loop → List ℕ → List ℕ
with_loop l xs = sets xs at_loops (loop_words l)

-- The marks of instruments, from index i on.
unfoldable pub marks_of : ℕ → List Inst → ℕ
marks_of i [] = 0
marks_of i (x ∷ xs) = cond x.waiting (2 ^ i) 0 + marks_of (suc i) xs

abbrev pub heading_of : Board → Heading
heading_of b =
    record {
      depth = b.depth;
      followed = length b.insts;
      number = b.H;
      base = b.B;
      heard = b.heard;
      marks = marks_of 0 b.insts;
      queued = length b.queue;
    }

abbrev pub record_words : Inst → List ℕ
record_words x = x.id ∷ x.reason ∷ zeros 6

abbrev pub book_words : Inst → List ℕ
book_words x = side_words (book_of x.book).bids ++ (zeros side_spare ++ (side_words (book_of x.book).offers ++ zeros side_spare))

abbrev pub slot_words : Queued → List ℕ
slot_words q = queued_words q.number q.update ++ (0 ∷ [])

-- Each of a list, and zeros for those that are missing of so many of so wide.
unfoldable pub rows : {A : Type 0} → (A → List ℕ) → ℕ → ℕ → List A → List ℕ
rows f wide zero l = []
rows f wide (suc n) [] = zeros wide ++ rows f wide n []
rows f wide (suc n) (x ∷ l) = f x ++ rows f wide n l

-- The 7,168 numbers of a channel: heading, loop, spare, records, sides, queue, spare.
unfoldable pub written : Channel → List ℕ
written c =
    (layout_number ∷ head_words (heading_of c.board)) ++ (loop_words c.loop ++ (zeros heading_spare
    ++ (rows record_words 8 16 c.board.insts
    ++ (rows book_words 256 16 c.board.insts ++ (rows slot_words 11 256 c.board.queue ++ zeros 96)))))
