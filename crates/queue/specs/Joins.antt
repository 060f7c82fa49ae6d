-- The queue in the store: what joins it, and how it is let go.
use Rattle.std.specs.Prelude.{◌≡◌, Bool, cond, List, [], ◌∷◌, ℕ, ◌+◌, Result, Ok, Err, ltb, eqb}
use Rattle.std.proofs.lemmas.List.Edits.{sets}
use Rattle.book.specs.declared.Update.{Update}
use Rattle.cells.specs.Cells.{zeros, queued_words}
use Rattle.heading.specs.declared.Heading.{Heading}
use Rattle.heading.specs.Headings.{let_go, queued_more}
use Rattle.board.specs.Count.{most_queued}
use Rattle.store.specs.Layout.{at_queue, queue_size, slot_of}
use Rattle.store.specs.Meaning.{State, st}

-- The queue is let go: B becomes H, and its numbers are zeros.
abbrev pub let_go_s : State → State
let_go_s s = st (let_go s.head) (sets s.store at_queue (zeros queue_size))

-- Whenever none waits at the end of a call.
abbrev pub settle_s : State → State
settle_s s = cond (eqb s.head.marks 0) (let_go_s s) s

-- An entry for a followed instrument, or for all, whose who is 0, takes the next place, with the number of its message.
abbrev pub join_one_s : ℕ → Update → State → State
join_one_s n u s =
    cond (ltb u.who s.head.followed) (st (queued_more s.head) (sets s.store (slot_of s.head.queued) (queued_words n u))) s

unfoldable pub join_all_s : ℕ → List Update → State → State
join_all_s n [] s = s
join_all_s n (u ∷ us) s = join_all_s n us (join_one_s n u s)

-- How many have a who below k.
unfoldable pub how_many : ℕ → List Update → ℕ
how_many k [] = 0
how_many k (u ∷ us) = cond (ltb u.who k) 1 0 + how_many k us

-- They would make more than 256.
abbrev pub over_s : List Update → State → Bool
over_s us s = ltb most_queued (s.head.queued + how_many s.head.followed us)

-- All of a message join, or the queue is let go.
unfoldable pub join_s : ℕ → List Update → State → State
join_s n us s = cond (over_s us s) (let_go_s s) (join_all_s n us s)

-- The heading that the code answers, whichever way it went.
abbrev pub either : Result Heading Heading → Heading
either (Ok h) = h
either (Err h) = h

-- What the code answers: whether it was let go, and the heading and the store.
pub record Joins (n : ℕ) (us : List Update) (s : State) (o : Bool) (t : State) : Type 0 where
  pub over : o ≡ over_s us s
  pub state : t ≡ join_s n us s
