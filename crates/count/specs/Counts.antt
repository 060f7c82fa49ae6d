-- A message with a number, on the store: old, in order, or after a gap.
use Rattle.std.specs.Prelude.{cond, List, ℕ, ◌+◌, leb, eqb}
use Rattle.book.specs.declared.Update.{Update}
use Rattle.heading.specs.Headings.{counted_to, let_go}
use Rattle.store.specs.Meaning.{State, st}
use Rattle.store.specs.Steps.{gap_s}
use Rattle.store.specs.Answers.{FedS, fed}
use Rattle.queue.specs.Joins.{over_s, join_s}
use Rattle.deliver.specs.Gives.{give_all_s}

-- H and the heard moment are taken.
abbrev pub counted_s : ℕ → ℕ → State → State
counted_s n heard s = st (counted_to s.head n heard) s.store

-- None waited, so the queue is empty: B becomes H.
abbrev pub free_s : State → State
free_s s = st (let_go s.head) s.store

-- In order: a is the answer unless the queue is let go.
unfoldable pub count_s : ℕ → ℕ → ℕ → List Update → State → FedS
count_s a n heard us s =
    cond (eqb s.head.marks 0) (fed a (free_s (give_all_s us (counted_s n heard s))))
    (fed (cond (over_s us s) 3 a) (give_all_s us (join_s n us (counted_s n heard s))))

unfoldable pub number_s : ℕ → ℕ → List Update → State → FedS
number_s n heard us s =
    cond (leb n s.head.number) (fed 2 s)
    (cond (leb n (s.head.number + 1)) (count_s 0 n heard us s) (count_s 1 n heard us (gap_s n s)))
