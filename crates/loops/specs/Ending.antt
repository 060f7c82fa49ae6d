-- The end of a whole loop (document 02, K1): each followed, Waiting instrument that the loop did not name takes an empty snapshot whose
-- 369 is the lowest in the loop, if that lies in B to H; otherwise nothing.
use Rattle.std.specs.Prelude.{Bool, true, cond, not, ◌&&◌, List, [], ◌∷◌, ℕ, suc}
use Rattle.book.specs.Rules.{Lists, empty, Outcome, leaves, breach}
use Rattle.heading.specs.Marks.{marked}
use Rattle.board.specs.Board.{Inst, Queued, Board, with_insts, broken, settled}
use Rattle.board.specs.Ranges.{within}
use Rattle.board.specs.Snapshot.{run, after, live}
use Rattle.loops.specs.declared.Loop.{Loop}

-- It takes a book and is Live, with reason 0; or its replay broke, and it stays Waiting with the reason.
abbrev pub took : Inst → Outcome Lists → Inst
took x (leaves l) = live x l
took x (breach r) = broken x r

-- One that waits and was not named takes it: the empty book at the lowest 369, and then what is queued for it and for all above that number.
abbrev pub takes_it : Loop → ℕ → Inst → Bool
takes_it l i x = x.waiting && not (marked l.named i)

abbrev pub empty_after : Loop → List Queued → ℕ → Outcome Lists
empty_after l q i = run (after i l.low q) empty

-- The instrument at index i; every other stays as it is.
unfoldable pub at_end : Loop → List Queued → ℕ → Inst → Inst
at_end l q i x = cond (takes_it l i x) (took x (empty_after l q i)) x

-- Each instrument, from index i on, by itself: the queue stands still until all are through.
unfoldable pub ends : Loop → List Queued → ℕ → List Inst → List Inst
ends l q i [] = []
ends l q i (x ∷ xs) = at_end l q i x ∷ ends l q (suc i) xs

-- All of them, where the lowest 369 lies in B to H; that the queue is empty where none waits comes last.
abbrev pub serves : Loop → Board → Bool
serves l b = within b.B b.H l.low

unfoldable pub ended : Loop → Board → Board
ended l b = cond (serves l b) (settled true (with_insts (ends l b.queue 0 b.insts) b)) b
