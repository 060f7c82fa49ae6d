-- What a message with a number leaves in the store is the board after it, and the store is canonical again.
use mathlib.Core.Path.{◌≡◌, refl, sym, ap, ◌∙◌}
use mathlib.Core.Bool.{Bool, true, false, cond, not}
use mathlib.Core.List.{List}
use Prim.Native.Nat.{ℕ, ◌+◌}
use native.Mathlib.Omega.{arith}
use lib.Dec.{leb, eqb}
use borrow.Author.Tests.{eqb-true, eqb-false}
use Rattle.book.specs.declared.Update.{Update}
use Rattle.book.proofs.Tests.{by_test}
use Rattle.cells.specs.Cells.{tab}
use Rattle.board.specs.Board.{let_go as let_go_b}
use Rattle.board.specs.Board.{out, settled}
use Rattle.board.specs.Count.{gives, joined, counted, count_by, count, number_by, number}
use Rattle.store.specs.Meaning.{board_of, State, board_in}
use Rattle.store.specs.Canon.{Formed, Canon}
use Rattle.store.specs.Steps.{gap_s}
use Rattle.store.specs.Answers.{FedS, fed, meant}
use Rattle.store.proofs.Marked.{any_board}
use Rattle.store.proofs.Cleared.{gap_board, gap_canon}
use Rattle.queue.specs.Joins.{over_s, join_s}
use Rattle.queue.proofs.Joining.{join_formed, join_marks, settle_none}
use Rattle.queue.proofs.Board.{join_board, over_board, settle_board}
use Rattle.deliver.specs.Gives.{give_all_s}
use Rattle.deliver.proofs.Giving.{gives_formed, gives_marks, gives_queued, gives_board}
use Rattle.count.specs.Counts.{counted_s, free_s, count_s, number_s}

-- the heading's part
pub counted_formed : (n heard : ℕ) (s : State) → Formed s → Formed (counted_s n heard s)
counted_formed n heard s f = record {
  long = f.long;
  layout = f.layout;
  some = f.some;
  few = f.few;
  marks = f.marks;
  room = f.room;
  books = f.books;
  spare = f.spare;
}

counted_board : (n heard : ℕ) (s : State) → board_in (counted_s n heard s) ≡ counted n heard (board_in s)
unfolding board_of
counted_board n heard s = refl

free_formed : (s : State) → Formed s → s.head.queued ≡ 0 → Formed (free_s s)
free_formed s f e = record {
  long = f.long;
  layout = f.layout;
  some = f.some;
  few = f.few;
  marks = f.marks;
  room = omega arith;
  books = f.books;
  spare = rw e at f.spare;
}

free_board : (s : State) → board_in (free_s s) ≡ let_go_b (board_in s)
unfolding board_of tab
free_board s = refl

module _ (n heard : ℕ) (us : List Update) (s : State) (f : Formed s) where
  abbrev here : State
  here = counted_s n heard s

  -- none waited
  alone : board_in (free_s (give_all_s us here)) ≡ settled false (gives us (counted n heard (board_in s)))
  alone = free_board (give_all_s us here) ∙ ap let_go_b (gives_board us here (counted_formed n heard s f) ∙ ap (gives us) (counted_board n heard s))

  -- one waited, and delivery makes none Live: so one waits still, and the queue stays
  waits_still : (s.head.marks ≡ 0 → ⊥) → (give_all_s us (join_s n us here)).head.marks ≡ 0 → ⊥
  waits_still w e = w (sym (join_marks n us here) ∙ gives_marks us (join_s n us here) (join_formed n us here (counted_formed n heard s f)) e)

  behind : (s.head.marks ≡ 0 → ⊥)
      → board_in (give_all_s us (join_s n us here)) ≡ settled true (gives us (joined (over_s us s) n us (counted n heard (board_in s))))
  behind w =
      let c = counted_formed n heard s f in
      let j = join_formed n us here c in
      let d = give_all_s us (join_s n us here) in
      sym (ap board_in (settle_none d (waits_still w))) ∙ settle_board d (gives_formed us (join_s n us here) j)
      ∙ ap (settled true) (gives_board us (join_s n us here) j ∙ ap (gives us) (join_board n us here c ∙ ap (joined (over_s us s) n us) (counted_board n heard s)))

pub count_board : (a n heard : ℕ) (us : List Update) (s : State) → Formed s → meant (count_s a n heard us s) ≡ count a n heard us (board_in s)
unfolding count_s count
count_board a n heard us s f = rw (any_board s f.marks, ← over_board n us s) (go (eqb s.head.marks 0) refl)
  where
    go : (b : Bool) → eqb s.head.marks 0 ≡ b
        → meant (cond b (fed a (free_s (give_all_s us (counted_s n heard s)))) (fed (cond (over_s us s) 3 a) (give_all_s us (join_s n us (counted_s n heard s)))))
        ≡ count_by (not b) (over_s us s) a n heard us (board_in s)
    go true e = ap (out a) (alone n heard us s f)
    go false e = ap (out (cond (over_s us s) 3 a)) (behind n heard us s f (eqb-false _ _ e))

pub count_canon : (a n heard : ℕ) (us : List Update) (s : State) → Canon s → Canon (count_s a n heard us s).state
unfolding count_s
count_canon a n heard us s k =
    let f = counted_formed n heard s k.formed in
    let t = counted_s n heard s in
    by_test (λ (o : FedS). Canon o.state) (eqb s.head.marks 0)
    (λ e. record { formed = free_formed (give_all_s us t) (gives_formed us t f) (gives_queued us t ∙ k.idle (eqb-true _ _ e)); idle = λ _. refl })
    (λ e. record {
      formed = gives_formed us (join_s n us t) (join_formed n us t f);
      idle = λ z. absurd (waits_still n heard us s k.formed (eqb-false _ _ e) z);
    })

-- the whole
pub number_board : (n heard : ℕ) (us : List Update) (s : State) → Formed s → meant (number_s n heard us s) ≡ number n heard us (board_in s)
unfolding number_s number board_of
number_board n heard us s f = go (leb n s.head.number) (leb n (s.head.number + 1))
  where
    go : (b c : Bool) → meant (cond b (fed 2 s) (cond c (count_s 0 n heard us s) (count_s 1 n heard us (gap_s n s)))) ≡ number_by b c n heard us (board_in s)
    go true c = refl
    go false true = count_board 0 n heard us s f
    go false false = count_board 1 n heard us (gap_s n s) (gap_canon n s f).formed ∙ ap (count 1 n heard us) (gap_board n s f)

pub number_canon : (n heard : ℕ) (us : List Update) (s : State) → Canon s → Canon (number_s n heard us s).state
unfolding number_s
number_canon n heard us s k =
    by_test (λ (o : FedS). Canon o.state) (leb n s.head.number) (λ _. k)
    (λ _. by_test (λ (o : FedS). Canon o.state) (leb n (s.head.number + 1)) (λ _. count_canon 0 n heard us s k)
    (λ _. count_canon 1 n heard us (gap_s n s) (gap_canon n s k.formed)))
