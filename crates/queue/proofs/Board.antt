-- What joins the queue in the store joins it on the board; and so for the queue let go.
use mathlib.Core.Path.{◌≡◌, refl, sym, ap, ◌∙◌}
use mathlib.Core.Bool.{Bool, true, false, cond, not}
use mathlib.Core.List.{List, [], ◌∷◌, ◌++◌, append-nil, append_assoc}
use mathlib.Core.Logic.{inl}
use Prim.Native.Nat.{ℕ, ◌+◌, ◌≤◌}
use native.Mathlib.Omega.{arith}
use lib.Dec.{ltb, eqb}
use borrow.Author.Tests.{ltb-false}
use lib.ListN.{length, length-append}
use lib.Seq.{sets}
use Rattle.book.specs.declared.Update.{Update}
use Rattle.cells.specs.Cells.{tab, queued_words}
use Rattle.cells.proofs.Tables.{tab_snoc}
use Rattle.heading.specs.Headings.{queued_more}
use Rattle.board.specs.Board.{let_go as let_go_b}
use Rattle.board.specs.Board.{Board, with_queue, settled}
use Rattle.board.specs.Count.{joining, longer, overflows, joined}
use Rattle.store.specs.Layout.{slot_of}
use Rattle.store.specs.Meaning.{queued_at, board_of, State, st, board_in}
use Rattle.store.specs.Canon.{Formed}
use Rattle.store.proofs.Regions.{agree_sets, agree_zeros}
use Rattle.store.proofs.Decode.{insts_before, queue_apart, queued_back, insts_length, queue_length}
use Rattle.store.proofs.Marked.{any_board}
use Rattle.queue.specs.Joins.{let_go_s, settle_s, join_one_s, join_all_s, how_many, over_s, join_s}
use Rattle.queue.proofs.Joining.{one_followed, one_queued, one_formed}

pub let_go_board : (s : State) → Formed s → board_in (let_go_s s) ≡ let_go_b (board_in s)
unfolding board_of tab
let_go_board s f =
    rw (insts_before (agree_zeros s.store 4256 2816) s.head.marks s.head.followed f.few (omega arith))

pub settle_board : (s : State) → Formed s → board_in (settle_s s) ≡ settled true (board_in s)
settle_board s f = rw (any_board s f.marks) (go (eqb s.head.marks 0))
  where
    go : (t : Bool) → board_in (cond t (let_go_s s) s) ≡ cond (not t) (board_in s) (let_go_b (board_in s))
    go true = let_go_board s f
    go false = refl

-- one entry
one_board : (n : ℕ) (u : Update) (s : State) → Formed s → s.head.queued + cond (ltb u.who s.head.followed) 1 0 ≤ 256
    → board_in (join_one_s n u s) ≡ with_queue ((board_in s).queue ++ joining n s.head.followed (u ∷ [])) (board_in s)
unfolding board_of joining
one_board n u s f r = go (ltb u.who s.head.followed) r
  where
    go : (b : Bool) → s.head.queued + cond b 1 0 ≤ 256
        → board_in (cond b (st (queued_more s.head) (sets s.store (slot_of s.head.queued) (queued_words n u))) s)
        ≡ with_queue ((board_in s).queue ++ cond b (record { number = n; update = u } ∷ []) []) (board_in s)
    go true h =
        let q = s.head.queued in
        let long = f.long in
        let a = agree_sets s.store (slot_of q) (queued_words n u) 10 refl in
        rw (
          insts_before a s.head.marks s.head.followed f.few (omega arith),
          tab_snoc (queued_at (sets s.store (slot_of q) (queued_words n u))) q,
          queue_apart a q (λ j l. inl (omega arith)),
          queued_back s.store q n u (omega arith),
        )
    go false h = rw (append-nil (tab (queued_at s.store) s.head.queued))

joining_one : (n k : ℕ) (u : Update) (us : List Update) → joining n k (u ∷ []) ++ joining n k us ≡ joining n k (u ∷ us)
unfolding joining
joining_one n k u us = go (ltb u.who k)
  where
    go : (b : Bool) → cond b (record { number = n; update = u } ∷ []) [] ++ joining n k us ≡ cond b (record { number = n; update = u } ∷ joining n k us) (joining n k us)
    go true = refl
    go false = refl

joining_none : (n k : ℕ) (b : Board) → b ≡ with_queue (b.queue ++ joining n k []) b
unfolding joining
joining_none n k b = rw (append-nil b.queue)

all_board : (n : ℕ) (us : List Update) (s : State) → Formed s → s.head.queued + how_many s.head.followed us ≤ 256
    → board_in (join_all_s n us s) ≡ with_queue ((board_in s).queue ++ joining n s.head.followed us) (board_in s)
unfolding join_all_s how_many
all_board n [] s f h = joining_none n s.head.followed (board_in s)
all_board n (u ∷ us) s f h =
    let t = join_one_s n u s in
    let k = one_followed n u s in
    let o = one_board n u s f (omega arith) in
    let e = all_board n us t (one_formed n u s f (omega arith)) (rw (one_queued n u s, k) (omega arith)) in
    e ∙ ap (λ (x : Board). with_queue (x.queue ++ joining n t.head.followed us) x) o
    ∙ rw (k, append_assoc, joining_one n s.head.followed u us)

length_joining : (n k : ℕ) (us : List Update) → length (joining n k us) ≡ how_many k us
unfolding joining how_many
length_joining n k [] = refl
length_joining n k (u ∷ us) = go (ltb u.who k) (length_joining n k us)
  where
    go : (b : Bool) → length (joining n k us) ≡ how_many k us
        → length (cond b (record { number = n; update = u } ∷ joining n k us) (joining n k us)) ≡ cond b 1 0 + how_many k us
    go true e = omega arith
    go false e = omega arith

-- how long the queue would be
longer_length : (n : ℕ) (us : List Update) (s : State) → length (longer n us (board_in s)) ≡ s.head.queued + how_many s.head.followed us
longer_length n us s =
    rw (insts_length s) (length-append (board_in s).queue (joining n s.head.followed us) ∙ rw (queue_length s, length_joining n s.head.followed us))

pub over_board : (n : ℕ) (us : List Update) (s : State) → over_s us s ≡ overflows n us (board_in s)
over_board n us s = ap (ltb 256) (sym (longer_length n us s))

-- a message joins the queue, or the queue is let go
pub join_board : (n : ℕ) (us : List Update) (s : State) → Formed s → board_in (join_s n us s) ≡ joined (over_s us s) n us (board_in s)
unfolding join_s
join_board n us s f = go (over_s us s) refl
  where
    go : (b : Bool) → over_s us s ≡ b → board_in (cond b (let_go_s s) (join_all_s n us s)) ≡ joined b n us (board_in s)
    go true e = let_go_board s f
    go false e =
        all_board n us s f (ltb-false 256 _ e)
        ∙ ap (λ (k : ℕ). with_queue ((board_in s).queue ++ joining n k us) (board_in s)) (sym (insts_length s))
