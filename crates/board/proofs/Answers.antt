-- Each answer is one of document 01's table, and a refusal leaves the board as it is.
use mathlib.Core.Path.{◌≡◌, refl, ◌∙◌, ap, sym}
use mathlib.Core.Bool.{Bool, true, false, cond, true≢false}
use mathlib.Core.List.{List, [], ◌∷◌, map}
use Prim.Native.Nat.{ℕ, ◌+◌, ◌≤◌}
use native.Mathlib.Omega.{arith}
use lib.Dec.{ltb, leb}
use lib.ListN.{length, length-map}
use borrow.Author.Tests.{le-ltb, lt-leb}
use Rattle.book.specs.declared.Update.{Update}
use Rattle.message.specs.Message.{numbered, snapshot, refused}
use Rattle.message.specs.declared.Refusal.TheVariants.{BadFrame, BadSum, BadType, BadFields}
use Rattle.book.proofs.Tests.{by_test}
use Rattle.board.specs.Board.{Board, Out, any_waiting, look}
use Rattle.board.specs.Count.{most_queued, aimed, joining, overflows, count_by, count, cleared, number_by, number}
use Rattle.board.specs.Snapshot.{shown}
use Rattle.board.specs.Feed.{feed}
use Rattle.board.specs.Calls.{is_counted, changes}
use Rattle.board.specs.Ranges.{within}
use Rattle.board.specs.Laws.{RefusalsStay, AnswersInTable, GapsAnswerOne}
use Rattle.board.proofs.Cases.{count_is, number_is, snap_is, take_is}
use Rattle.board.proofs.Tested.{is_within}

-- A message that is counted answers so

pub count_answer : (P : ℕ → Type 0) (a n heard : ℕ) (us : List Update) (b : Board) → P a → P 3 → P (count a n heard us b).answer
count_answer P a n heard us b h g = count_is (λ o. P o.answer) a n heard us b (λ _. h) (λ over _. by_test P over (λ _. g) (λ _. h))

pub count_counted : (a n heard : ℕ) (us : List Update) (b : Board) → is_counted a ≡ true → is_counted (count a n heard us b).answer ≡ true
count_counted a n heard us b h = count_answer (λ k. is_counted k ≡ true) a n heard us b h refl

-- Refusals

abbrev Stays : Board → Out → Type 0
Stays b o = changes o.answer ≡ false → o.board ≡ b

count_changes : (a n heard : ℕ) (us : List Update) (b : Board) → is_counted a ≡ true → changes (count a n heard us b).answer ≡ false → ⊥
count_changes a n heard us b h e = true≢false (sym (rw (count_counted a n heard us b h)) ∙ e)

pub refusals_stay : RefusalsStay
unfolding feed
refusals_stay (numbered n heard us) b =
    let vs = map (aimed b.insts) us in
    number_is (Stays b) n heard vs b (λ _ _ _. refl) (λ _ e. absurd (count_changes 0 n heard vs b refl e))
    (λ _ e. absurd (count_changes 1 n heard vs (cleared n b) refl e))
refusals_stay (snapshot h us) b =
    snap_is (Stays b) h.id h.last (shown us) b (λ _ _ _ _. refl)
    (take_is (Stays b) (look h.id b.insts) h.last (shown us) b (λ _ _ e. absurd (true≢false e)) (λ _ _ e. absurd (true≢false e)))
refusals_stay (refused why) b = λ _. refl

-- The table

pub answers_in_table : AnswersInTable
unfolding feed
answers_in_table (numbered n heard us) b =
    let vs = map (aimed b.insts) us in
    number_is (λ o. leb o.answer 3 ≡ true) n heard vs b (λ _ _. refl) (λ _. count_answer (λ a. leb a 3 ≡ true) 0 n heard vs b refl refl)
    (λ _. count_answer (λ a. leb a 3 ≡ true) 1 n heard vs (cleared n b) refl refl)
answers_in_table (snapshot h us) b =
    let P : Out → Type 0 = λ o. within 4 10 o.answer ≡ true in
    snap_is P h.id h.last (shown us) b (λ a lo hi. is_within 4 10 a (omega arith) (omega arith))
    (take_is P (look h.id b.insts) h.last (shown us) b (λ _ _. refl) (λ _ _. refl))
answers_in_table (refused BadFrame) b = refl
answers_in_table (refused BadSum) b = refl
answers_in_table (refused BadType) b = refl
answers_in_table (refused BadFields) b = refl

-- A gap

length_joining : (n k : ℕ) (us : List Update) → length (joining n k us) ≤ length us
unfolding joining
length_joining n k [] = omega arith
length_joining n k (u ∷ us) = go (ltb u.who k) (length_joining n k us)
  where
    go : (t : Bool) → length (joining n k us) ≤ length us
        → length (cond t (record { number = n; update = u } ∷ joining n k us) (joining n k us)) ≤ length (u ∷ us)
    go true h = omega arith
    go false h = omega arith

gap_answer : (n heard : ℕ) (us : List Update) (b : Board) → length us ≤ 64 → (count 1 n heard us (cleared n b)).answer ≡ 1
unfolding count
gap_answer n heard us b h = go (any_waiting (cleared n b).insts)
  where
    fit : overflows n us (cleared n b) ≡ false
    fit = le-ltb most_queued (length (joining n (length (cleared n b).insts) us)) (omega (arith, length_joining n (length (cleared n b).insts) us))

    go : (w : Bool) → (count_by w (overflows n us (cleared n b)) 1 n heard us (cleared n b)).answer ≡ 1
    go false = refl
    go true = ap (λ (t : Bool). cond t 3 1) fit

pub gaps_answer_one : GapsAnswerOne
unfolding feed number
gaps_answer_one n heard us b gap h =
    let old : leb n b.H ≡ false = lt-leb n b.H (omega arith) in
    let next : leb n (b.H + 1) ≡ false = lt-leb n (b.H + 1) gap in
    let m = map (aimed b.insts) us in
    ap (λ (t : Bool). (number_by t (leb n (b.H + 1)) n heard m b).answer) old
    ∙ ap (λ (t : Bool). (number_by false t n heard m b).answer) next
    ∙ gap_answer n heard m b (rw (length-map us (aimed b.insts)) h)
