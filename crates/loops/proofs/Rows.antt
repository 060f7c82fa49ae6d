-- The record of a loop is that of the W messages that have come: whole exactly where they are a row as long as their 911.
use mathlib.Core.Path.{◌≡◌, refl, ◌∙◌, ap, sym, subst}
use mathlib.Core.Bool.{Bool, true, false, cond, ◌&&◌, ◌||◌}
use mathlib.Core.List.{List, [], ◌∷◌}
use Prim.Native.Nat.{ℕ, zero, suc, ◌+◌, ◌^◌, ◌%◌, ◌≤◌, ◌<◌}
use native.Mathlib.Nat.{zero-div, le_of_suc-le-suc}
use native.Mathlib.Numerals.{add-one}
use native.Mathlib.Omega.{arith}
use lib.Dec.{leb, ltb, eqb}
use lib.ListN.{length, length-map}
use borrow.Author.Tests.{eqb-true, eqb-false, eq-eqb, ne_eqb, leb-true, leb-false, ltb-true, ltb-false, lt-ltb}
use Rattle.message.specs.Message.{Head, numbered, snapshot, refused}
use Rattle.heading.specs.Marks.{marked}
use Rattle.heading.proofs.Bits.{marked_with}
use Rattle.book.proofs.Tests.{by_test}
use Rattle.board.specs.Board.{Board, opened, fresh, look}
use Rattle.board.specs.Feed.{feed}
use Rattle.board.specs.Calls.{Call, fed, aside}
use Rattle.board.specs.Laws.{Same}
use Rattle.board.proofs.Tested.{both}
use Rattle.board.proofs.Staying.{same, same_then, same_length, same_look}
use Rattle.loops.specs.declared.Loop.{Loop}
use Rattle.loops.specs.Loops.{no_loop, with_name, lower, begun, is_next, grown, in_row, is_whole}
use Rattle.loops.specs.Ending.{ended}
use Rattle.loops.specs.Channel.{Channel, channel, joined_by, rounded, given}
use Rattle.loops.specs.Calls.{calls, opened_channel}
use Rattle.loops.specs.Rows.{Came, Row, lowest, is_named, goes_on, loop_after, with_one, WholeIsRow, last_at, LowestIs, LowestOfRow, came_in}
use Rattle.loops.specs.Laws.{LoopOfCame}
use Rattle.loops.proofs.Joins.{not_named, is_named_lem, next_is, begins, by_next}
use Rattle.loops.proofs.Keeping.{given_same}

-- where no loop runs none is named
none_marked : (i : ℕ) → marked 0 i ≡ false
unfolding marked
none_marked i = ap (λ (d : ℕ). eqb (d % 2) 1) (zero-div (2 ^ i))

-- with one more W its instrument is named, and so are those that were; one that is not followed names none of the n
marked_name : (n i j named : ℕ) → n ≤ 16 → j < n → marked (with_name n i named) j ≡ (eqb i j || marked named j)
marked_name n i j named h l = go (leb n i) refl
  where
    go : (t : Bool) → leb n i ≡ t → marked (with_name n i named) j ≡ (eqb i j || marked named j)
    go true e =
        let past : n ≤ i = leb-true n i e in
        ap (λ (m : ℕ). marked m j) (not_named n i named past)
        ∙ ap (λ (t : Bool). t || marked named j) (sym (ne_eqb i j (λ q. omega arith)))
    go false e =
        let within : i < n = leb-false n i e in
        ap (λ (m : ℕ). marked m j) (is_named_lem n i named within) ∙ marked_with named i j (omega arith) (omega arith)

-- One more W on a row of k: k + 1 in the record is the next in the definitions

next_row : (m k : ℕ) (w : Came) (ws : List Came) → w.head.number ≡ k + 1 → w.head.loops ≡ m → Row m k ws → Row m (k + 1) (w ∷ ws)
unfolding Row
next_row m k w ws e f r = rw (add-one k) (e ∙ add-one k, f, r)

next_low : (k : ℕ) (w : Came) (ws : List Came) → 1 ≤ k → lower (lowest k ws) w.head.last ≡ lowest (k + 1) (w ∷ ws)
unfolding lowest
next_low zero w ws h = absurd (omega arith)
next_low (suc k) w ws h = rw (add-one (suc k))

next_named : (i k : ℕ) (w : Came) (ws : List Came) → (eqb w.who i || is_named i k ws) ≡ is_named i (k + 1) (w ∷ ws)
unfolding is_named
next_named i k w ws = rw (add-one k)

-- What a record tells of as many of the newest as have come: they are a row, with its lowest 369 and its names among n instruments.
record Told (n : ℕ) (l : Loop) (ws : List Came) : Type 0 where
  row : Row l.loops l.come ws
  low : l.low ≡ lowest l.come ws
  named : (i : ℕ) → i < n → marked l.named i ≡ is_named i l.come ws

-- Where no loop runs it tells of none of them; a W begins a row of one, or makes a row one longer
told_none : (n : ℕ) (ws : List Came) → Told n no_loop ws
unfolding Row lowest is_named
told_none n ws = record { row = tt; low = refl; named = λ i _. none_marked i }

told_begun : (n : ℕ) (w : Came) (ws : List Came) → n ≤ 16 → w.head.number ≡ 1 → Told n (begun w.head n w.who) (w ∷ ws)
unfolding Row lowest is_named
told_begun n w ws few e =
    record {
      row = (e, refl, tt);
      low = refl;
      named = λ i h. marked_name n w.who i 0 few h ∙ ap (λ (t : Bool). eqb w.who i || t) (none_marked i);
    }

told_grown : (n : ℕ) (l : Loop) (w : Came) (ws : List Came) → n ≤ 16 → Told n l ws → (w.head.number ≡ 1 → ⊥) → w.head.number ≡ l.come + 1
    → w.head.loops ≡ l.loops → Told n (grown w.head n w.who l) (w ∷ ws)
told_grown n l w ws few t ne e f =
    record {
      row = next_row l.loops l.come w ws e f t.row;
      low = ap (λ (k : ℕ). lower k w.head.last) t.low ∙ next_low l.come w ws (some l.come ne e);
      named =
          λ i h. marked_name n w.who i l.named few h ∙ ap (λ (t : Bool). eqb w.who i || t) (t.named i h) ∙ next_named i l.come w ws;
    }
  where
    some : (k : ℕ) → (w.head.number ≡ 1 → ⊥) → w.head.number ≡ k + 1 → 1 ≤ k
    some zero d q = absurd (d q)
    some (suc k) d q = omega arith

-- so it tells that with one more W, whole or not, and where the loop has gone on after it
told_one : (n : ℕ) (w : Came) (ws : List Came) → n ≤ 16 → Told n (loop_after n ws) ws → Told n (with_one n w ws) (w ∷ ws)
unfolding in_row
told_one n w ws few t =
    by_test P (eqb h.number 1) (λ e. told_begun n w ws few (eqb-true h.number 1 e))
    (λ e. by_test P (is_next h l)
    (λ f. let q = next_is h l f in told_grown n l w ws few t (eqb-false h.number 1 e) q.0 q.1)
    (λ _. told_none n (w ∷ ws)))
  where
    h : Head
    h = w.head

    l : Loop
    l = loop_after n ws

    P : Loop → Type 0
    P k = Told n k (w ∷ ws)

told_after : (n : ℕ) (ws : List Came) → n ≤ 16 → Told n (loop_after n ws) ws
unfolding loop_after
told_after n [] few = told_none n []
told_after n (w ∷ ws) few =
    by_test (λ (l : Loop). Told n l (w ∷ ws)) (is_whole (with_one n w ws)) (λ _. told_none n (w ∷ ws)) (λ _. told_one n w ws few (told_after n ws few))

-- A whole loop is a row as long as its 911, which the newest has

whole_is : (l : Loop) → is_whole l ≡ true → (0 < l.loops) × (l.come ≡ l.loops)
unfolding is_whole
whole_is l e =
    let p = both (ltb 0 l.loops) (eqb l.come l.loops) e in
    (ltb-true 0 l.loops p.0, eqb-true l.come l.loops p.1)

row_loops : (m k : ℕ) (w : Came) (ws : List Came) → 0 < k → Row m k (w ∷ ws) → w.head.loops ≡ m
unfolding Row
row_loops m zero w ws h r = absurd (omega arith)
row_loops m (suc k) w ws h r = r.1

-- the number that has come is that 911
module _ (n : ℕ) (l : Loop) (w : Came) (ws : List Came) (t : Told n l (w ∷ ws)) (e : is_whole l ≡ true) where
  whole_loops : l.loops ≡ w.head.loops
  whole_loops = sym (row_loops l.loops l.come w ws (let p = whole_is l e in omega (arith, p.0, p.1)) t.row)

  whole_come : l.come ≡ w.head.loops
  whole_come = (whole_is l e).1 ∙ whole_loops

  whole_row : Row w.head.loops w.head.loops (w ∷ ws)
  whole_row =
      subst (λ (m : ℕ). Row m w.head.loops (w ∷ ws)) whole_loops (subst (λ (k : ℕ). Row l.loops k (w ∷ ws)) whole_come t.row)

-- A row makes its record: 34 = 1 begins it, and each further W finds it one shorter than itself. In a record of 911 = m k have come:

Stands : ℕ → ℕ → Loop → Type 0
Stands m k l = (l.loops ≡ m) × (l.come ≡ k)

-- one that is shorter than its 911 goes on
short_goes : (l : Loop) → l.come < l.loops → goes_on l ≡ l
unfolding is_whole
short_goes l h = ap (λ (t : Bool). cond (ltb 0 l.loops && t) no_loop l) (ne_eqb l.come l.loops (λ e. omega arith)) ∙ go (ltb 0 l.loops)
  where
    go : (t : Bool) → cond (t && false) no_loop l ≡ l
    go true = refl
    go false = refl

-- the first, and each further one
stands_begun : (m n : ℕ) (h : Head) (i : ℕ) (l : Loop) → h.number ≡ 1 → h.loops ≡ m → Stands m 1 (in_row h n i l)
unfolding Stands
stands_begun m n h i l e f = rw (begins h n i l e) (f, refl)

stands_next : (m k n : ℕ) (h : Head) (i : ℕ) (l : Loop) → Stands m (suc k) l → h.number ≡ suc (suc k) → h.loops ≡ m
    → Stands m (suc (suc k)) (in_row h n i l)
unfolding Stands
stands_next m k n h i l s e f =
    rw (by_next h n i l (λ q. omega arith), eq-eqb h.number (l.come + 1) (omega (arith, s.1)), eq-eqb h.loops l.loops (f ∙ sym s.0))
    (s.0, add-one l.come ∙ ap suc s.1)

-- so a row of at most its 911, by its length
row_stands : (m k n : ℕ) (w : Came) (ws : List Came) → suc k ≤ m → Row m (suc k) (w ∷ ws) → Stands m (suc k) (with_one n w ws)
unfolding Row Stands loop_after
row_stands m zero n w ws h r = stands_begun m n w.head w.who (loop_after n ws) r.0 r.1
row_stands m (suc k) n w [] h r = absurd r.2
row_stands m (suc k) n w (v ∷ vs) h r =
    let s : Stands m (suc k) (with_one n v vs) = row_stands m k n v vs (omega arith) r.2 in
    stands_next m k n w.head w.who (loop_after n (v ∷ vs))
    (rw (short_goes (with_one n v vs) (omega (arith, s.0, s.1))) s) r.0 r.1

-- and as long as its 911 it is whole
stands_whole : (m : ℕ) (l : Loop) → 0 < m → Stands m m l → is_whole l ≡ true
unfolding Stands is_whole
stands_whole m l h s = rw (lt-ltb 0 l.loops (omega (arith, s.0))) (eq-eqb l.come l.loops (s.1 ∙ sym s.0))

row_whole : (m n : ℕ) (w : Came) (ws : List Came) → 1 ≤ m → Row m m (w ∷ ws) → is_whole (with_one n w ws) ≡ true
row_whole zero n w ws h r = absurd (omega arith)
row_whole (suc k) n w ws h r = stands_whole (suc k) (with_one n w ws) h (row_stands (suc k) k n w ws (omega arith) r)

-- both ways
pub whole_is_row : WholeIsRow
whole_is_row n w ws few some =
    let t : Told n (with_one n w ws) (w ∷ ws) = told_one n w ws few (told_after n ws few) in
    record {
      row = whole_row n (with_one n w ws) w ws t;
      whole = row_whole w.head.loops n w ws some;
      low = λ e. t.low ∙ ap (λ (k : ℕ). lowest k (w ∷ ws)) (whole_come n (with_one n w ws) w ws t e);
      named = λ e i h. t.named i h ∙ ap (λ (k : ℕ). is_named i k (w ∷ ws)) (whole_come n (with_one n w ws) w ws t e);
    }

-- The record after calls is that of the W messages among them

-- a W joins the same way on every board with the same SecurityIDs
pub joined_same : (h : Head) (l : Loop) (c b : Board) → Same c b → joined_by h c l ≡ joined_by h b l
joined_same h l c b s =
    ap (λ (n : ℕ). in_row h n (look h.id c.insts) l) (same_length c b s)
    ∙ ap (λ (i : ℕ). in_row h (length b.insts) i l) (same_look h.id c b s)

-- and then the loop ends or goes on
rounded_loop : (l : Loop) (b : Board) → (rounded l b).loop ≡ goes_on l
rounded_loop l b = go (is_whole l)
  where
    go : (t : Bool) → (cond t (channel (ended l b) no_loop) (channel b l)).loop ≡ cond t no_loop l
    go true = refl
    go false = refl

-- from any channel with the SecurityIDs of b whose record is that of the W messages before
calls_loop : (b : Board) (cs : List Call) (c : Channel) (ws : List Came) → Same c.board b → c.loop ≡ loop_after (length b.insts) ws
    → (calls cs c).loop ≡ loop_after (length b.insts) (came_in b cs ws)
unfolding given loop_after
calls_loop b [] c ws s e = e
calls_loop b (fed (snapshot h us) ∷ cs) c ws s e =
    calls_loop b cs (given (snapshot h us) c).channel (record { head = h; who = look h.id b.insts } ∷ ws)
    (same_then _ c.board b (given_same (snapshot h us) c) s)
    (rounded_loop (joined_by h c.board c.loop) (feed (snapshot h us) c.board).board
    ∙ ap goes_on (joined_same h c.loop c.board b s ∙ ap (joined_by h b) e))
calls_loop b (fed (numbered n heard us) ∷ cs) c ws s e =
    calls_loop b cs (given (numbered n heard us) c).channel ws (same_then _ c.board b (given_same (numbered n heard us) c) s) e
calls_loop b (fed (refused why) ∷ cs) c ws s e =
    calls_loop b cs (given (refused why) c).channel ws (same_then _ c.board b (given_same (refused why) c) s) e
calls_loop b (aside a ∷ cs) c ws s e = calls_loop b cs c ws s e

pub loop_of_came : LoopOfCame
unfolding loop_after
loop_of_came depth ids cs =
    calls_loop (opened depth ids) cs (opened_channel depth ids) [] (same (opened depth ids)) refl
    ∙ ap (λ (n : ℕ). loop_after n (came_in (opened depth ids) cs [])) (length-map ids fresh)

-- ---- the lowest

lower_left : (a b : ℕ) → lower a b ≤ a
unfolding lower
lower_left a b = by_test (λ (k : ℕ). k ≤ a) (ltb a b) (λ _. omega arith) (λ e. ltb-false a b e)

lower_right : (a b : ℕ) → lower a b ≤ b
unfolding lower
lower_right a b = by_test (λ (k : ℕ). k ≤ b) (ltb a b) (λ e. let h = ltb-true a b e in omega arith) (λ _. omega arith)

-- one more before a row of which the lowest is known
lowest_more : (k : ℕ) (w : Came) (ws : List Came) → LowestIs (suc k) ws → LowestIs (suc (suc k)) (w ∷ ws)
unfolding lowest lower
lowest_more k w ws l = go (ltb a b) refl
  where
    a : ℕ
    a = lowest (suc k) ws

    b : ℕ
    b = w.head.last

    least : (j : ℕ) → j < suc (suc k) → lower a b ≤ last_at (w ∷ ws) j
    least zero h = lower_right a b
    least (suc j) h = let p = l.least j (le_of_suc-le-suc h) in let q = lower_left a b in omega arith

    go : (t : Bool) → ltb a b ≡ t → LowestIs (suc (suc k)) (w ∷ ws)
    go true e = record { at = suc l.at; among = omega (arith, l.among); one = rw e l.one; least = least }
    go false e = record { at = 0; among = omega arith; one = rw e; least = least }

pub lowest_of_row : LowestOfRow
unfolding Row lowest
lowest_of_row m zero ws h r = absurd (omega arith)
lowest_of_row m (suc k) [] h r = absurd r
lowest_of_row m (suc zero) (w ∷ ws) h r = record { at = 0; among = omega arith; one = refl; least = only }
  where
    only : (j : ℕ) → j < 1 → w.head.last ≤ last_at (w ∷ ws) j
    only zero l = omega arith
    only (suc j) l = absurd (omega arith)
lowest_of_row m (suc (suc k)) (w ∷ ws) h r = lowest_more k w ws (lowest_of_row m (suc k) ws (omega arith) r.2)
