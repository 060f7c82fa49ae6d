-- Whenever an instrument is Live, whether the stream broke it before or not, its book is the true one at H.
use mathlib.Core.Path.{◌≡◌, refl, ◌∙◌, ap, ap₂, sym, subst}
use mathlib.Core.Bool.{Bool, true, false, true≢false}
use mathlib.Core.List.{List, [], ◌∷◌, ◌++◌, map}
use Prim.Native.Nat.{ℕ, suc, ◌-◌, ◌≤◌, ◌<◌}
use native.Mathlib.Omega.{arith}
use lib.Dec.{eqb, ltb}
use lib.ListN.{length, get_or, length-map, get_or-eq_default, get_or-map}
use borrow.Author.Tests.{ltb-true, ltb-false, eqb-true, eqb-false}
use Rattle.book.specs.Rules.{Lists, leaves}
use Rattle.book.specs.declared.Update.{Update}
use Rattle.message.specs.Message.{numbered, snapshot, refused}
use Rattle.book.proofs.Tests.{by_test}
use Rattle.board.specs.Board.{Inst, Board, Out, any_waiting, fresh, opened, look, no_inst, at, with_insts, put, let_go, settled}
use Rattle.board.specs.Count.{to, aimed, joining, gives, counted, longer, joined, count, clear, cleared, number}
use Rattle.board.specs.Snapshot.{shown, run, after, take, too_wide, snap_by, snap}
use Rattle.board.specs.Feed.{feed}
use Rattle.board.specs.Calls.{Call, fed, aside, called, calls, Throughout, is_counted, Live, mine}
use Rattle.board.specs.Demand.{Truth, Fair, Recovers}
use Rattle.board.specs.Sound.{Each}
use Rattle.board.proofs.Running.{run_to}
use Rattle.board.proofs.Finding.{look_found, mine_aimed}
use Rattle.board.proofs.Giving.{hits, at_put_same, at_put_other, gives_only, gives_at, live_before, live_ran}
use Rattle.board.proofs.Queueing.{FirstForAll, aimed_first, above, above_map, after_append, after_joining}
use Rattle.board.proofs.Pending.{pending, pending_none, replay_true}
use Rattle.board.proofs.Cases.{count_is, number_is, snap_by_lem, take_is}
use Rattle.board.proofs.Answers.{count_counted}
use Rattle.board.proofs.Staying.{same_call, same_calls, same_length, same_look}

map_append : (f : Update → Update) (us vs : List Update) → map f (us ++ vs) ≡ map f us ++ map f vs
map_append f [] vs = refl
map_append f (u ∷ us) vs = ap (f u ∷◌) (map_append f us vs)

module _ (s : ℕ → List Update) (t : ℕ → Lists) (i : ℕ) where
  -- Live means that the book is the true one at h.
  abbrev LiveTrue : ℕ → Inst → Type 0
  LiveTrue h x = x.waiting ≡ false → x.book ≡ t h

  -- The invariant of the instrument at index i, h being the last counted number: for each S from B on the queue holds for it exactly
  -- the stream's entries of the messages S+1 to h, whatever the marks are.
  record HoldsAt (h : ℕ) (b : Board) : Type 0 where
    live : LiveTrue h (at i b)
    full : (S : ℕ) → b.B ≤ S → after i S b.queue ≡ map (to i) (pending s S h)

  abbrev Holds : Board → Type 0
  Holds b = HoldsAt b.H b

  -- an empty queue with B at h or above has all that came after B
  full_empty : (h S : ℕ) → h ≤ S → [] ≡ map (to i) (pending s S h)
  full_empty h S l = sym (ap (map (to i)) (pending_none s S h l))

  -- Overflow, the last one going Live, a break with none waiting: with the queue let go nothing is lost.
  holds_let_go : (b : Board) → LiveTrue b.H (at i b) → Holds (let_go b)
  unfolding after
  holds_let_go b h = record { live = h; full = full_empty b.H }

  holds_settled : (b : Board) → Holds b → Holds (settled true b)
  holds_settled b g = by_test Holds (any_waiting b.insts) (λ _. g) (λ _. holds_let_go b g.live)

  holds_waiting : (h : ℕ) (b : Board) → (at i b).waiting ≡ true → h ≤ b.B → b.queue ≡ [] → HoldsAt h b
  unfolding after
  holds_waiting h b w l e =
      record { live = λ f. absurd (true≢false (sym w ∙ f)); full = λ S k. ap (after i S) e ∙ full_empty h S (omega arith) }

  module _ (truth : Truth s t) where
    -- Message n, whose entries for the instrument are the stream's
    module _ (h n : ℕ) (us : List Update) (next : n ≡ suc h) (first : Each FirstForAll us) (own : mine i us ≡ map (to i) (s n)) where
      live_next : (b : Board) → i < length b.insts → LiveTrue h (at i b) → LiveTrue n (at i (gives us b))
      live_next b inside g l =
          let y = hits (mine i us) (at i b) in
          let e : at i (gives us b) ≡ y = gives_at us i b inside in
          let l' : y.waiting ≡ false = subst (λ (x : Inst). x.waiting ≡ false) e l in
          let w : (at i b).waiting ≡ false = live_before (mine i us) (at i b) l' in
          let r : run (s n) (at i b).book ≡ leaves y.book =
          sym (run_to i (s n) (at i b).book) ∙ ap (λ (v : List Update). run v (at i b).book) (sym own) ∙ live_ran (mine i us) (at i b) w l' in
          let r' : run (s (suc h)) (t h) ≡ leaves y.book =
          subst (λ (m : ℕ). run (s m) (t h) ≡ leaves y.book) next (subst (λ (z : Lists). run (s n) z ≡ leaves y.book) (g w) r) in
          ap (λ (x : Inst). x.book) e ∙ truth h y.book r' ∙ ap t (sym next)

      full_next : (b : Board) → i < length b.insts → HoldsAt h b → (S : ℕ) → b.B ≤ S → after i S (longer n us b) ≡ map (to i) (pending s S n)
      unfolding pending
      full_next b inside g S l =
          after_append i S b.queue (joining n (length b.insts) us)
          ∙ ap₂ ◌++◌ (g.full S l) (after_joining i S n (length b.insts) inside us first ∙ ap (above S n) own ∙ above_map (to i) S n (s n))
          ∙ sym (map_append (to i) (pending s S h) (above S n (s n)))
          ∙ ap (map (to i)) (subst (λ (m : ℕ). pending s S h ++ above S m (s m) ≡ pending s S m) (sym next) refl)

      count_holds : (a heard : ℕ) (b : Board) → i < length b.insts → HoldsAt h b → Holds (count a n heard us b).board
      count_holds a heard b inside g =
          count_is (λ o. Holds o.board) a n heard us b
          (λ _. given false c (holds_let_go (with_insts (gives us c).insts c) (live_next c inside g.live)))
          (λ over _. given true (joined over n us c) (holds_settled (with_insts (gives us (joined over n us c)).insts (joined over n us c)) (queued over)))
        where
          c : Board
          c = counted n heard b

          -- nothing but instruments moves as Live ones get their entries
          given : (w : Bool) (c : Board) → Holds (settled w (with_insts (gives us c).insts c)) → Holds (settled w (gives us c))
          given w c k = subst (λ (d : Board). Holds (settled w d)) (sym (gives_only us c)) k

          -- let go, or with the message
          queued : (over : Bool) → Holds (with_insts (gives us (joined over n us c)).insts (joined over n us c))
          queued true = holds_let_go (with_insts (gives us (joined true n us c)).insts c) (live_next (joined true n us c) inside g.live)
          queued false = record { live = live_next (joined false n us c) inside g.live; full = full_next b inside g }

    number_holds : (n heard : ℕ) (us : List Update) (b : Board) → i < length b.insts → Each FirstForAll us
        → (is_counted (number n heard us b).answer ≡ true → mine i us ≡ map (to i) (s n))
        → Holds b → Holds (number n heard us b).board
    number_holds n heard us b inside first own g =
        number_is (λ o. (is_counted o.answer ≡ true → mine i us ≡ map (to i) (s n)) → Holds o.board) n heard us b
        (λ _ _ _. g)
        (λ e own. count_holds b.H n us e first (own (count_counted 0 n heard us b refl)) 0 heard b inside g)
        (λ l own.
        count_holds (n - 1) n us (omega arith) first (own (count_counted 1 n heard us (cleared n b) refl)) 1 heard (cleared n b)
        (rw (length-map b.insts clear) inside)
        (holds_waiting (n - 1) (cleared n b) (ap (λ (x : Inst). x.waiting) (get_or-map clear b.insts i no_inst)) (omega arith) refl))
        own

    -- A snapshot for the instrument at j
    put_holds : (j : ℕ) (x : Inst) (b : Board) → i < length b.insts → (j ≡ i → LiveTrue b.H x) → Holds b → Holds (settled true (put j x b))
    put_holds j x b inside new g = holds_settled (put j x b) (record { live = go (eqb i j) refl; full = g.full })
      where
        go : (k : Bool) → eqb i j ≡ k → LiveTrue b.H (at i (put j x b))
        go true e =
            let q : i ≡ j = eqb-true i j e in
            subst (LiveTrue b.H) (sym (subst (λ (k : ℕ). at i (put k x b) ≡ x) q (at_put_same i x b inside))) (new (sym q))
        go false e = subst (LiveTrue b.H) (sym (at_put_other j i x b (eqb-false i j e))) g.live

    snap_holds : (d S : ℕ) (l : Lists) (b : Board) → i < length b.insts → ((snap d S l b).answer ≡ 4 → look d b.insts ≡ i → l ≡ t S)
        → Holds b → Holds (snap d S l b).board
    snap_holds d S l b inside right g = snap_by_lem Goal d S l b go right
      where
        j : ℕ
        j = look d b.insts

        Goal : Out → Type 0
        Goal o = (o.answer ≡ 4 → j ≡ i → l ≡ t S) → Holds o.board

        -- the queue had the stream's entries after S, and the snapshot the true book at S
        replayed : b.B ≤ S → S ≤ b.H → (c : Lists) → run (after i S b.queue) l ≡ leaves c → l ≡ t S → c ≡ t b.H
        replayed lo hi c e q =
            replay_true s t truth S b.H hi c
            (subst (λ (z : Lists). run (pending s S b.H) z ≡ leaves c) q
            (sym (run_to i (pending s S b.H) l) ∙ ap (λ (v : List Update). run v l) (sym (g.full S lo)) ∙ e))

        taken : b.B ≤ S → S ≤ b.H → Goal (take j S l b)
        taken lo hi =
            take_is Goal j S l b
            (λ c e right.
            put_holds j _ b inside (λ q _. replayed lo hi c (subst (λ (k : ℕ). run (after k S b.queue) l ≡ leaves c) q e) (right refl q)) g)
            (λ r _ _. put_holds j _ b inside (λ _ f. absurd (true≢false f)) g)

        go : (f w below above wide : Bool) → ltb j (length b.insts) ≡ f → ltb S b.B ≡ below → ltb b.H S ≡ above → too_wide l ≡ wide
            → Goal (snap_by f w below above wide j S l b)
        go false w below above wide _ _ _ _ = λ _. g
        go true false below above wide _ _ _ _ = λ _. g
        go true true true above wide _ _ _ _ = λ _. g
        go true true false true wide _ _ _ _ = λ _. g
        go true true false false true _ _ _ _ = λ _. g
        go true true false false false _ p q _ = taken (ltb-false S b.B p) (ltb-false b.H S q)

-- The calls, of the SecurityID d that is found at i
module _ (d : ℕ) (s : ℕ → List Update) (t : ℕ → Lists) (i : ℕ) where
  call_holds : Truth s t → (c : Call) (b : Board) → look d b.insts ≡ i → i < length b.insts → Fair d s t c b
      → Holds s t i b → Holds s t i (called c b).board
  unfolding feed
  call_holds truth (fed (numbered n heard us)) b found inside fair g =
      number_holds s t i truth n heard (map (aimed b.insts) us) b inside (aimed_first b.insts us) (λ a. own (fair a)) g
    where
      own : mine d us ≡ s n → mine i (map (aimed b.insts) us) ≡ map (to i) (s n)
      own e =
          subst (λ (k : ℕ). k < length b.insts → mine k (map (aimed b.insts) us) ≡ map (to k) (s n)) found
          (λ l. mine_aimed d b.insts l us ∙ ap (map (to (look d b.insts))) e) inside
  call_holds truth (fed (snapshot h us)) b found inside fair g =
      snap_holds s t i truth h.id h.last (shown us) b inside (λ a e. fair a (is_d e)) g
    where
      is_d : look h.id b.insts ≡ i → h.id ≡ d
      is_d e =
          sym (look_found h.id b.insts (rw e inside))
          ∙ ap (λ (k : ℕ). (get_or b.insts k no_inst).id) (e ∙ sym found)
          ∙ look_found d b.insts (rw found inside)
  call_holds truth (fed (refused why)) b found inside fair g = g
  call_holds truth (aside a) b found inside fair g = g

  calls_hold : Truth s t → (cs : List Call) (b : Board) → look d b.insts ≡ i → i < length b.insts → Throughout (Fair d s t) cs b
      → Holds s t i b → Holds s t i (calls cs b)
  calls_hold truth [] b found inside fair g = g
  calls_hold truth (c ∷ cs) b found inside fair g =
      let b' = (called c b).board in
      calls_hold truth cs b' (same_look d b' b (same_call c b) ∙ found) (rw (same_length b' b (same_call c b)) inside) fair.1
      (call_holds truth c b found inside fair.0 g)

  opened_holds : (depth : ℕ) (ids : List ℕ) → Holds s t i (opened depth ids)
  opened_holds depth ids =
      holds_waiting s t i 0 (opened depth ids) (ap (λ (x : Inst). x.waiting) (get_or-map fresh ids i 0)) (omega arith) refl

-- an instrument that isn't followed is not Live
pub live_followed : (d : ℕ) (b : Board) → Live d b → look d b.insts < length b.insts
live_followed d b l = go (ltb (look d b.insts) (length b.insts)) refl
  where
    go : (t : Bool) → ltb (look d b.insts) (length b.insts) ≡ t → look d b.insts < length b.insts
    go true e = ltb-true _ _ e
    go false e =
        absurd (true≢false
        (sym (ap (λ (x : Inst). x.waiting) (get_or-eq_default b.insts no_inst (ltb-false (look d b.insts) (length b.insts) e))) ∙ l))

pub recovers : Recovers
recovers d s t truth depth ids cs fair l =
    let o = opened depth ids in
    let b = calls cs o in
    let i = look d o.insts in
    let found : look d b.insts ≡ i = same_look d b o (same_calls cs o) in
    let many : length b.insts ≡ length o.insts = same_length b o (same_calls cs o) in
    let inside : i < length o.insts = rw (← found, ← many) (live_followed d b l) in
    let g = calls_hold d s t i truth cs o refl inside fair (opened_holds d s t i depth ids) in
    subst (λ (k : ℕ). LiveTrue s t k b.H (at k b)) (sym found) g.live l
