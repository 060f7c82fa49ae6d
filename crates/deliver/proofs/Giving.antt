-- What an entry leaves in the store is the board on which the Live instrument got it.
use mathlib.Core.Path.{◌≡◌, refl, sym, ap, subst, ◌∙◌}
use mathlib.Core.Bool.{Bool, true, false, cond}
use mathlib.Core.List.{List, [], ◌∷◌, map}
use Prim.Native.Nat.{ℕ, zero, suc, ◌≤◌, ◌<◌}
use native.Mathlib.Omega.{arith}
use lib.Dec.{leb, eqb}
use lib.ListN.{length, get_or, set, length-map, length-set, get_or-map}
use lib.Seq.{ext_get_or, set_out, set-set, set-get_or, get_or-set_same, get_or-set_other}
use borrow.Author.Tests.{eqb-true, eqb-false, leb-true, leb-false}
use Rattle.book.specs.declared.Update.{Update}
use Rattle.book.specs.Rules.{leaves, breach, for_all, applied}
use Rattle.book.specs.Canonical.{lists_in}
use Rattle.book.proofs.Tests.{by_test}
use Rattle.heading.specs.Marks.{marked}
use Rattle.board.specs.Board.{Inst, Board, no_inst, at, put, broken, with_insts}
use Rattle.board.specs.Count.{landed, hit, give, gives}
use Rattle.store.specs.Meaning.{book_at, inst_at, State, st, board_in}
use Rattle.store.specs.Canon.{Formed}
use Rattle.store.proofs.Decode.{insts_length, at_board}
use Rattle.deliver.specs.Gives.{Taken, apply_s, break_s, land_s, give_to_s, give_each_s, give_s, give_all_s}
use Rattle.deliver.proofs.Outcomes.{outcome_of, step_outcome}
use Rattle.deliver.proofs.Applying.{with_book, applies, apply_formed, apply_board}
use Rattle.deliver.proofs.Breaking.{break_formed, break_board, mark_stays}

-- put twice, the last stays
put_again : (i : ℕ) (x y : Inst) (b : Board) → put i y (put i x b) ≡ put i y b
put_again i x y b = ap (λ (l : List Inst). with_insts l b) (set-set b.insts i x y)

put_own : (i : ℕ) (x : Inst) (b : Board) → i < length b.insts → at i (put i x b) ≡ x
put_own i x b h = get_or-set_same b.insts i x no_inst h

put_same : (i : ℕ) (b : Board) → put i (at i b) b ≡ b
put_same i b = ap (λ (l : List Inst). with_insts l b) (set-get_or b.insts i no_inst)

hit_live : (u : Update) (x : Inst) → x.waiting ≡ false → hit u x ≡ landed x (applied x.book u)
unfolding hit
hit_live u x e = ap (λ (b : Bool). cond b x (landed x (applied x.book u))) e

hit_waiting : (u : Update) (x : Inst) → x.waiting ≡ true → hit u x ≡ x
unfolding hit
hit_waiting u x e = ap (λ (b : Bool). cond b x (landed x (applied x.book u))) e

-- an entry for the instrument i
module _ (s : State) (f : Formed s) (u : Update) (i : ℕ) (l : i < s.head.followed) where
  abbrev took : Taken
  took = apply_s i u s.store

  land_formed : Formed (land_s i took s)
  land_formed =
      let g = apply_formed s f i l u in
      by_test Formed (eqb took.reason 0) (λ _. g) (λ _. break_formed (st s.head took.store) g i l took.reason)

  -- what the instrument gets if it is Live, as the store says it
  hit_is : marked s.head.marks i ≡ false
      → hit u (at i (board_in s)) ≡ landed (at i (board_in s)) (cond (eqb took.reason 0) (leaves (lists_in (book_at took.store i))) (breach took.reason))
  unfolding inst_at
  hit_is w =
      let x = at i (board_in s) in
      let e : x ≡ inst_at s.head.marks s.store i = at_board i s l in
      let o = sym (step_outcome (book_at s.store i) u (f.books i l)) ∙ ap outcome_of (applies s f i l u).turn in
      hit_live u x (ap (λ (y : Inst). y.waiting) e ∙ w) ∙ ap (λ (y : Inst). landed x (applied y.book u)) e ∙ ap (landed x) o

  land_board : marked s.head.marks i ≡ false → board_in (land_s i took s) ≡ put i (hit u (at i (board_in s))) (board_in s)
  land_board w = rw (hit_is w) (go (eqb took.reason 0))
    where
      go : (t : Bool)
          → board_in (cond t (st s.head took.store) (break_s i took.reason (st s.head took.store)))
          ≡ put i (landed (at i (board_in s)) (cond t (leaves (lists_in (book_at took.store i))) (breach took.reason))) (board_in s)
      go true = apply_board s f i l u
      go false =
          let r = took.reason in
          let n = insts_length s in
          let x = with_book (at i (board_in s)) (lists_in (book_at took.store i)) in
          break_board (st s.head took.store) (apply_formed s f i l u) i l r
          ∙ ap (λ (b : Board). put i (broken (at i b) r) b) (apply_board s f i l u)
          ∙ ap (λ (y : Inst). put i (broken y r) (put i x (board_in s))) (put_own i x (board_in s) (omega arith))
          ∙ put_again i x (broken (at i (board_in s)) r) (board_in s)

  to_formed : Formed (give_to_s i u s)
  to_formed = by_test Formed (marked s.head.marks i) (λ _. f) (λ _. land_formed)

  to_marks : (give_to_s i u s).head.marks ≡ 0 → s.head.marks ≡ 0
  to_marks =
      by_test (λ (t : State). t.head.marks ≡ 0 → s.head.marks ≡ 0) (marked s.head.marks i) (λ _ e. e)
      (λ _. by_test (λ (t : State). t.head.marks ≡ 0 → s.head.marks ≡ 0) (eqb took.reason 0) (λ _ e. e) (λ _ e. mark_stays s.head.marks i e))

  to_board : board_in (give_to_s i u s) ≡ put i (hit u (at i (board_in s))) (board_in s)
  unfolding inst_at
  to_board = go (marked s.head.marks i) refl
    where
      go : (w : Bool) → marked s.head.marks i ≡ w → board_in (give_to_s i u s) ≡ put i (hit u (at i (board_in s))) (board_in s)
      go true g =
          let x : (at i (board_in s)).waiting ≡ true = ap (λ (y : Inst). y.waiting) (at_board i s l) ∙ g in
          rw g (sym (ap (λ (y : Inst). put i y (board_in s)) (hit_waiting u (at i (board_in s)) x) ∙ put_same i (board_in s)))
      go false g = rw g (land_board g)

-- whoever gets it, as many are followed and queued as before
to_head : (i : ℕ) (u : Update) (s : State)
    → ((give_to_s i u s).head.followed ≡ s.head.followed) × ((give_to_s i u s).head.queued ≡ s.head.queued)
to_head i u s =
    by_test Same (marked s.head.marks i) (λ _. (refl, refl)) (λ _. by_test Same (eqb (apply_s i u s.store).reason 0) (λ _. (refl, refl)) (λ _. (refl, refl)))
  where
    Same : State → Type 0
    Same t = (t.head.followed ≡ s.head.followed) × (t.head.queued ≡ s.head.queued)

-- the first k, one after another
each_head : (k : ℕ) (u : Update) (s : State)
    → ((give_each_s k u s).head.followed ≡ s.head.followed) × ((give_each_s k u s).head.queued ≡ s.head.queued)
unfolding give_each_s
each_head zero u s = (refl, refl)
each_head (suc k) u s =
    let h = to_head k u (give_each_s k u s) in
    let g = each_head k u s in
    (h.0 ∙ g.0, h.1 ∙ g.1)

-- What holds of a state and stays as an instrument gets the entry holds when all have got it that it is for.
module _ (P : State → Type 0) (u : Update) (s : State) (f : Formed s) (p : P s)
    (stays : (i : ℕ) (t : State) → Formed t → i < t.head.followed → P t → P (give_to_s i u t)) where
  each_stays : (k : ℕ) → k ≤ s.head.followed → Formed (give_each_s k u s) × P (give_each_s k u s)
  unfolding give_each_s
  each_stays zero l = (f, p)
  each_stays (suc k) l =
      let t = give_each_s k u s in
      let (g, q) = each_stays k (omega arith) in
      let h : k < t.head.followed = omega (arith, (each_head k u s).0) in
      (to_formed t g u k h, stays k t g h q)

  pub give_stays : P (give_s u s)
  unfolding give_s
  give_stays =
      by_test P (for_all u) (λ _. (each_stays s.head.followed (omega arith)).1)
      (λ _. by_test P (leb s.head.followed u.who) (λ _. p) (λ e. stays u.who s f (leb-false _ _ e) p))

pub give_formed : (u : Update) (s : State) → Formed s → Formed (give_s u s)
give_formed u s f = give_stays Formed u s f f (λ i t g l _. to_formed t g u i l)

give_marks : (u : Update) (s : State) → Formed s → (give_s u s).head.marks ≡ 0 → s.head.marks ≡ 0
give_marks u s f =
    give_stays (λ (t : State). t.head.marks ≡ 0 → s.head.marks ≡ 0) u s f (λ e. e) (λ i t g l q e. q (to_marks t g u i l e))

give_queued : (u : Update) (s : State) → (give_s u s).head.queued ≡ s.head.queued
unfolding give_s
give_queued u s =
    by_test (λ (t : State). t.head.queued ≡ s.head.queued) (for_all u) (λ _. (each_head s.head.followed u s).1)
    (λ _. by_test (λ (t : State). t.head.queued ≡ s.head.queued) (leb s.head.followed u.who) (λ _. refl) (λ _. (to_head u.who u s).1))

-- Instruments that get an entry one after another have all got it.
module _ (u : Update) where
  abbrev first : ℕ → List Inst → List Inst
  first zero xs = xs
  first (suc k) xs = set (first k xs) k (hit u (get_or (first k xs) k no_inst))

  first_length : (k : ℕ) (xs : List Inst) → length (first k xs) ≡ length xs
  first_length zero xs = refl
  first_length (suc k) xs = length-set (first k xs) k (hit u (get_or (first k xs) k no_inst)) ∙ first_length k xs

  first_past : (k j : ℕ) (xs : List Inst) → k ≤ j → get_or (first k xs) j no_inst ≡ get_or xs j no_inst
  first_past zero j xs l = refl
  first_past (suc k) j xs l =
      get_or-set_other (first k xs) k j (hit u (get_or (first k xs) k no_inst)) no_inst (λ e. omega arith) ∙ first_past k j xs (omega arith)

  first_at : (k j : ℕ) (xs : List Inst) → j < k → k ≤ length xs → get_or (first k xs) j no_inst ≡ hit u (get_or xs j no_inst)
  first_at zero j xs l n = absurd (omega arith)
  first_at (suc k) j xs l n = go (eqb j k) refl (first_at k j xs)
    where
      x : Inst
      x = hit u (get_or (first k xs) k no_inst)

      go : (t : Bool) → eqb j k ≡ t → (j < k → k ≤ length xs → get_or (first k xs) j no_inst ≡ hit u (get_or xs j no_inst))
          → get_or (set (first k xs) k x) j no_inst ≡ hit u (get_or xs j no_inst)
      go true e ih =
          let q : j ≡ k = eqb-true j k e in
          subst (λ (m : ℕ). get_or (set (first k xs) k x) m no_inst ≡ hit u (get_or xs m no_inst)) (sym q)
          (get_or-set_same (first k xs) k x no_inst (omega (arith, first_length k xs)) ∙ ap (hit u) (first_past k k xs (omega arith)))
      go false e ih =
          let q = eqb-false j k e in
          get_or-set_other (first k xs) k j x no_inst q ∙ ih (omega arith) (omega arith)

  first_all : (xs : List Inst) → first (length xs) xs ≡ map (hit u) xs
  unfolding hit
  first_all xs =
      ext_get_or no_inst (first (length xs) xs) (map (hit u) xs) (first_length (length xs) xs ∙ sym (length-map xs (hit u)))
      (λ j l. first_at (length xs) j xs (omega (arith, first_length (length xs) xs)) (omega arith) ∙ sym (get_or-map (hit u) xs j no_inst))

  each_board : (k : ℕ) (s : State) → Formed s → k ≤ s.head.followed → board_in (give_each_s k u s) ≡ with_insts (first k (board_in s).insts) (board_in s)
  unfolding give_each_s
  each_board zero s f l = refl
  each_board (suc k) s f l =
      let t = give_each_s k u s in
      let g : Formed t = (each_stays Formed u s f f (λ i t g l _. to_formed t g u i l) k (omega arith)).0 in
      to_board t g u k (omega (arith, (each_head k u s).0)) ∙ ap (λ (b : Board). put k (hit u (at k b)) b) (each_board k s f (omega arith))

pub give_board : (u : Update) (s : State) → Formed s → board_in (give_s u s) ≡ give u (board_in s)
unfolding give_s give
give_board u s f = go (for_all u) (leb s.head.followed u.who) refl
  where
    x : Inst
    x = hit u (at u.who (board_in s))

    go : (a b : Bool) → leb s.head.followed u.who ≡ b
        → board_in (cond a (give_each_s s.head.followed u s) (cond b s (give_to_s u.who u s)))
        ≡ with_insts (cond a (map (hit u) (board_in s).insts) (set (board_in s).insts u.who x)) (board_in s)
    go true b e =
        each_board u s.head.followed s f (omega arith)
        ∙ ap (λ (k : ℕ). with_insts (first u k (board_in s).insts) (board_in s)) (sym (insts_length s))
        ∙ ap (λ (xs : List Inst). with_insts xs (board_in s)) (first_all u (board_in s).insts)
    go false true e =
        let n = insts_length s in
        let q : s.head.followed ≤ u.who = leb-true _ _ e in
        sym (ap (λ (xs : List Inst). with_insts xs (board_in s)) (set_out (board_in s).insts u.who x (omega arith)))
    go false false e = to_board s f u u.who (leb-false _ _ e)

-- the entries of a message
pub gives_formed : (us : List Update) (s : State) → Formed s → Formed (give_all_s us s)
unfolding give_all_s
gives_formed [] s f = f
gives_formed (u ∷ us) s f = gives_formed us (give_s u s) (give_formed u s f)

pub gives_queued : (us : List Update) (s : State) → (give_all_s us s).head.queued ≡ s.head.queued
unfolding give_all_s
gives_queued [] s = refl
gives_queued (u ∷ us) s = gives_queued us (give_s u s) ∙ give_queued u s

-- delivery makes none Live
pub gives_marks : (us : List Update) (s : State) → Formed s → (give_all_s us s).head.marks ≡ 0 → s.head.marks ≡ 0
unfolding give_all_s
gives_marks [] s f e = e
gives_marks (u ∷ us) s f e = give_marks u s f (gives_marks us (give_s u s) (give_formed u s f) e)

pub gives_board : (us : List Update) (s : State) → Formed s → board_in (give_all_s us s) ≡ gives us (board_in s)
unfolding give_all_s gives
gives_board [] s f = refl
gives_board (u ∷ us) s f = gives_board us (give_s u s) (give_formed u s f) ∙ ap (gives us) (give_board u s f)
