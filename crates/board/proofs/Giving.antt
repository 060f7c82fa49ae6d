-- What a message's entries do to one instrument: its own entries and those for all are all that touch it, and nothing but instruments moves.
use mathlib.Core.Path.{◌≡◌, refl, ◌∙◌, ap, ap₂, sym, subst}
use mathlib.Core.Bool.{Bool, true, false, cond, ◌||◌, true≢false}
use mathlib.Core.List.{List, [], ◌∷◌, map}
use Prim.Native.Nat.{ℕ, ◌<◌}
use lib.Dec.{eqb}
use lib.ListN.{length, get_or, set, length-map, length-set, get_or-map}
use lib.Seq.{get_or-set_same, get_or-set_other, map-set_same}
use borrow.Author.Tests.{eqb-true, eqb-false}
use Rattle.book.specs.Rules.{Lists, Outcome, leaves, breach, for_all, applied}
use Rattle.book.specs.declared.Update.{Update}
use Rattle.board.specs.Board.{Inst, Board, ids_of, speaks_of, no_inst, at, with_insts, put, broken}
use Rattle.board.specs.Count.{landed, hit, give, gives}
use Rattle.board.specs.Snapshot.{and_then, run}
use Rattle.board.specs.Calls.{mine}

-- entries that reach one instrument, in order
unfoldable pub hits : List Update → Inst → Inst
hits [] x = x
hits (u ∷ us) x = hits us (hit u x)

-- Putting an instrument

pub at_put_same : (i : ℕ) (x : Inst) (b : Board) → i < length b.insts → at i (put i x b) ≡ x
at_put_same i x b h = get_or-set_same b.insts i x no_inst h

pub at_put_other : (i j : ℕ) (x : Inst) (b : Board) → (j ≡ i → ⊥) → at j (put i x b) ≡ at j b
at_put_other i j x b h = get_or-set_other b.insts i j x no_inst h

-- an instrument put with its own SecurityID leaves them all
pub ids_put : (i : ℕ) (x : Inst) (b : Board) → x.id ≡ (at i b).id → ids_of (put i x b).insts ≡ ids_of b.insts
ids_put i x b h = map-set_same (λ (x : Inst). x.id) b.insts i x no_inst h

-- One entry

hit_id : (u : Update) (x : Inst) → (hit u x).id ≡ x.id
unfolding hit
hit_id u x = go x.waiting (applied x.book u)
  where
    go : (w : Bool) (o : Outcome Lists) → (cond w x (landed x o)).id ≡ x.id
    go true o = refl
    go false (leaves b) = refl
    go false (breach r) = refl

give_at : (u : Update) (i : ℕ) (b : Board) → i < length b.insts → at i (give u b) ≡ cond (speaks_of i u) (hit u (at i b)) (at i b)
unfolding give hit
give_at u i b h = go (for_all u) (eqb u.who i) refl
  where
    go : (a t : Bool) → eqb u.who i ≡ t
        → get_or (cond a (map (hit u) b.insts) (set b.insts u.who (hit u (at u.who b)))) i no_inst ≡ cond (a || t) (hit u (at i b)) (at i b)
    go true t e = get_or-map (hit u) b.insts i no_inst
    go false true e =
        let q : u.who ≡ i = eqb-true u.who i e in
        subst (λ (k : ℕ). at i (put k (hit u (at k b)) b) ≡ hit u (at i b)) (sym q) (at_put_same i (hit u (at i b)) b h)
    go false false e = at_put_other u.who i (hit u (at u.who b)) b (λ q. eqb-false u.who i e (sym q))

give_length : (u : Update) (b : Board) → length (give u b).insts ≡ length b.insts
unfolding give
give_length u b = go (for_all u)
  where
    go : (a : Bool) → length (cond a (map (hit u) b.insts) (set b.insts u.who (hit u (at u.who b)))) ≡ length b.insts
    go true = length-map b.insts (hit u)
    go false = length-set b.insts u.who (hit u (at u.who b))

ids_hit : (u : Update) (xs : List Inst) → ids_of (map (hit u) xs) ≡ ids_of xs
ids_hit u [] = refl
ids_hit u (x ∷ xs) = ap₂ ◌∷◌ (hit_id u x) (ids_hit u xs)

give_ids : (u : Update) (b : Board) → ids_of (give u b).insts ≡ ids_of b.insts
unfolding give
give_ids u b = go (for_all u)
  where
    go : (a : Bool) → ids_of (cond a (map (hit u) b.insts) (set b.insts u.who (hit u (at u.who b)))) ≡ ids_of b.insts
    go true = ids_hit u b.insts
    go false = ids_put u.who (hit u (at u.who b)) b (hit_id u (at u.who b))

-- A message's entries

-- nothing but the instruments moves
pub gives_only : (us : List Update) (b : Board) → gives us b ≡ with_insts (gives us b).insts b
unfolding gives give
gives_only [] b = refl
gives_only (u ∷ us) b = gives_only us (give u b)

pub gives_ids : (us : List Update) (b : Board) → ids_of (gives us b).insts ≡ ids_of b.insts
unfolding gives
gives_ids [] b = refl
gives_ids (u ∷ us) b = gives_ids us (give u b) ∙ give_ids u b

-- each instrument gets the entries that speak of it, and no others
pub gives_at : (us : List Update) (i : ℕ) (b : Board) → i < length b.insts → at i (gives us b) ≡ hits (mine i us) (at i b)
unfolding gives mine hits
gives_at [] i b h = refl
gives_at (u ∷ us) i b h =
    gives_at us i (give u b) (rw (give_length u b) h)
    ∙ ap (hits (mine i us)) (give_at u i b h)
    ∙ go (speaks_of i u)
  where
    go : (t : Bool) → hits (mine i us) (cond t (hit u (at i b)) (at i b)) ≡ hits (cond t (u ∷ mine i us) (mine i us)) (at i b)
    go true = refl
    go false = refl

-- A Waiting instrument passes its entries over; one that is Live after them was Live before, and they ran on its book.

pub hits_waiting : (us : List Update) (x : Inst) → x.waiting ≡ true → hits us x ≡ x
unfolding hits hit
hits_waiting [] x w = refl
hits_waiting (u ∷ us) x w = ap (hits us) (rw w) ∙ hits_waiting us x w

pub live_before : (us : List Update) (x : Inst) → (hits us x).waiting ≡ false → x.waiting ≡ false
live_before us x l = go x.waiting refl
  where
    go : (w : Bool) → x.waiting ≡ w → x.waiting ≡ false
    go true w = sym (ap (λ (y : Inst). y.waiting) (hits_waiting us x w)) ∙ l
    go false w = w

hit_live : (u : Update) (x : Inst) → x.waiting ≡ false → hit u x ≡ landed x (applied x.book u)
unfolding hit
hit_live u x w = ap (λ (t : Bool). cond t x (landed x (applied x.book u))) w

pub live_ran : (us : List Update) (x : Inst) → x.waiting ≡ false → (hits us x).waiting ≡ false → run us x.book ≡ leaves (hits us x).book
unfolding hits run
live_ran [] x w l = refl
live_ran (u ∷ us) x w l =
    go (applied x.book u) (hit_live u x w) (live_ran us)
  where
    go : (o : Outcome Lists) → hit u x ≡ landed x o
        → ((y : Inst) → y.waiting ≡ false → (hits us y).waiting ≡ false → run us y.book ≡ leaves (hits us y).book)
        → and_then o (run us) ≡ leaves (hits us (hit u x)).book
    go (leaves c) e ih =
        ih (landed x (leaves c)) w (subst (λ (y : Inst). (hits us y).waiting ≡ false) e l)
        ∙ ap (λ (y : Inst). leaves (hits us y).book) (sym e)
    go (breach r) e ih =
        let q : (hits us (broken x r)).waiting ≡ false = subst (λ (y : Inst). (hits us y).waiting ≡ false) e l in
        absurd (true≢false (sym (ap (λ (y : Inst). y.waiting) (hits_waiting us (broken x r) refl)) ∙ q))
