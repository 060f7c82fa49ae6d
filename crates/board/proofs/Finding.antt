-- An instrument is found by its SecurityID at one index, which calls never move.
use mathlib.Core.Path.{◌≡◌, refl, ◌∙◌, ap, ap₂, sym}
use mathlib.Core.Bool.{Bool, true, false, cond, ◌||◌}
use mathlib.Core.List.{List, [], ◌∷◌, map}
use Prim.Native.Nat.{ℕ, ◌+◌, ◌<◌}
use native.Mathlib.Numerals.{add-one}
use native.Mathlib.Omega.{arith}
use lib.Dec.{eqb}
use lib.ListN.{length, get_or, length-map}
use borrow.Author.Tests.{eqb-true, eqb-false, eq-eqb, ne_eqb}
use Rattle.book.specs.Rules.{for_all}
use Rattle.book.specs.declared.Update.{Update}
use Rattle.board.specs.Board.{Inst, ids_of, no_inst, look}
use Rattle.board.specs.Count.{to, aimed}
use Rattle.board.specs.Calls.{mine}

-- there are as many instruments as SecurityIDs
pub length_ids : (xs ys : List Inst) → ids_of xs ≡ ids_of ys → length xs ≡ length ys
length_ids xs ys h = sym (length-map xs (λ (x : Inst). x.id)) ∙ ap length h ∙ length-map ys (λ (x : Inst). x.id)

-- where an instrument is found depends on the SecurityIDs alone
pub look_ids : (d : ℕ) (xs ys : List Inst) → ids_of xs ≡ ids_of ys → look d xs ≡ look d ys
unfolding look
look_ids d [] [] h = refl
look_ids d [] (y ∷ ys) h = cc
look_ids d (x ∷ xs) [] h = cc
look_ids d (x ∷ xs) (y ∷ ys) h =
    let e : x.id ≡ y.id = cc in
    let r : ids_of xs ≡ ids_of ys = cc in
    rw (e, look_ids d xs ys r)

-- the instrument found has the SecurityID
pub look_found : (d : ℕ) (xs : List Inst) → look d xs < length xs → (get_or xs (look d xs) no_inst).id ≡ d
unfolding look
look_found d [] h = absurd (omega arith)
look_found d (x ∷ xs) h = go (eqb x.id d) refl h (look_found d xs)
  where
    go : (t : Bool) → eqb x.id d ≡ t → cond t 0 (look d xs + 1) < length (x ∷ xs) → (look d xs < length xs → (get_or xs (look d xs) no_inst).id ≡ d)
        → (get_or (x ∷ xs) (cond t 0 (look d xs + 1)) no_inst).id ≡ d
    go true e h ih = eqb-true x.id d e
    go false e h ih = rw (add-one (look d xs)) (ih (omega arith))

-- so no other SecurityID is found there
pub look_same : (d e : ℕ) (xs : List Inst) → look d xs < length xs → eqb (look e xs) (look d xs) ≡ eqb e d
look_same d e xs h = go (eqb e d) refl
  where
    go : (t : Bool) → eqb e d ≡ t → eqb (look e xs) (look d xs) ≡ t
    go true q = eq-eqb (look e xs) (look d xs) (ap (λ (k : ℕ). look k xs) (eqb-true e d q))
    go false q =
        ne_eqb (look e xs) (look d xs)
        (λ l. eqb-false e d q
        (sym (look_found e xs (omega arith)) ∙ ap (λ (k : ℕ). (get_or xs k no_inst).id) l ∙ look_found d xs h))

-- an entry for all has the same who wherever it is aimed
to_all : (i j : ℕ) (u : Update) → for_all u ≡ true → to i u ≡ to j u
to_all i j u e =
    ap (λ (k : ℕ). record { who = k; what = u.what; action = u.action; place = u.place; entry = u.entry })
    (ap (λ (a : Bool). cond a 0 i) e ∙ sym (ap (λ (a : Bool). cond a 0 j) e))

-- a message's entries for d, aimed, are those for its index
pub mine_aimed : (d : ℕ) (xs : List Inst) → look d xs < length xs → (us : List Update)
    → mine (look d xs) (map (aimed xs) us) ≡ map (to (look d xs)) (mine d us)
unfolding mine
mine_aimed d xs h [] = refl
mine_aimed d xs h (u ∷ us) = go (for_all u) (eqb u.who d) refl refl (mine (look d xs) (map (aimed xs) us)) (mine_aimed d xs h us)
  where
    go : (a t : Bool) → for_all u ≡ a → eqb u.who d ≡ t → (rest : List Update) → rest ≡ map (to (look d xs)) (mine d us)
        → cond (a || eqb (cond a 0 (look u.who xs)) (look d xs)) (aimed xs u ∷ rest) rest
        ≡ map (to (look d xs)) (cond (a || t) (u ∷ mine d us) (mine d us))
    go true t e f rest ih = ap₂ ◌∷◌ (to_all (look u.who xs) (look d xs) u e) ih
    go false true e f rest ih =
        ap (λ (t : Bool). cond t (aimed xs u ∷ rest) rest) (look_same d u.who xs h ∙ f)
        ∙ ap₂ ◌∷◌ (ap (λ (k : ℕ). to (look k xs) u) (eqb-true u.who d f)) ih
    go false false e f rest ih = ap (λ (t : Bool). cond t (aimed xs u ∷ rest) rest) (look_same d u.who xs h ∙ f) ∙ ih
