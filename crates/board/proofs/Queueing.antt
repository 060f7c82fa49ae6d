-- What the queue holds for one instrument after a number, and what a message adds to it.
use mathlib.Core.Path.{◌≡◌, refl, ◌∙◌, ap}
use mathlib.Core.Bool.{Bool, true, false, cond, ◌&&◌, ◌||◌}
use mathlib.Core.List.{List, [], ◌∷◌, ◌++◌, map}
use Prim.Native.Nat.{ℕ, ◌≤◌, ◌<◌}
use native.Mathlib.Omega.{arith}
use lib.Dec.{eqb, ltb}
use borrow.Author.Tests.{eqb-true, ltb-false, lt-ltb, le-ltb}
use Rattle.book.specs.Rules.{for_all}
use Rattle.book.specs.declared.Update.{Update}
use Rattle.board.specs.Board.{Inst, Queued, look, speaks_of}
use Rattle.board.specs.Count.{aimed, joining}
use Rattle.board.specs.Snapshot.{after}
use Rattle.board.specs.Calls.{mine}
use Rattle.board.specs.Sound.{Each}

-- the entries of message n, if n is above S
unfoldable pub above : ℕ → ℕ → List Update → List Update
above S n us = cond (ltb S n) us []

pub above_none : (S n : ℕ) (us : List Update) → n ≤ S → above S n us ≡ []
unfolding above
above_none S n us h = rw (le-ltb S n h)

pub above_all : (S n : ℕ) (us : List Update) → S < n → above S n us ≡ us
unfolding above
above_all S n us h = rw (lt-ltb S n h)

pub above_map : (f : Update → Update) (S n : ℕ) (us : List Update) → above S n (map f us) ≡ map f (above S n us)
unfolding above
above_map f S n us = go (ltb S n)
  where
    go : (t : Bool) → cond t (map f us) [] ≡ map f (cond t us [])
    go true = refl
    go false = refl

pub after_append : (i S : ℕ) (p q : List Queued) → after i S (p ++ q) ≡ after i S p ++ after i S q
unfolding after
after_append i S [] q = refl
after_append i S (x ∷ p) q = go (speaks_of i x.update && ltb S x.number) (after_append i S p q)
  where
    go : (t : Bool) → after i S (p ++ q) ≡ after i S p ++ after i S q
        → cond t (x.update ∷ after i S (p ++ q)) (after i S (p ++ q)) ≡ cond t (x.update ∷ after i S p) (after i S p) ++ after i S q
    go true h = ap (x.update ∷◌) h
    go false h = h

-- an entry for all that is aimed has 0 for an index
abbrev pub FirstForAll : Update → Type 0
FirstForAll u = for_all u ≡ true → u.who ≡ 0

pub aimed_first : (xs : List Inst) (us : List Update) → Each FirstForAll (map (aimed xs) us)
aimed_first xs [] = tt
aimed_first xs (u ∷ us) = ((λ e. ap (λ (a : Bool). cond a 0 (look u.who xs)) e), aimed_first xs us)

-- so one that speaks of a followed instrument joins
speaks_joins : (i k : ℕ) (u : Update) → i < k → FirstForAll u → speaks_of i u ≡ true → u.who < k
speaks_joins i k u h first = go (for_all u) refl
  where
    go : (a : Bool) → for_all u ≡ a → a || eqb u.who i ≡ true → u.who < k
    go true e s = omega (arith, first e)
    go false e s = omega (arith, eqb-true u.who i s)

-- what a message adds to the queue for a followed instrument is all that it has for it
pub after_joining : (i S n k : ℕ) → i < k → (us : List Update) → Each FirstForAll us → after i S (joining n k us) ≡ above S n (mine i us)
unfolding after joining mine above
after_joining i S n k h [] first = go (ltb S n)
  where
    go : (t : Bool) → ◌≡◌ {A = List Update} [] (cond t [] [])
    go true = refl
    go false = refl
after_joining i S n k h (u ∷ us) first = go (speaks_of i u) (ltb u.who k) refl refl (after_joining i S n k h us first.1)
  where
    kept : (t : Bool) (l m : List Update) → l ≡ cond t m [] → cond t (u ∷ l) l ≡ cond t (u ∷ m) []
    kept true l m e = ap (u ∷◌) e
    kept false l m e = e

    go : (e f : Bool) → speaks_of i u ≡ e → ltb u.who k ≡ f → after i S (joining n k us) ≡ cond (ltb S n) (mine i us) []
        → after i S (cond f (record { number = n; update = u } ∷ joining n k us) (joining n k us)) ≡ cond (ltb S n) (cond e (u ∷ mine i us) (mine i us)) []
    go true true e f ih =
        ap (λ (t : Bool). cond (t && ltb S n) (u ∷ after i S (joining n k us)) (after i S (joining n k us))) e
        ∙ kept (ltb S n) (after i S (joining n k us)) (mine i us) ih
    go true false e f ih = absurd (omega (arith, speaks_joins i k u h first.0 e, ltb-false u.who k f))
    go false true e f ih =
        ap (λ (t : Bool). cond (t && ltb S n) (u ∷ after i S (joining n k us)) (after i S (joining n k us))) e ∙ ih
    go false false e f ih = ih
