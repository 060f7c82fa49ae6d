-- What an action leaves of a list of entries: at most 20 of them, and none but those that were held and the new one.
use mathlib.Core.Path.{◌≡◌}
use mathlib.Core.Bool.{cond}
use mathlib.Core.List.{List, ◌∷◌, ◌++◌}
use Prim.Native.Nat.{ℕ, ◌+◌, ◌-◌, ◌≤◌, ◌<◌}
use native.Mathlib.Omega.{arith}
use lib.Dec.{ltb, eqb}
use lib.ListN.{length, take, drop, length-append, length-take, length-drop}
use borrow.Author.Tests.{ltb-true, eqb-true}
use Rattle.book.specs.declared.Entry.{Entry}
use Rattle.book.specs.Rules.{most_places, bad_place, Outcome, leaves, breach, is_place, after_new, after_change, after_delete, after_thru, after_from, after_action}
use Rattle.book.specs.Canonical.{All}
use Rattle.book.proofs.Tests.{by_test, place_is}
use Rattle.book.proofs.Every.{all_append, all_take, all_drop}

-- what an outcome leaves, if it leaves anything, has the property Q
abbrev pub Leaves : (List Entry → Type 0) → Outcome (List Entry) → Type 0
Leaves Q (leaves l) = Q l
Leaves Q (breach r) = Unit {0}

-- an action leaves what has Q if each of the five lists has it
module _ (Q : List Entry → Type 0) (l : List Entry) (p : ℕ) where
  at_leaves : (m : List Entry) → (1 ≤ p → p ≤ length l → Q m) → Leaves Q (cond (is_place p (length l)) (leaves m) (breach bad_place))
  at_leaves m h = by_test (Leaves Q) (is_place p (length l)) (λ a. let q = place_is p (length l) a in h q.0 q.1) (λ _. tt)

  after_leaves : (action : ℕ) (e : Entry)
      → (action ≡ 0 → 1 ≤ p → p ≤ length l + 1 → length l < most_places → Q (take (p - 1) l ++ e ∷ drop (p - 1) l))
      → (action ≡ 1 → 1 ≤ p → p ≤ length l → Q (take (p - 1) l ++ e ∷ drop p l))
      → (1 ≤ p → p ≤ length l → Q (take (p - 1) l ++ drop p l))
      → (1 ≤ p → p ≤ length l → Q (drop p l))
      → (1 ≤ p → p ≤ length l → Q (take (p - 1) l))
      → Leaves Q (after_action l action p e)
  unfolding after_action after_new after_change after_delete after_thru after_from
  after_leaves action e hn hc hd ht hf =
      by_test (Leaves Q) (eqb action 0)
      (λ z.
      by_test (Leaves Q) (is_place p (length l + 1))
      (λ a.
      let q = place_is p (length l + 1) a in
      by_test (Leaves Q) (ltb (length l) most_places) (λ r. hn (eqb-true action 0 z) q.0 q.1 (ltb-true (length l) most_places r)) (λ _. tt))
      (λ _. tt))
      (λ _.
      by_test (Leaves Q) (eqb action 1) (λ z. at_leaves _ (hc (eqb-true action 1 z)))
      (λ _. by_test (Leaves Q) (eqb action 2) (λ _. at_leaves _ hd)
      (λ _. by_test (Leaves Q) (eqb action 3) (λ _. at_leaves _ ht) (λ _. by_test (Leaves Q) (eqb action 4) (λ _. at_leaves _ hf) (λ _. tt)))))

-- at most 20 stay at most 20
pub after_fits : (l : List Entry) (action p : ℕ) (e : Entry) → length l ≤ most_places → Leaves (λ m. length m ≤ most_places) (after_action l action p e)
after_fits l action p e h =
    after_leaves (λ m. length m ≤ most_places) l p action e (λ _ a b r. simp (length-append, length-take, length-drop) (omega arith))
    (λ _ a b. simp (length-append, length-take, length-drop) (omega arith))
    (λ a b. simp (length-append, length-take, length-drop) (omega arith))
    (λ a b. simp length-drop (omega arith))
    (λ a b. simp length-take (omega arith))

-- what holds of all that were held, and of what is new or changed, holds of all that are left
pub after_all : (P : Entry → Type 0) (l : List Entry) (action p : ℕ) (e : Entry) → All P l → (action ≤ 1 → P e) → Leaves (All P) (after_action l action p e)
after_all P l action p e h g =
    after_leaves (All P) l p action e
    (λ z a b r. all_append P (take (p - 1) l) _ (all_take P (p - 1) l h) (g (omega arith), all_drop P (p - 1) l h))
    (λ z a b. all_append P (take (p - 1) l) _ (all_take P (p - 1) l h) (g (omega arith), all_drop P p l h))
    (λ a b. all_append P (take (p - 1) l) _ (all_take P (p - 1) l h) (all_drop P p l h))
    (λ a b. all_drop P p l h)
    (λ a b. all_take P (p - 1) l h)
