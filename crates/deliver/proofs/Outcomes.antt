-- What a book of 20 places a side leaves, and its reason, say the same as document 01's outcome on the two lists.
use mathlib.Core.Path.{◌≡◌, ap, ◌∙◌}
use mathlib.Core.Bool.{cond}
use mathlib.Core.List.{List}
use Prim.Native.Nat.{ℕ, ◌+◌}
use native.Mathlib.Omega.{arith}
use lib.Dec.{ltb, eqb}
use lib.ListN.{length}
use borrow.Author.Tests.{ne_eqb}
use Rattle.book.specs.declared.Entry.{Entry}
use Rattle.book.specs.declared.Book.{Book}
use Rattle.book.specs.declared.Update.{Update}
use Rattle.book.specs.Rules.{Outcome, leaves, breach, is_place, after_new, after_change, after_delete, after_thru, after_from, after_action, Lists, with_bids, with_offers, applied}
use Rattle.book.specs.Sides.{Turn, book_step}
use Rattle.book.specs.Canonical.{KeptBook, lists_in, book_of, turn_of}
use Rattle.book.proofs.Tests.{by_test}
use Rattle.book.proofs.Canon.{held_of}
use Rattle.book.proofs.Listed.{book_listed}
use Rattle.book.proofs.Keeping.{kept_apply}

-- a breach has a reason
abbrev Reasoned : {A : Type 0} → Outcome A → Type 0
Reasoned (leaves x) = Unit {0}
Reasoned (breach r) = r ≡ 0 → ⊥

after_reasoned : (l : List Entry) (action p : ℕ) (e : Entry) → Reasoned (after_action l action p e)
unfolding after_action after_new after_change after_delete after_thru after_from
after_reasoned l action p e =
    by_test Reasoned (eqb action 0)
    (λ _. by_test Reasoned (is_place p (length l + 1)) (λ _. by_test Reasoned (ltb (length l) 20) (λ _. tt) (λ _ z. omega arith)) (λ _ z. omega arith))
    (λ _. by_test Reasoned (eqb action 1) (λ _. held _)
    (λ _. by_test Reasoned (eqb action 2) (λ _. held _)
    (λ _. by_test Reasoned (eqb action 3) (λ _. held _) (λ _. by_test Reasoned (eqb action 4) (λ _. held _) (λ _ z. omega arith)))))
  where
    held : (m : List Entry) → Reasoned (cond (is_place p (length l)) (leaves m) (breach 1))
    held m = by_test Reasoned (is_place p (length l)) (λ _. tt) (λ _ z. omega arith)

bids_reasoned : (b : Lists) (o : Outcome (List Entry)) → Reasoned o → Reasoned (with_bids b o)
bids_reasoned b (leaves l) h = tt
bids_reasoned b (breach r) h = h

offers_reasoned : (b : Lists) (o : Outcome (List Entry)) → Reasoned o → Reasoned (with_offers b o)
offers_reasoned b (leaves l) h = tt
offers_reasoned b (breach r) h = h

applied_reasoned : (b : Lists) (u : Update) → Reasoned (applied b u)
unfolding applied
applied_reasoned b u =
    by_test Reasoned (eqb u.what 0) (λ _. bids_reasoned b (after_action b.bids u.action u.place u.entry) (after_reasoned b.bids u.action u.place u.entry))
    (λ _. by_test Reasoned (eqb u.what 1) (λ _. offers_reasoned b (after_action b.offers u.action u.place u.entry) (after_reasoned b.offers u.action u.place u.entry)) (λ _. tt))

lists_by : {s t u v : List Entry} → s ≡ t → u ≡ v → ◌≡◌ {A = Lists} (record { bids = s; offers = u }) (record { bids = t; offers = v })
lists_by h g = cc

-- the lists that a book is made of are those that it holds
pub lists_of : (l : Lists) → KeptBook (book_of l) → lists_in (book_of l) ≡ l
lists_of l k = lists_by (held_of l.bids k.bids.room) (held_of l.offers k.offers.room)

-- what a turn says
abbrev pub outcome_of : Turn → Outcome Lists
outcome_of t = cond (eqb t.reason 0) (leaves (lists_in t.book)) (breach t.reason)

pub step_outcome : (b : Book) (u : Update) → KeptBook b → outcome_of (book_step b u) ≡ applied (lists_in b) u
step_outcome b u k =
    let e = book_listed b u k in
    ap outcome_of e ∙ go (applied (lists_in b) u) (applied_reasoned (lists_in b) u) (rw e at (kept_apply b k u))
  where
    go : (o : Outcome Lists) → Reasoned o → KeptBook (turn_of b o).book → outcome_of (turn_of b o) ≡ o
    go (leaves l) h g = ap leaves (lists_of l g)
    go (breach r) h g = rw (ne_eqb r 0 h)
