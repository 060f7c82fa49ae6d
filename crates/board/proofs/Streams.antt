-- What one test and one book say of a whole stream. Assumes nothing.
use mathlib.Core.Path.{◌≡◌, refl, ap, ◌∙◌}
use mathlib.Core.Bool.{Bool, true, false, ◌&&◌, false≢true}
use mathlib.Core.List.{List, [], ◌∷◌}
use Prim.Native.Nat.{ℕ, zero, suc, ◌+◌, ◌≤◌, ◌<◌}
use native.Mathlib.Omega.{arith}
use borrow.Author.Tests.{eqb-true, leb-true, leb-false}
use lib.Dec.{leb, eqb}
use lib.ListN.{length}
use Rattle.book.specs.Rules.{Lists, Outcome, leaves, breach}
use Rattle.book.specs.declared.Update.{Update}
use Rattle.message.specs.Message.{Message, numbered, snapshot, refused}
use Rattle.board.specs.Snapshot.{and_then, run}
use Rattle.board.specs.Demand.{message_at, NumberedFromOne, entries_at, book_at, NeverBreaks}
use Rattle.board.proofs.Tested.{both}

-- ---- its numbers, by one test
abbrev pub numbered_from : ℕ → List Message → Bool
numbered_from n [] = true
numbered_from n (numbered m heard us ∷ ms) = eqb m (suc n) && numbered_from (suc n) ms
numbered_from n (snapshot h us ∷ ms) = false
numbered_from n (refused v ∷ ms) = false

numbered_from_lem : (n : ℕ) (ms : List Message) → numbered_from n ms ≡ true → (k j : ℕ) → k < length ms → j ≡ n + k
    → (heard : ℕ) × (us : List Update) × (message_at ms k ≡ numbered (suc j) heard us)
numbered_from_lem n [] t k j h e = absurd (omega arith)
numbered_from_lem n (numbered m heard us ∷ ms) t zero j h e =
    (heard, us, ap (λ (i : ℕ). numbered i heard us) (eqb-true m (suc n) (both (eqb m (suc n)) (numbered_from (suc n) ms) t).0 ∙ ap suc (omega arith)))
numbered_from_lem n (numbered m heard us ∷ ms) t (suc k) j h e =
    numbered_from_lem (suc n) ms (both (eqb m (suc n)) (numbered_from (suc n) ms) t).1 k j (omega arith) (omega arith)
numbered_from_lem n (snapshot s us ∷ ms) t k j h e = absurd (false≢true t)
numbered_from_lem n (refused v ∷ ms) t k j h e = absurd (false≢true t)

pub numbered_from_one : (ms : List Message) → numbered_from 0 ms ≡ true → NumberedFromOne ms
numbered_from_one ms t k h = numbered_from_lem 0 ms t k k h (omega arith)

-- ---- where it gives a book at its end, it has given one all along
before : (o : Outcome Lists) (f : Lists → Outcome Lists) (b : Lists) → and_then o f ≡ leaves b → (c : Lists) × (o ≡ leaves c)
before (leaves c) f b e = (c, refl)
before (breach r) f b e = absurd (let z : ◌≡◌ {A = ℕ} 0 1 = cc in omega arith)

unbroken : (ms : List Message) (d n : ℕ) (b : Lists) → book_at ms d n ≡ leaves b → (k : ℕ) → k ≤ n → (c : Lists) × (book_at ms d k ≡ leaves c)
unfolding book_at
unbroken ms d zero b e zero h = (b, e)
unbroken ms d zero b e (suc k) h = absurd (omega arith)
unbroken ms d (suc n) b e k h =
    let (c, p) = before (book_at ms d n) (run (entries_at ms d (suc n))) b e in
    go (leb k n) refl (λ l. unbroken ms d n c p k l)
  where
    go : (z : Bool) → leb k n ≡ z → (k ≤ n → (c : Lists) × (book_at ms d k ≡ leaves c)) → (c : Lists) × (book_at ms d k ≡ leaves c)
    go true q earlier = earlier (leb-true k n q)
    go false q earlier = let l : k ≡ suc n = omega (arith, leb-false k n q) in (b, ap (book_at ms d) l ∙ e)

pub never_breaks : (ms : List Message) (d : ℕ) (b : Lists) → book_at ms d (length ms) ≡ leaves b → NeverBreaks ms d
never_breaks ms d b e n h = unbroken ms d (length ms) b e n h
