-- A change of the store leaves it formed, where the region that changes is used or zero.
use mathlib.Core.Path.{◌≡◌, ◌∙◌}
use mathlib.Core.List.{List}
use mathlib.Core.Logic.{◌⊎◌, inl, inr}
use Prim.Native.Nat.{ℕ, ◌+◌, ◌≤◌, ◌<◌, ◌^◌}
use native.Mathlib.Omega.{arith}
use lib.ListN.{get_or}
use Rattle.book.specs.Canonical.{KeptBook}
use Rattle.cells.proofs.Stores.{below_or}
use Rattle.heading.specs.Headings.{marks_now}
use Rattle.store.specs.Layout.{bids_of, reason_of}
use Rattle.store.specs.Meaning.{State, st, book_at}
use Rattle.store.specs.Canon.{Unused, Spare, Formed}
use Rattle.store.proofs.Regions.{Agree}
use Rattle.store.proofs.Decode.{book_other, book_apart}

-- other counts of instruments and of queued entries: what is unused by them outside the region was unused before
pub spare_agree : {lo hi : ℕ} {xs ys : List ℕ} (f q g t : ℕ) → Agree lo hi xs ys → Spare f q xs
    → ((k : ℕ) → k < 7168 → Unused g t k → (k < lo) ⊎ (hi ≤ k) → Unused f q k)
    → ((k : ℕ) → lo ≤ k → k < hi → k < 7168 → Unused g t k → get_or ys k 0 ≡ 0)
    → Spare g t ys
spare_agree {lo} {hi} f q g t a r w z k l u =
    below_or k lo (λ p. a.outside k (inl p) ∙ r k l (w k l u (inl p)))
    (λ p. below_or k hi (λ o. z k p o l u) (λ o. a.outside k (inr o) ∙ r k l (w k l u (inr o))))

-- the same instruments and the same queue, with other marks
pub formed_marks : {lo hi : ℕ} {ys : List ℕ} (s : State) (m : ℕ) → Formed s → Agree lo hi s.store ys → 1 ≤ lo
    → m < 2 ^ s.head.followed
    → ((k : ℕ) → lo ≤ k → k < hi → Unused s.head.followed s.head.queued k → get_or ys k 0 ≡ 0)
    → ((i : ℕ) → i < s.head.followed → KeptBook (book_at ys i))
    → Formed (st (marks_now s.head m) ys)
formed_marks s m c a l h z b = record {
  long = rw a.long c.long;
  layout = a.outside 0 (inl (omega arith)) ∙ c.layout;
  some = c.some;
  few = c.few;
  marks = h;
  room = c.room;
  books = b;
  spare = spare_agree s.head.followed s.head.queued s.head.followed s.head.queued a c.spare (λ k _ u _. u) (λ k p o _ u. z k p o u);
}

-- the book of instrument i, changed in a region of it that is used or zero
pub formed_book : {lo hi : ℕ} {ys : List ℕ} (s : State) (i : ℕ) → Formed s → i < s.head.followed → bids_of i ≤ lo → hi ≤ bids_of i + 256 → Agree lo hi s.store ys
    → ((k : ℕ) → lo ≤ k → k < hi → Unused s.head.followed s.head.queued k → get_or ys k 0 ≡ 0)
    → KeptBook (book_at ys i)
    → Formed (st s.head ys)
formed_book {lo} {hi} {ys} s i c h l m a z b =
    formed_marks s s.head.marks c a (omega arith) c.marks z (λ j q.
    below_or j i (λ p. other j q (λ e. omega arith)) (λ p. below_or i j (λ o. other j q (λ e. omega arith)) (λ o. own j (omega arith))))
  where
    other : (j : ℕ) → j < s.head.followed → (j ≡ i → ⊥) → KeptBook (book_at ys j)
    other j q n = rw (book_other a i j l m n) (c.books j q)

    own : (j : ℕ) → j ≡ i → KeptBook (book_at ys j)
    own j e = rw e b

-- the reason of instrument i and the marks
pub formed_reason : {ys : List ℕ} (s : State) (i m : ℕ) → Formed s → i < s.head.followed → Agree (reason_of i) (reason_of i + 1) s.store ys
    → m < 2 ^ s.head.followed → Formed (st (marks_now s.head m) ys)
formed_reason s i m c h a l =
    let f : s.head.followed ≤ 16 = c.few in
    formed_marks s m c a (omega arith) l
    (λ k p o u. absurd (u.record_of i h (omega arith) (omega arith)))
    (λ j q. rw (book_apart a j (inr (omega arith))) (c.books j q))
