-- What joining leaves of a heading and of the store's length, and that it leaves a formed store formed.
use mathlib.Core.Path.{◌≡◌, refl, sym, ◌∙◌}
use mathlib.Core.Bool.{Bool, true, false, cond}
use mathlib.Core.List.{List, [], ◌∷◌}
use mathlib.Core.Logic.{inl, ⊎_elim}
use Prim.Native.Nat.{ℕ, ◌+◌, ◌≤◌, ◌<◌}
use native.Mathlib.Nat.{add-zero}
use native.Mathlib.Omega.{arith}
use lib.Dec.{ltb, eqb}
use borrow.Author.Tests.{ltb-false, eqb-false, ne_eqb}
use lib.Seq.{sets}
use Rattle.book.specs.declared.Update.{Update}
use Rattle.book.proofs.Tests.{by_test}
use Rattle.cells.specs.Cells.{queued_words}
use Rattle.cells.proofs.Tables.{in_zeros}
use Rattle.heading.specs.Headings.{queued_more}
use Rattle.store.specs.Layout.{slot_of}
use Rattle.store.specs.Meaning.{State, st}
use Rattle.store.specs.Canon.{Formed, Canon}
use Rattle.store.proofs.Regions.{agree_sets, agree_zeros}
use Rattle.store.proofs.Decode.{book_apart}
use Rattle.store.proofs.Kept.{spare_agree}
use Rattle.queue.specs.Joins.{let_go_s, settle_s, join_one_s, join_all_s, how_many, over_s, join_s}

module _ (n : ℕ) (u : Update) (s : State) where
  pub one_followed : (join_one_s n u s).head.followed ≡ s.head.followed
  one_followed = by_test (λ (t : State). t.head.followed ≡ s.head.followed) (ltb u.who s.head.followed) (λ _. refl) (λ _. refl)

  pub one_marks : (join_one_s n u s).head.marks ≡ s.head.marks
  one_marks = by_test (λ (t : State). t.head.marks ≡ s.head.marks) (ltb u.who s.head.followed) (λ _. refl) (λ _. refl)

  pub one_queued : (join_one_s n u s).head.queued ≡ s.head.queued + cond (ltb u.who s.head.followed) 1 0
  one_queued = go (ltb u.who s.head.followed)
    where
      go : (b : Bool) → (cond b (st (queued_more s.head) (sets s.store (slot_of s.head.queued) (queued_words n u))) s).head.queued
          ≡ s.head.queued + cond b 1 0
      go true = refl
      go false = sym (add-zero s.head.queued)

-- the queue let go
pub let_go_formed : (s : State) → Formed s → Formed (let_go_s s)
let_go_formed s f =
    let a = agree_zeros s.store 4256 2816 in
    let few = f.few in
    let long = f.long in
    let room = f.room in
    record {
      long = rw a.long f.long;
      layout = a.outside 0 (inl (omega arith)) ∙ f.layout;
      some = f.some;
      few = f.few;
      marks = f.marks;
      room = omega arith;
      books = λ i q. rw (book_apart a i (inl (omega arith))) (f.books i q);
      spare =
          spare_agree s.head.followed s.head.queued s.head.followed 0 a f.spare
          (λ k l u o. record {
            head = u.head;
            record_of = u.record_of;
            side = u.side;
            slot = λ j q x y. ⊎_elim (λ (z : k < 4256). omega arith) (λ (z : 4256 + 2816 ≤ k). omega arith) o;
          })
          (λ k p o _ _. in_zeros s.store 4256 2816 k p o (omega arith));
    }

-- one entry
pub one_formed : (n : ℕ) (u : Update) (s : State) → Formed s → s.head.queued + cond (ltb u.who s.head.followed) 1 0 ≤ 256 → Formed (join_one_s n u s)
one_formed n u s f r = go (ltb u.who s.head.followed) r
  where
    go : (b : Bool) → s.head.queued + cond b 1 0 ≤ 256
        → Formed (cond b (st (queued_more s.head) (sets s.store (slot_of s.head.queued) (queued_words n u))) s)
    go true h =
        let q = s.head.queued in
        let a = agree_sets s.store (slot_of q) (queued_words n u) 10 refl in
        let few = f.few in
        record {
          long = rw a.long f.long;
          layout = a.outside 0 (inl (omega arith)) ∙ f.layout;
          some = f.some;
          few = f.few;
          marks = f.marks;
          room = h;
          books = λ i l. rw (book_apart a i (inl (omega arith))) (f.books i l);
          spare =
              spare_agree s.head.followed q s.head.followed (q + 1) a f.spare
              (λ k l v o. record { head = v.head; record_of = v.record_of; side = v.side; slot = λ j p x y. v.slot j (omega arith) x y })
              (λ k p o _ v. absurd (v.slot q (omega arith) (omega arith) (omega arith)));
        }
    go false h = f

all_formed : (n : ℕ) (us : List Update) (s : State) → Formed s → s.head.queued + how_many s.head.followed us ≤ 256 → Formed (join_all_s n us s)
unfolding join_all_s how_many
all_formed n [] s f h = f
all_formed n (u ∷ us) s f h =
    all_formed n us (join_one_s n u s) (one_formed n u s f (omega arith)) (rw (one_queued n u s, one_followed n u s) (omega arith))

pub join_formed : (n : ℕ) (us : List Update) (s : State) → Formed s → Formed (join_s n us s)
unfolding join_s
join_formed n us s f = by_test Formed (over_s us s) (λ _. let_go_formed s f) (λ e. all_formed n us s f (ltb-false 256 _ e))

-- the marks stay
all_marks_lem : (n : ℕ) (us : List Update) (s : State) → (join_all_s n us s).head.marks ≡ s.head.marks
unfolding join_all_s
all_marks_lem n [] s = refl
all_marks_lem n (u ∷ us) s = all_marks_lem n us (join_one_s n u s) ∙ one_marks n u s

pub join_marks : (n : ℕ) (us : List Update) (s : State) → (join_s n us s).head.marks ≡ s.head.marks
unfolding join_s
join_marks n us s = by_test (λ (t : State). t.head.marks ≡ s.head.marks) (over_s us s) (λ _. refl) (λ _. all_marks_lem n us s)

-- at the end of a call
pub settle_canon : (s : State) → Formed s → Canon (settle_s s)
settle_canon s f =
    by_test Canon (eqb s.head.marks 0) (λ _. record { formed = let_go_formed s f; idle = λ _. refl })
    (λ e. record { formed = f; idle = λ z. absurd (eqb-false _ _ e z) })

-- where one waits, nothing is let go
pub settle_none : (s : State) → (s.head.marks ≡ 0 → ⊥) → settle_s s ≡ s
settle_none s w = rw (ne_eqb s.head.marks 0 w)
