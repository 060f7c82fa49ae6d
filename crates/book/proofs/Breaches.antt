-- When an action is a breach of a side, what a side that does not refuse it has, and what the action then leaves.
use mathlib.Core.Path.{◌≡◌, refl, ap, ◌∙◌, sym}
use mathlib.Core.Bool.{true, cond}
use mathlib.Core.List.{◌∷◌, ◌++◌}
use Prim.Native.Nat.{ℕ, ◌+◌, ◌-◌, ◌≤◌, ◌<◌}
use native.Mathlib.Nat.{zero-add}
use native.Mathlib.Omega.{arith}
use lib.Dec.{leb, ltb, eqb}
use lib.ListN.{take, drop}
use borrow.Author.Tests.{eqb-true, eqb-false, ne_eqb, ltb-true, lt-ltb, leb-true, le-leb, lt-leb}
use Rattle.book.specs.declared.Entry.{Entry}
use Rattle.book.specs.declared.Side.{Side}
use Rattle.book.specs.declared.Book.{Book}
use Rattle.book.specs.declared.Update.{Update}
use Rattle.std.specs.Prelude.{Err}
use Rattle.book.specs.declared.reasons.Breach.{Breach}
use Rattle.book.specs.declared.reasons.Breach.TheVariants.{Place, Room}
use Rattle.book.specs.Results.{reason_number, done_from, turn_from, turn_at}
use Rattle.book.specs.Rules.{most_places, bad_place, is_place}
use Rattle.book.specs.Sides.{Done, Turn, done, refused, held_at, new_at, change_at, delete_at, delete_thru, delete_from, side_step, book_step, breach_of, first_changed}
use Rattle.book.proofs.Tests.{by_test, place_in, place_is}
use Rattle.book.proofs.Untouched.{side_answered, book_answered}

-- a side of n places that does not refuse an action at p
pub record Fair (n action p : ℕ) : Type 0 where
  pub place : 1 ≤ p
  pub known : action ≤ 4
  pub room : action ≡ 0 → (p ≤ n + 1) × (n < most_places)
  pub held : 0 < action → p ≤ n

pub no_breach : (n action p : ℕ) → breach_of n action p ≡ 0 → Fair n action p
unfolding breach_of
no_breach n action p =
    by_test R (eqb action 0)
    (λ z.
    let o = eqb-true action 0 z in
    by_test R (is_place p (n + 1))
    (λ a.
    let q = place_is p (n + 1) a in
    by_test R (ltb n most_places)
    (λ b _. record { place = q.0; known = omega arith; room = λ _. (q.1, ltb-true n most_places b); held = λ g. absurd (omega arith) })
    (λ _ x. absurd (omega arith)))
    (λ _ x. absurd (omega arith)))
    (λ z.
    let o = eqb-false action 0 z in
    by_test R (is_place p n)
    (λ a.
    let q = place_is p n a in
    by_test R (leb action 4)
    (λ k _. record { place = q.0; known = leb-true action 4 k; room = λ g. absurd (o g); held = λ _. q.1 })
    (λ _ x. absurd (omega arith)))
    (λ _ x. absurd (omega arith)))
  where
    R : ℕ → Type 0
    R r = r ≡ 0 → Fair n action p

-- the reason of a step is the breach
module _ (s : Side) (action p : ℕ) where
  abbrev For : Done → Type 0
  For d = d.reason ≡ breach_of s.held action p

  new_reason : (e : Entry) → action ≡ 0 → For (new_at s p e)
  unfolding breach_of new_at
  new_reason e z =
      rw z
      (by_test (λ (d : Done). d.reason ≡ breach_of s.held 0 p) (is_place p (s.held + 1))
      (λ a. by_test (λ (d : Done). d.reason ≡ breach_of s.held 0 p) (ltb s.held most_places) (λ b. rw (a, b)) (λ b. rw (a, b)))
      (λ a. rw a))

  held_reason : (d : Done) → d.reason ≡ 0 → 0 < action → action ≤ 4 → For (held_at s p d)
  unfolding breach_of
  held_reason d h z k =
      rw (ne_eqb action 0 (λ g. omega arith), le-leb action 4 k)
      (by_test (λ (t : Done). t.reason ≡ cond (is_place p s.held) 0 bad_place) (is_place p s.held) (λ a. rw a h) (λ a. rw a))

  other_reason : 4 < action → For (refused bad_place s)
  unfolding breach_of
  other_reason h = rw (ne_eqb action 0 (λ g. omega arith), lt-leb action 4 h) (by_test (λ r. bad_place ≡ r) (is_place p s.held) (λ _. refl) (λ _. refl))

  pub step_reason : (e : Entry) → For (side_step s action p e)
  unfolding side_step change_at delete_at delete_thru delete_from
  step_reason e =
      by_test For (eqb action 0) (λ z. new_reason e (eqb-true action 0 z))
      (λ o. by_test For (eqb action 1) (λ z. is 1 z (omega arith) (omega arith) _ refl)
      (λ a. by_test For (eqb action 2) (λ z. is 2 z (omega arith) (omega arith) _ refl)
      (λ b. by_test For (eqb action 3) (λ z. is 3 z (omega arith) (omega arith) _ refl)
      (λ c. by_test For (eqb action 4) (λ z. is 4 z (omega arith) (omega arith) _ refl)
      (λ d.
      let q = eqb-false action 0 o in
      let r = eqb-false action 1 a in
      let t = eqb-false action 2 b in
      let u = eqb-false action 3 c in
      let v = eqb-false action 4 d in
      other_reason (omega arith))))))
    where
      is : (k : ℕ) → eqb action k ≡ true → 0 < k → k ≤ 4 → (d : Done) → d.reason ≡ 0 → For (held_at s p d)
      is k z h g d r = let q = eqb-true action k z in held_reason d r (omega arith) (omega arith)

-- an operation's side and reason make up what it leaves
pub done_by : {s t : Side} {r q : ℕ} → s ≡ t → r ≡ q → ◌≡◌ {A = Done} (record { side = s; reason = r }) (record { side = t; reason = q })
done_by h g = cc

-- a breach leaves the side as it was
pub step_refused : (s : Side) (action p : ℕ) (e : Entry) → (breach_of s.held action p ≡ 0 → ⊥)
    → refused (breach_of s.held action p) s ≡ side_step s action p e
step_refused s action p e h =
    let r = step_reason s action p e in
    done_by (sym ((side_answered s action p e).as_was (omega arith))) (sym r)

-- the same for the breach that the code names
pub refused_by : (s : Side) (action p : ℕ) (e : Entry) (why : Breach) → reason_number why ≡ breach_of s.held action p
    → done_from s (Err why) ≡ side_step s action p e
refused_by s action p e why h =
    ap (λ (r : ℕ). refused r s) h ∙ step_refused s action p e (λ z. is_reason why (h ∙ z))
  where
    is_reason : (why : Breach) → reason_number why ≡ 0 → ⊥
    is_reason Place z = omega arith
    is_reason Room z = omega arith

-- the same of a book
turn_by : {b c : Book} {r q : ℕ} → b ≡ c → r ≡ q → ◌≡◌ {A = Turn} (record { book = b; reason = r }) (record { book = c; reason = q })
turn_by h g = cc

-- a breach of a book where it stands is a breach of the book that was there, which it leaves
pub book_refused : (b c : Book) (u : Update) (why : Breach) → turn_at c (Err why) ≡ book_step b u → turn_from b (Err why) ≡ book_step b u
book_refused b c u why h = refused_as (reason_number why) (has_reason why) (ap (λ (t : Turn). t.reason) h)
  where
    has_reason : (why : Breach) → 0 < reason_number why
    has_reason Place = omega arith
    has_reason Room = omega arith

    refused_as : (r : ℕ) → 0 < r → r ≡ (book_step b u).reason → record { book = b; reason = r } ≡ book_step b u
    refused_as r p g = turn_by (sym ((book_answered b u).as_was (omega (arith, p, g)))) g

-- what an action that is no breach leaves
module _ (s : Side) (action p : ℕ) (e : Entry) (clear : breach_of s.held action p ≡ 0) where
  fair : Fair s.held action p
  fair = no_breach s.held action p clear

  at_place : 0 < action → is_place p s.held ≡ true
  at_place h = place_in p s.held fair.place (fair.held h)

  pub new_leaves : action ≡ 0 → side_step s action p e ≡ done (s.held + 1) (take (p - 1) s.places ++ e ∷ drop (p - 1) s.places)
  unfolding side_step new_at
  new_leaves z = rw (z, place_in p (s.held + 1) fair.place (fair.room z).0, lt-ltb s.held most_places (fair.room z).1)

  pub change_leaves : action ≡ 1 → side_step s action p e ≡ done s.held (take (p - 1) s.places ++ e ∷ drop p s.places)
  unfolding side_step change_at
  change_leaves z = rw (z, at_place (omega arith))

  delete_leaves : action ≡ 2 → side_step s action p e ≡ done (s.held - 1) (take (p - 1) s.places ++ drop p s.places)
  unfolding side_step delete_at
  delete_leaves z = rw (z, at_place (omega arith))

  thru_leaves : action ≡ 3 → side_step s action p e ≡ done (s.held - p) (drop p s.places)
  unfolding side_step delete_thru
  thru_leaves z = rw (z, at_place (omega arith))

  -- both remove the places from the first that goes up to p
  pub gone_leaves : (from : ℕ) → from ≡ first_changed action (p - 1) → 1 < action → action < 4
      → side_step s action p e ≡ done (s.held - (p - from)) (take from s.places ++ drop (from + (p - from)) s.places)
  gone_leaves from h low high =
      by_test (λ (k : ℕ). from ≡ k → side_step s action p e ≡ done (s.held - (p - from)) (take from s.places ++ drop (from + (p - from)) s.places))
      (eqb action 3)
      (λ z q.
      let a : p - from ≡ p = omega arith in
      rw (a, q, zero-add) (thru_leaves (eqb-true action 3 z)))
      (λ z q.
      let o = eqb-false action 3 z in
      let w = fair.place in
      let a : p - from ≡ 1 = omega arith in
      let b : from + 1 ≡ p = omega arith in
      let d : action ≡ 2 = omega arith in
      rw (a, b, q) (delete_leaves d))
      h

  pub from_leaves : action ≡ 4 → side_step s action p e ≡ done (p - 1) (take (p - 1) s.places)
  unfolding side_step delete_from
  from_leaves z = rw (z, at_place (omega arith))
