-- What one entry leaves alone: a bid the offers, an offer the bids, a breach the whole book, and an action the places before the first
-- that it may change. J leaves nothing.
use mathlib.Core.Path.{◌≡◌, refl, ap}
use mathlib.Core.Bool.{Bool, cond}
use mathlib.Core.List.{List, [], ◌++◌, append-nil}
use Prim.Native.Nat.{ℕ, ◌+◌, ◌-◌, ◌≤◌, ◌<◌}
use native.Mathlib.Omega.{arith}
use lib.Dec.{ltb, eqb}
use lib.ListN.{length, take}
use borrow.Author.Tests.{eq-eqb, eqb-true, eqb-false, ne_eqb}
use Rattle.book.specs.declared.Entry.{Entry}
use Rattle.book.specs.declared.Side.{Side}
use Rattle.book.specs.declared.Book.{Book}
use Rattle.book.specs.declared.Update.{Update}
use Rattle.book.specs.Rules.{most_places, bad_place, is_place}
use Rattle.book.specs.Sides.{Done, Turn, no_book, pad, refused, held_at, bids_done, offers_done, new_at, change_at, delete_at, delete_thru, delete_from, side_step, first_changed, book_step}
use Rattle.book.proofs.Tests.{by_test}
use Rattle.book.proofs.Padding.{take_pad}

module _ (b : Book) (u : Update) where
  pub a_bid : u.what ≡ 0 → book_step b u ≡ bids_done b (side_step b.bids u.action u.place u.entry)
  unfolding book_step
  a_bid h = rw (eq-eqb u.what 0 h)

  pub an_offer : u.what ≡ 1 → book_step b u ≡ offers_done b (side_step b.offers u.action u.place u.entry)
  unfolding book_step
  an_offer h = rw (ne_eqb u.what 0 (λ z. omega arith), eq-eqb u.what 1 h)

  pub a_j : 1 < u.what → book_step b u ≡ record { book = no_book; reason = 0 }
  unfolding book_step
  a_j h = rw (ne_eqb u.what 0 (λ z. omega arith), ne_eqb u.what 1 (λ z. omega arith))

  pub bid_leaves_offers : u.what ≡ 0 → (book_step b u).book.offers ≡ b.offers
  bid_leaves_offers h = rw (a_bid h)

  pub offer_leaves_bids : u.what ≡ 1 → (book_step b u).book.bids ≡ b.bids
  offer_leaves_bids h = rw (an_offer h)

  -- the instrument plays no part
  pub any_who : (who : ℕ) → book_step b (record { who = who; what = u.what; action = u.action; place = u.place; entry = u.entry }) ≡ book_step b u
  unfolding book_step
  any_who who = refl

-- a reason is 0, 1 or 2, and with 1 and 2 the side is as it was
pub record Answered (s : Side) (d : Done) : Type 0 where
  pub reason : d.reason ≤ 2
  pub as_was : 0 < d.reason → d.side ≡ s

pub record AnsweredBook (b : Book) (t : Turn) : Type 0 where
  pub reason : t.reason ≤ 2
  pub as_was : 0 < t.reason → t.book ≡ b

is_done_lem : {s : Side} {d : Done} → d.reason ≡ 0 → Answered s d
is_done_lem h = record { reason = omega arith; as_was = λ g. absurd (omega arith) }

is_refused : {s : Side} {reason : ℕ} → reason ≤ 2 → Answered s (refused reason s)
is_refused h = record { reason = h; as_was = λ g. refl }

is_either : (s : Side) (t : Bool) (d : Done) → d.reason ≡ 0 → Answered s (cond t d (refused bad_place s))
is_either s t d h = by_test (Answered s) t (λ _. is_done_lem h) (λ _. is_refused (omega arith))

pub side_answered : (s : Side) (action p : ℕ) (e : Entry) → Answered s (side_step s action p e)
unfolding side_step new_at change_at delete_at delete_thru delete_from
side_answered s action p e =
    let held = is_place p s.held in
    by_test (Answered s) (eqb action 0)
    (λ _. by_test (Answered s) (is_place p (s.held + 1))
    (λ _. by_test (Answered s) (ltb s.held most_places) (λ _. is_done_lem refl) (λ _. is_refused (omega arith)))
    (λ _. is_refused (omega arith)))
    (λ _. by_test (Answered s) (eqb action 1) (λ _. is_either s held _ refl)
    (λ _. by_test (Answered s) (eqb action 2) (λ _. is_either s held _ refl)
    (λ _. by_test (Answered s) (eqb action 3) (λ _. is_either s held _ refl)
    (λ _. by_test (Answered s) (eqb action 4) (λ _. is_either s held _ refl) (λ _. is_refused (omega arith))))))

pub book_answered : (b : Book) (u : Update) → AnsweredBook b (book_step b u)
unfolding book_step
book_answered b u =
    let d = side_answered b.bids u.action u.place u.entry in
    let f = side_answered b.offers u.action u.place u.entry in
    by_test (AnsweredBook b) (eqb u.what 0)
    (λ _. record { reason = d.reason; as_was = λ g. ap (λ (s : Side). record { bids = s; offers = b.offers }) (d.as_was g) })
    (λ _. by_test (AnsweredBook b) (eqb u.what 1)
    (λ _. record { reason = f.reason; as_was = λ g. ap (λ (s : Side). record { bids = b.bids; offers = s }) (f.as_was g) })
    (λ _. record { reason = omega arith; as_was = λ g. absurd (omega arith) }))

module _ (s : Side) (p : ℕ) (full : length s.places ≡ most_places) where
  -- the first k places are as they were
  abbrev Stays : ℕ → Done → Type 0
  Stays k d = take k d.side.places ≡ take k s.places

  shifted : (l : List Entry) → take (p - 1) (pad most_places (take (p - 1) s.places ++ l)) ≡ take (p - 1) s.places
  shifted l = take_pad most_places (p - 1) s.places l full

  at_stays : (d : Done) → Stays (p - 1) d → Stays (p - 1) (held_at s p d)
  at_stays d h = by_test (Stays (p - 1)) (is_place p s.held) (λ _. h) (λ _. refl)

  -- the places before the first that an action may change stay, breach or not
  pub before_changed : (action : ℕ) (e : Entry) → Stays (first_changed action (p - 1)) (side_step s action p e)
  unfolding side_step new_at change_at delete_at delete_thru delete_from
  before_changed action e =
      by_test (λ k. Stays k (side_step s action p e)) (eqb action 3) (λ _. refl)
      (λ o. by_test (Stays (p - 1)) (eqb action 0)
      (λ _. by_test (Stays (p - 1)) (is_place p (s.held + 1))
      (λ _. by_test (Stays (p - 1)) (ltb s.held most_places) (λ _. shifted _) (λ _. refl)) (λ _. refl))
      (λ _. by_test (Stays (p - 1)) (eqb action 1) (λ _. at_stays _ (shifted _))
      (λ _. by_test (Stays (p - 1)) (eqb action 2) (λ _. at_stays _ (shifted _))
      (λ _. by_test (Stays (p - 1)) (eqb action 3) (λ z. absurd (eqb-false action 3 o (eqb-true action 3 z)))
      (λ _. by_test (Stays (p - 1)) (eqb action 4) (λ _. at_stays _ (rw append-nil at (shifted []))) (λ _. refl))))))
