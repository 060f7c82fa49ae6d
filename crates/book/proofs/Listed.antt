-- On a kept side the operations on 20 places and document 01's on lists are the same, refusals included; and so on a kept book.
use mathlib.Core.Path.{◌≡◌, refl, ap, ◌∙◌, sym}
use mathlib.Core.Bool.{Bool, true, false, cond}
use mathlib.Core.List.{List, [], ◌∷◌, ◌++◌, append_assoc}
use Prim.Native.Nat.{ℕ, ◌+◌, ◌-◌, ◌≤◌, ◌<◌}
use native.Mathlib.Omega.{arith}
use lib.Dec.{ltb, eqb}
use lib.ListN.{length, take, drop, replicate, length-append, length-take, length-drop}
use lib.Seq.{take-append-le, drop-append-le, take-length, drop-length}
use borrow.Author.Tests.{lt-ltb}
use Rattle.book.specs.declared.Entry.{Entry}
use Rattle.book.specs.declared.Side.{Side}
use Rattle.book.specs.declared.Book.{Book}
use Rattle.book.specs.declared.Update.{Update}
use Rattle.book.specs.Rules.{most_places, bad_place, Outcome, leaves, breach, is_place, after_new, after_change, after_delete, after_thru, after_from, after_action, Lists, with_bids, with_offers, applied}
use Rattle.book.specs.Sides.{Done, Turn, no_entry, pad, done, refused, new_at, change_at, delete_at, delete_thru, delete_from, side_step, bids_done, offers_done, book_step}
use Rattle.book.specs.Canonical.{Kept, KeptBook, held_in, side_of, lists_in, done_of, turn_of}
use Rattle.book.proofs.Padding.{pad_unused, pad_append}
use Rattle.book.proofs.Tests.{place_in, place_is}
use Rattle.book.proofs.Canon.{kept_is, no_book_is, length_held}

-- the same test on both sides
cond_done : (s : Side) (t : Bool) (d d' : Done) (o o' : Outcome (List Entry))
    → (t ≡ true → d ≡ done_of s o) → (t ≡ false → d' ≡ done_of s o') → cond t d d' ≡ done_of s (cond t o o')
cond_done s true d d' o o' h g = h refl
cond_done s false d d' o o' h g = g refl

-- the first i entries, some, and those from j on: the unused places behind them make no difference
pad_parts : (l es : List Entry) (i j : ℕ) → length l ≤ most_places → i ≤ length l → j ≤ length l
    → pad most_places (take i (pad most_places l) ++ (es ++ drop j (pad most_places l))) ≡ pad most_places (take i l ++ (es ++ drop j l))
pad_parts l es i j h hi hj =
    let z = replicate (most_places - length l) no_entry in
    rw (pad_append most_places l h, take-append-le i l z hi, drop-append-le j l z hj, ← append_assoc es (drop j l) z, ← append_assoc (take i l) (es ++ drop j l) z)
    (pad_unused most_places (most_places - length l) (take i l ++ (es ++ drop j l)))

-- an operation that leaves the list m, on places and on lists
done_listed : (s : Side) (places m : List Entry) (n : ℕ) → pad most_places places ≡ pad most_places m → n ≡ length m → done n places ≡ done_of s (leaves m)
done_listed s places m n h g = cc

module _ (l : List Entry) (p : ℕ) (fits : length l ≤ most_places) where
  new_of_lem : (e : Entry) → new_at (side_of l) p e ≡ done_of (side_of l) (after_new l p e)
  unfolding new_at after_new
  new_of_lem e =
      cond_done (side_of l) (is_place p (length l + 1)) _ _ _ _
      (λ a. cond_done (side_of l) (ltb (length l) most_places) _ _ _ _ (λ b. new_done (place_is p (length l + 1) a).0 (place_is p (length l + 1) a).1) (λ b. refl))
      (λ a. refl)
    where
      new_done : 1 ≤ p → p ≤ length l + 1
          → done (length l + 1) (take (p - 1) (pad most_places l) ++ e ∷ drop (p - 1) (pad most_places l)) ≡ done_of (side_of l) (leaves (take (p - 1) l ++ e ∷ drop (p - 1) l))
      new_done a b =
          done_listed (side_of l) _ _ _ (pad_parts l (e ∷ []) (p - 1) (p - 1) fits (omega arith) (omega arith))
          (simp (length-append, length-take, length-drop) (omega arith))

  -- the four operations on a place that is held
  at_of : (places m : List Entry) (n : ℕ) → (1 ≤ p → p ≤ length l → pad most_places places ≡ pad most_places m) → (1 ≤ p → p ≤ length l → n ≡ length m)
      → cond (is_place p (length l)) (done n places) (refused bad_place (side_of l)) ≡ done_of (side_of l) (cond (is_place p (length l)) (leaves m) (breach bad_place))
  at_of places m n h g =
      cond_done (side_of l) (is_place p (length l)) _ _ _ _
      (λ a. let q = place_is p (length l) a in done_listed (side_of l) places m n (h q.0 q.1) (g q.0 q.1))
      (λ a. refl)

  change_of : (e : Entry) → change_at (side_of l) p e ≡ done_of (side_of l) (after_change l p e)
  unfolding change_at after_change
  change_of e =
      at_of _ _ _ (λ a b. pad_parts l (e ∷ []) (p - 1) p fits (omega arith) b)
      (λ a b. simp (length-append, length-take, length-drop) (omega arith))

  delete_of : delete_at (side_of l) p ≡ done_of (side_of l) (after_delete l p)
  unfolding delete_at after_delete
  delete_of =
      at_of _ _ _ (λ a b. pad_parts l [] (p - 1) p fits (omega arith) b)
      (λ a b. simp (length-append, length-take, length-drop) (omega arith))

  thru_of : delete_thru (side_of l) p ≡ done_of (side_of l) (after_thru l p)
  unfolding delete_thru after_thru
  thru_of = at_of _ _ _ (λ a b. pad_parts l [] 0 p fits (omega arith) b) (λ a b. simp length-drop)

  from_of : delete_from (side_of l) p ≡ done_of (side_of l) (after_from l p)
  unfolding delete_from after_from
  from_of =
      at_of _ _ _ (λ a b. rw (pad_append most_places l fits, take-append-le (p - 1) l (replicate (most_places - length l) no_entry) (omega arith)))
      (λ a b. simp length-take (omega arith))

  -- whichever the action is
  pub side_of_lem : (action : ℕ) (e : Entry) → side_step (side_of l) action p e ≡ done_of (side_of l) (after_action l action p e)
  unfolding side_step after_action
  side_of_lem action e =
      cond_done (side_of l) (eqb action 0) _ _ _ _ (λ _. new_of_lem e) (λ _.
      cond_done (side_of l) (eqb action 1) _ _ _ _ (λ _. change_of e) (λ _.
      cond_done (side_of l) (eqb action 2) _ _ _ _ (λ _. delete_of) (λ _.
      cond_done (side_of l) (eqb action 3) _ _ _ _ (λ _. thru_of) (λ _.
      cond_done (side_of l) (eqb action 4) _ _ _ _ (λ _. from_of) (λ _. refl)))))

-- from the side of a list to any kept side
kept_listed : (f : Side → Done) (g : List Entry → Outcome (List Entry)) → ((l : List Entry) → length l ≤ most_places → f (side_of l) ≡ done_of (side_of l) (g l))
    → (s : Side) → Kept s → f s ≡ done_of s (g (held_in s))
kept_listed f g h s k =
    let l = held_in s in
    ap f (kept_is s k) ∙ h l (omega (arith, length_held s k, k.room)) ∙ ap (λ (t : Side). done_of t (g l)) (sym (kept_is s k))

module _ (s : Side) (p : ℕ) (k : Kept s) where
  pub new_listed : (e : Entry) → new_at s p e ≡ done_of s (after_new (held_in s) p e)
  new_listed e = kept_listed (λ s. new_at s p e) (λ l. after_new l p e) (λ l h. new_of_lem l p h e) s k

  pub change_listed : (e : Entry) → change_at s p e ≡ done_of s (after_change (held_in s) p e)
  change_listed e = kept_listed (λ s. change_at s p e) (λ l. after_change l p e) (λ l h. change_of l p h e) s k

  pub delete_listed : delete_at s p ≡ done_of s (after_delete (held_in s) p)
  delete_listed = kept_listed (λ s. delete_at s p) (λ l. after_delete l p) (λ l h. delete_of l p h) s k

  pub thru_listed : delete_thru s p ≡ done_of s (after_thru (held_in s) p)
  thru_listed = kept_listed (λ s. delete_thru s p) (λ l. after_thru l p) (λ l h. thru_of l p h) s k

  pub from_listed : delete_from s p ≡ done_of s (after_from (held_in s) p)
  from_listed = kept_listed (λ s. delete_from s p) (λ l. after_from l p) (λ l h. from_of l p h) s k

  pub side_listed : (action : ℕ) (e : Entry) → side_step s action p e ≡ done_of s (after_action (held_in s) action p e)
  side_listed action e = kept_listed (λ s. side_step s action p e) (λ l. after_action l action p e) (λ l h. side_of_lem l p h action e) s k

-- new at one past the last of a list with room
after_last : (l : List Entry) (e : Entry) → length l < most_places → after_new l (length l + 1) e ≡ leaves (l ++ e ∷ [])
unfolding after_new
after_last l e h =
    let q : length l + 1 - 1 ≡ length l = omega arith in
    rw (place_in (length l + 1) (length l + 1) (omega arith) (omega arith), lt-ltb (length l) most_places h, q, take-length, drop-length)

-- new at one past the last place puts the entry at the end
pub new_last : (s : Side) (e : Entry) → Kept s → s.held < most_places
    → new_at s (s.held + 1) e ≡ record { side = side_of (held_in s ++ e ∷ []); reason = 0 }
new_last s e k h =
    let n = length_held s k in
    let a : after_new (held_in s) (s.held + 1) e ≡ leaves (held_in s ++ e ∷ []) =
    ap (λ (m : ℕ). after_new (held_in s) (m + 1) e) (sym n) ∙ after_last (held_in s) e (omega arith) in
    new_listed s (s.held + 1) k e ∙ ap (done_of s) a

-- one side of a book, the other as it was
bids_listed : (b : Book) → Kept b.offers → (o : Outcome (List Entry)) → bids_done b (done_of b.bids o) ≡ turn_of b (with_bids (lists_in b) o)
bids_listed b k (leaves l) = ap (λ (t : Side). bids_done (record { bids = b.bids; offers = t }) (done_of b.bids (leaves l))) (kept_is b.offers k)
bids_listed b k (breach r) = refl

offers_listed : (b : Book) → Kept b.bids → (o : Outcome (List Entry)) → offers_done b (done_of b.offers o) ≡ turn_of b (with_offers (lists_in b) o)
offers_listed b k (leaves l) = ap (λ (t : Side). offers_done (record { bids = t; offers = b.offers }) (done_of b.offers (leaves l))) (kept_is b.bids k)
offers_listed b k (breach r) = refl

cond_turn : (b : Book) (t : Bool) (d d' : Turn) (o o' : Outcome Lists) → d ≡ turn_of b o → d' ≡ turn_of b o' → cond t d d' ≡ turn_of b (cond t o o')
cond_turn b true d d' o o' h g = h
cond_turn b false d d' o o' h g = g

-- one entry on a kept book is the entry on its two lists
pub book_listed : (b : Book) (u : Update) → KeptBook b → book_step b u ≡ turn_of b (applied (lists_in b) u)
unfolding book_step applied
book_listed b u k =
    let o = after_action (held_in b.bids) u.action u.place u.entry in
    let q = after_action (held_in b.offers) u.action u.place u.entry in
    cond_turn b (eqb u.what 0) _ _ _ _
    (ap (bids_done b) (side_listed b.bids u.place k.bids u.action u.entry) ∙ bids_listed b k.offers o)
    (cond_turn b (eqb u.what 1) _ _ _ _
    (ap (offers_done b) (side_listed b.offers u.place k.offers u.action u.entry) ∙ offers_listed b k.bids q)
    (ap (λ (c : Book). record { book = c; reason = 0 }) no_book_is))
