-- A heading and a loop's record that are saved are read again, and their numbers belong to nothing else.
use mathlib.Core.Path.{◌≡◌, refl, ap, ◌∙◌}
use mathlib.Core.List.{List}
use mathlib.Core.Logic.{inl, inr}
use Prim.Native.Nat.{ℕ, ◌+◌, ◌≤◌, ◌<◌}
use native.Mathlib.Omega.{arith}
use lib.ListN.{length, get_or}
use Rattle.cells.proofs.Stores.{in_sets}
use Rattle.heading.specs.declared.Heading.{Heading}
use Rattle.loops.specs.declared.Loop.{Loop}
use Rattle.store.specs.Meaning.{heading_at, head_words, loop_at, loop_words, with_loop, board_of, board_at, State, st, board_in, loaded, saved}
use Rattle.store.specs.Canon.{Formed, Canon}
use Rattle.store.proofs.Regions.{Agree, agree_sets}
use Rattle.store.proofs.Decode.{insts_apart, queue_behind, book_apart}
use Rattle.store.proofs.Kept.{spare_agree}

pub saved_agree : (s : State) → Agree 1 8 s.store (saved s)
saved_agree s = agree_sets s.store 1 (head_words s.head) 7 refl

pub saved_heading : (s : State) → 7168 ≤ length s.store → heading_at (saved s) ≡ s.head
saved_heading s l =
    let g : (j : ℕ) → j < 7 → get_or (saved s) (1 + j) 0 ≡ get_or (head_words s.head) j 0 =
    λ j q. in_sets 0 s.store 1 (head_words s.head) j q (omega arith) in
    rw (g 0 (omega arith), g 1 (omega arith), g 2 (omega arith), g 3 (omega arith), g 4 (omega arith), g 5 (omega arith), g 6 (omega arith))

pub saved_board : (s : State) → 7168 ≤ length s.store → board_at (saved s) ≡ board_in s
unfolding board_of
saved_board s l =
    let h = s.head in
    let a = saved_agree s in
    ap (λ (x : Heading). board_of x (saved s)) (saved_heading s l)
    ∙ rw (
      insts_apart a h.marks h.followed (λ i q. inr (omega arith)) (λ i q. inr (omega arith)),
      queue_behind a h.queued (omega arith),
    )

-- the store that was saved goes with the heading that is read from it
saved_formed : (s : State) → Formed s → Formed (st s.head (saved s))
saved_formed s c =
    let a = saved_agree s in
    record {
      long = rw a.long c.long;
      layout = a.outside 0 (inl (omega arith)) ∙ c.layout;
      some = c.some;
      few = c.few;
      marks = c.marks;
      room = c.room;
      books = λ i q. rw (book_apart a i (inr (omega arith))) (c.books i q);
      spare =
          spare_agree s.head.followed s.head.queued s.head.followed s.head.queued a c.spare (λ k _ u _. u)
          (λ k p o _ u. absurd (u.head (omega arith)));
    }

pub saved_canon : (s : State) → Canon s → Canon (loaded (saved s))
saved_canon s c = rw (saved_heading s c.formed.long) (record { formed = saved_formed s c.formed; idle = c.idle })

-- ---- the loop's record

pub loop_agree : (l : Loop) (xs : List ℕ) → Agree 8 12 xs (with_loop l xs)
loop_agree l xs = agree_sets xs 8 (loop_words l) 4 refl

pub loop_saved : (l : Loop) (xs : List ℕ) → 7168 ≤ length xs → loop_at (with_loop l xs) ≡ l
loop_saved l xs h =
    let g : (j : ℕ) → j < 4 → get_or (with_loop l xs) (8 + j) 0 ≡ get_or (loop_words l) j 0 = λ j q. in_sets 0 xs 8 (loop_words l) j q (omega arith) in
    rw (g 0 (omega arith), g 1 (omega arith), g 2 (omega arith), g 3 (omega arith))

module _ (l : Loop) (xs : List ℕ) where
  -- it is no number of the heading
  pub loop_heading : heading_at (with_loop l xs) ≡ heading_at xs
  loop_heading =
      let a = loop_agree l xs in
      rw (
        a.outside 1 (inl (omega arith)),
        a.outside 2 (inl (omega arith)),
        a.outside 3 (inl (omega arith)),
        a.outside 4 (inl (omega arith)),
        a.outside 5 (inl (omega arith)),
        a.outside 6 (inl (omega arith)),
        a.outside 7 (inl (omega arith)),
      )

  pub loop_board : board_at (with_loop l xs) ≡ board_at xs
  unfolding board_of
  loop_board =
      let h = heading_at xs in
      let a = loop_agree l xs in
      ap (λ (x : Heading). board_of x (with_loop l xs)) loop_heading
      ∙ rw (
        insts_apart a h.marks h.followed (λ i q. inr (omega arith)) (λ i q. inr (omega arith)),
        queue_behind a h.queued (omega arith),
      )

  pub loop_formed : Formed (loaded xs) → Formed (loaded (with_loop l xs))
  loop_formed c =
      let a = loop_agree l xs in
      rw loop_heading (record {
        long = rw a.long c.long;
        layout = a.outside 0 (inl (omega arith)) ∙ c.layout;
        some = c.some;
        few = c.few;
        marks = c.marks;
        room = c.room;
        books = λ i q. rw (book_apart a i (inr (omega arith))) (c.books i q);
        spare =
            spare_agree (get_or xs 2 0) (get_or xs 7 0) (get_or xs 2 0) (get_or xs 7 0) a c.spare (λ k _ u _. u)
            (λ k p o _ u. absurd (u.head (omega arith)));
      })
