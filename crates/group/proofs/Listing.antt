-- The walk along a group: what is known between two entries and in one, and what each step and each end of it says. Assumes nothing.
use Rattle.std.specs.Prelude.{Option, Some, None}
use mathlib.Core.Path.{◌≡◌, refl, sym, ap, ◌∙◌}
use mathlib.Core.List.{List, [], ◌∷◌, ◌++◌}
use mathlib.Core.Bool.{Bool, true, false, cond, not, ◌||◌}
use Prim.Native.Nat.{ℕ, ◌+◌, ◌*◌, ◌-◌, ◌≤◌, ◌<◌}
use native.Mathlib.Omega.{arith}
use borrow.Author.Tests.{eqb-false, lt-ltb, le-ltb, not-true}
use lib.Dec.{eqb}
use lib.ListN.{length, get_or-replicate}
use lib.Seq.{sets, length-sets}
use Rattle.digits.proofs.Width.{both}
use Rattle.book.specs.declared.Update.{Update}
use Rattle.cells.specs.Cells.{update_words, update_at}
use Rattle.cells.specs.Runs.{updates_in}
use Rattle.cells.proofs.Tables.{length_tab}
use Rattle.cells.proofs.Runs.{no_updates, one_more}
use Rattle.chain.specs.Fields.{Field, field}
use Rattle.chain.specs.Places.{step, part, field_at, broken, left}
use Rattle.chain.proofs.Walk.{walked, left_on, left_no, found}
use Rattle.tags.specs.Tags.{named_tags, has, stands, tidy, up_to, lookup}
use Rattle.tags.specs.Slots.{slot_of, below, between, no_marks, marked, strays, Holds}
use Rattle.tags.specs.declared.Marks.{Marks}
use Rattle.tags.specs.declared.Span.{Span}
use Rattle.tags.proofs.Slots.{has_below}
use Rattle.tags.proofs.Marking.{none_held, with_span, held_more}
use Rattle.tags.proofs.Tidiness.{fits, tidy_one}
use Rattle.place.specs.Places.{Place, split_from, Tells}
use Rattle.place.specs.Walks.{Walk}
use Rattle.place.proofs.Walking.{Tidy, was_untidy, was_tidy}
use Rattle.entries.proofs.Same.{x_same, w_same}
use Rattle.position.specs.Positions.{next_after, firsts, entry_in, entry_next, Fair}
use Rattle.position.specs.declared.Next.{Next}
use Rattle.position.specs.declared.Top.{Top}
use Rattle.group.specs.Listed.{grouped}
use Rattle.group.specs.Reads.{run_size, Spared, Lists}
use Rattle.group.proofs.Grouping.{outside, inside, group_start, at_end_lem, too_few, passed_over_lem, not_there, too_many, begins, breaks, walks, up_onward, entry_bad, entry_passed, entry_said}

-- all the named tags
all_named : below 21 ≡ named_tags
unfolding below
all_named = refl

pub named_is : (t k : ℕ) → k ≡ slot_of t → k < 21 → has t named_tags ≡ true
named_is t k q l = ap (has t) (sym all_named) ∙ has_below t 21 (omega arith) ∙ lt-ltb (slot_of t) 21 (omega arith)

pub named_not : (t k : ℕ) → k ≡ slot_of t → 21 ≤ k → has t named_tags ≡ false
named_not t k q l = ap (has t) (sym all_named) ∙ has_below t 21 (omega arith) ∙ le-ltb (slot_of t) 21 (omega arith)

-- bytes that are no field are no entry's start
broken_named : has 8 named_tags ≡ true
unfolding has
broken_named = refl

broken_apart : (t : Top) → Fair t → 8 ≡ t.first → ⊥
broken_apart t h = eqb-false 8 t.first (not-true (eqb 8 t.first) (both (not (eqb 8 t.first)) (strays 0 21 t.low 20 false) h.1).0)

-- marks say of an entry what its fields say
pub entry_same : (depth : ℕ) (t : Top) (next : Next) (s : List ℕ) (m : Marks) (e : List Field) → Holds 21 s m e
    → entry_next depth t next (marked s m) ≡ entry_next depth t next (lookup e)
unfolding entry_next entry_in
entry_same depth t next s m e h = rw (x_same (marked s m) (lookup e) h.text depth, w_same (marked s m) (lookup e) h.text depth t.id)

-- ---- in the run stands what was said so far, with room for those that are to come
pub record Kept (run : List ℕ) (n : ℕ) (next : Next) (more : ℕ) : Type 0 where
  pub wide : run_size ≤ length run
  pub room : n + more ≤ 64
  pub bid : next.bid ≤ n + 1
  pub offer : next.offer ≤ n + 1

kept_none : (run : List ℕ) (more : ℕ) → run_size ≤ length run → more ≤ 64 → Kept run 0 firsts more
kept_none run more w l = record { wide = w; room = omega arith; bid = omega arith; offer = omega arith }

-- fewer are to come
kept_less : (run : List ℕ) (n : ℕ) (next : Next) (more : ℕ) → Kept run n next more → Kept run n next (more - 1)
kept_less run n next more k = record { wide = k.wide; room = omega (arith, k.room); bid = k.bid; offer = k.offer }

next_most : (next : Next) (side n : ℕ) → next.bid ≤ n + 1 → next.offer ≤ n + 1
    → ((next_after next side).bid ≤ n + 1 + 1) × ((next_after next side).offer ≤ n + 1 + 1)
next_most next side n p q = go (eqb side 0)
  where
    after : Bool → Next
    after z = cond z (record { bid = next.bid + 1; offer = next.offer }) (record { bid = next.bid; offer = next.offer + 1 })

    go : (z : Bool) → ((after z).bid ≤ n + 1 + 1) × ((after z).offer ≤ n + 1 + 1)
    go true = (omega arith, omega arith)
    go false = (omega arith, omega arith)

-- one more was said
kept_more : (run : List ℕ) (n : ℕ) (next : Next) (more : ℕ) → Kept run n next more → (u : Update) → n + more < 64
    → Kept (sets run (n * 9) (update_words u)) (n + 1) (next_after next u.what) more
kept_more run n next more k u l =
    let b = next_most next u.what n k.bid k.offer in
    record { wide = omega (arith, k.wide, length-sets run (n * 9) (update_words u)); room = omega arith; bid = b.0; offer = b.1 }

-- ---- what is left of the run xs, where the group is good and where it is not
pub lists_all : (o : Option (List Update)) (xs ys : List ℕ) (n : ℕ) → o ≡ Some (updates_in ys n) → Spared xs ys → Lists o (Some n) xs ys
lists_all o xs ys n q l =
    let many : length (updates_in ys n) ≡ n = length_tab (λ (i : ℕ). update_at ys (i * 9)) n in
    record {
      count = rw q (ap Some (sym many));
      entries = λ us e. let p : updates_in ys n ≡ us = cc (sym q ∙ e) in rw (← p, many);
      run = l;
    }

pub lists_none : (o : Option (List Update)) (xs ys : List ℕ) (r : Option ℕ) → o ≡ None → r ≡ None → Spared xs ys → Lists o r xs ys
lists_none o xs ys r q e l =
    record {
      count = rw (q, e);
      entries = λ us h. let z : ◌≡◌ {A = ℕ} 0 1 = cc (sym q ∙ h) in absurd (omega arith);
      run = l;
    }

module _ (s : List ℕ) (start count depth : ℕ) (t : Top) where
  abbrev whole : Option (List Update)
  whole = grouped depth t count (left s start)

  abbrev low : ℕ
  low = t.low

  abbrev stop : ℕ
  stop = t.first

  abbrev ours : List ℕ
  ours = between low 20

  -- between two entries, or before the first
  pub record Listing (run : List ℕ) (n : ℕ) (next : Next) (more : ℕ) (at : ℕ) : Type 0 where
    pub fair : Fair t
    pub kept : Kept run n next more
    pub same : whole ≡ outside depth t more next (updates_in run n) (left s at)

  pub lists_start : (run : List ℕ) → run_size ≤ length run → Fair t → count ≤ 64 → Listing run 0 firsts count start
  lists_start run w h l =
      record {
        fair = h;
        kept = kept_none run count w l;
        same = group_start depth t count (left s start) ∙ ap (λ (us : List Update). outside depth t count firsts us (left s start)) (sym (no_updates run));
      }

  module _ (run : List ℕ) (n : ℕ) (next : Next) (more : ℕ) (at : ℕ) (w' : Listing run n next more at) where
    abbrev said : List Update
    said = updates_in run n

    -- the trailer
    pub all_there : length s ≤ at → more ≡ 0 → whole ≡ Some said
    all_there l z = w'.same ∙ ap (outside depth t more next said) (walked s at l) ∙ at_end_lem depth t more next said z

    pub some_missing : length s ≤ at → (more ≡ 0 → ⊥) → whole ≡ None
    some_missing l z = w'.same ∙ ap (outside depth t more next said) (walked s at l) ∙ too_few depth t more next said z

    -- bytes that are no field
    pub torn : at < length s → field_at s at ≡ None → whole ≡ None
    torn l e =
        w'.same ∙ ap (outside depth t more next said) (left_no s at l e)
        ∙ not_there depth t more next said broken [] (broken_apart t w'.fair) broken_named

    module _ (tag from to : ℕ) (l : at < length s) (step : field_at s at ≡ Some (step tag from to)) where
      abbrev f : Field
      f = field tag (part from to s)

      first : whole ≡ outside depth t more next said (f ∷ left s (to + 1))
      first = w'.same ∙ ap (outside depth t more next said) (left_on s at l step)

      pub early : (tag ≡ stop → ⊥) → (k : ℕ) → k ≡ slot_of tag → k < 21 → whole ≡ None
      early q k e g = first ∙ not_there depth t more next said f (left s (to + 1)) q (named_is tag k e g)

      pub lists_skip : (tag ≡ stop → ⊥) → (k : ℕ) → k ≡ slot_of tag → 21 ≤ k → Listing run n next more (to + 1)
      lists_skip q k e g =
          record { fair = w'.fair; kept = w'.kept; same = first ∙ passed_over_lem depth t more next said f (left s (to + 1)) q (named_not tag k e g) }

      pub no_more : tag ≡ stop → more ≡ 0 → whole ≡ None
      no_more q z = first ∙ too_many depth t more next said f (left s (to + 1)) q z

      first_fits : tag ≡ stop → fits named_tags ours [] f ≡ true
      unfolding stands
      first_fits q =
          let h : has tag ours ≡ true = rw q w'.fair.0 in
          rw h (go (has tag named_tags))
        where
          go : (z : Bool) → not z || true ≡ true
          go true = refl
          go false = refl

      -- an entry begins, whose first field is marked
      module _ (q : tag ≡ stop) (z : more ≡ 0 → ⊥) (k : ℕ) (e : k ≡ slot_of tag) (b : k ≤ 21) {m : Marks} (i : m ≡ no_marks) where
        entered : whole ≡ inside depth t (more - 1) next said (f ∷ []) (left s (to + 1))
        entered = first ∙ begins depth t more next said f (left s (to + 1)) q z

        tells : {p : Place} → Walk s (to + 1) stop 21 low 20 (with_span m k from to) p → Tells 21 s p (split_from stop 21 low 20 (f ∷ []) (left s (to + 1)))
        tells w =
            let v = found s at step in
            w.tells (f ∷ [])
            (rw i (held_more 21 s no_marks [] (omega arith) (none_held 21 s (omega arith)) tag k from to e b (λ i. get_or-replicate {A = Option Span} 22 k None None (omega arith)) v.some v.high))
            (ap (λ (named : List ℕ). tidy named ours (f ∷ [])) all_named ∙ tidy_one named_tags ours f (first_fits q))

        pub strayed : {p : Place} → Walk s (to + 1) stop 21 low 20 (with_span m k from to) p → p.ok ≡ false → whole ≡ None
        strayed {p} w h =
            entered
            ∙ breaks depth t (more - 1) next said (f ∷ []) (left s (to + 1))
            (ap (λ (named : List ℕ). tidy named ours ((f ∷ []) ++ up_to stop (left s (to + 1)))) (sym all_named) ∙ was_untidy s stop 21 low 20 (f ∷ []) (left s (to + 1)) p h (tells w))

        module _ {p : Place} (w : Walk s (to + 1) stop 21 low 20 (with_span m k from to) p) (good : p.ok ≡ true) where
          abbrev entry : List Field
          entry = (f ∷ []) ++ up_to stop (left s (to + 1))

          passed : Tidy s stop 21 low 20 (f ∷ []) (left s (to + 1)) p
          passed = was_tidy s stop 21 low 20 (f ∷ []) (left s (to + 1)) p good (tells w)

          walked_to : whole ≡ inside depth t (more - 1) next said entry (left s p.at)
          walked_to =
              entered ∙ walks depth t (more - 1) next said (f ∷ []) (left s (to + 1))
              ∙ ap (inside depth t (more - 1) next said entry) (sym passed.rest)

          tidied : tidy named_tags ours entry ≡ true
          tidied = ap (λ (named : List ℕ). tidy named ours entry) (sym all_named) ∙ passed.tidy

          ends : up_to stop (left s p.at) ≡ []
          ends = ap (up_to stop) passed.rest ∙ up_onward stop (left s (to + 1))

          read : entry_next depth t next (marked s p.marks) ≡ entry_next depth t next (lookup entry)
          read = entry_same depth t next s p.marks entry passed.holds

          pub ended_bad : entry_next depth t next (marked s p.marks) ≡ None → whole ≡ None
          ended_bad h = walked_to ∙ entry_bad depth t (more - 1) next said entry (left s p.at) tidied ends (sym read ∙ h)

          pub ended_passed : entry_next depth t next (marked s p.marks) ≡ Some None → Listing run n next (more - 1) p.at
          ended_passed h =
              record {
                fair = w'.fair;
                kept = kept_less run n next more w'.kept;
                same = walked_to ∙ entry_passed depth t (more - 1) next said entry (left s p.at) tidied ends (sym read ∙ h);
              }

          pub ended_said : (u : Update) → entry_next depth t next (marked s p.marks) ≡ Some (Some u) → (next' : Next) → next' ≡ next_after next u.what
              → (ys : List ℕ) → ys ≡ sets run (n * 9) (update_words u) → Listing ys (n + 1) next' (more - 1) p.at
          ended_said u h next' a ys c =
              let room : n + (more - 1) < 64 = omega (arith, w'.kept.room) in
              let more_said = one_more run n u (omega (arith, room, w'.kept.wide)) in
              rw (a, c) (record {
                fair = w'.fair;
                kept = kept_more run n next (more - 1) (kept_less run n next more w'.kept) u room;
                same =
                    walked_to
                    ∙ entry_said depth t (more - 1) next said entry (left s p.at) tidied ends u (sym read ∙ h)
                    ∙ ap (λ (us : List Update). outside depth t (more - 1) (next_after next u.what) us (left s p.at)) (sym more_said);
              })
