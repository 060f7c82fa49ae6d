-- The fields between 35 and 10 as the code takes them: what stands before 268, then the rest. Assumes nothing.
use Rattle.std.specs.Prelude.{Option, Some, None}
use mathlib.Core.Path.{◌≡◌, refl, sym, ap, ◌∙◌}
use mathlib.Core.List.{List, [], ◌∷◌}
use mathlib.Core.Bool.{Bool, true, false, cond, ◌&&◌}
use Prim.Native.Nat.{ℕ, ◌+◌, ◌≤◌}
use native.Mathlib.Omega.{arith}
use borrow.Author.Tests.{eqb-true, ne_eqb, leb-true, leb-false}
use lib.Dec.{eqb, leb}
use lib.ListN.{length}
use Rattle.digits.specs.Digits.{ranged_of, whole_of, digits_of}
use Rattle.digits.proofs.Width.{both}
use Rattle.book.specs.declared.Update.{Update}
use Rattle.message.specs.Message.{Head, numbered, snapshot, told}
use Rattle.message.specs.declared.Kind.{Kind}
use Rattle.message.specs.declared.Kind.TheVariants.{Numbered, Snapshot}
use Rattle.chain.specs.Fields.{Field, field}
use Rattle.chain.specs.Places.{step, part, field_at, left}
use Rattle.chain.proofs.Walk.{left_on, left_no, found, walked, all_tagged}
use Rattle.tags.specs.Tags.{named_tags, other_tags, head_x, head_w, entry_x, entry_w, has, tidy, all_tidy, up_to, past, onward, parts, lookup}
use Rattle.tags.specs.Slots.{slot_of, below, between, marked, Holds}
use Rattle.tags.specs.declared.Marks.{Marks}
use Rattle.values.specs.Values.{◌>>=◌, need, Values, seq_at, heard_at, instrument_of, last_at, loops_at}
use Rattle.entries.specs.Entries.{entry_in_x, entry_in_w}
use Rattle.entries.proofs.Same.{instrument_same}
use Rattle.position.specs.Positions.{firsts, entry_in, Fair}
use Rattle.group.specs.Groups.{group_of, each, running}
use Rattle.lead.specs.Messages.{other_of, changes_of, head_of, snapshot_of}
use Rattle.group.specs.Listed.{ordered, grouped}
use Rattle.lead.specs.Leads.{top_x, top_w, top_by, head_end, body_by, telling, told_by, counted, group_said}
use Rattle.position.specs.declared.Top.{Top}

-- ---- from 268 on
counted_by : (depth : ℕ) (t : Top) (n : Option ℕ) (gs : List Field)
    → (n >>= λ k.
    need (eqb (length (parts t.first gs)) k && (tidy named_tags [] (up_to t.first gs) && all_tidy named_tags (between t.low 20) (parts t.first gs)))
    (Some (parts t.first gs)))
    >>= (λ es. each (entry_in depth t) es >>= λ us. need (ordered t firsts us) (Some us))
    ≡ n >>= λ k. grouped depth t k gs
unfolding grouped
counted_by depth t None gs = refl
counted_by depth t (Some k) gs =
    go (eqb (length (parts t.first gs)) k && (tidy named_tags [] (up_to t.first gs) && all_tidy named_tags (between t.low 20) (parts t.first gs)))
  where
    go : (z : Bool)
        → need z (Some (parts t.first gs)) >>= (λ es. each (entry_in depth t) es >>= λ us. need (ordered t firsts us) (Some us))
        ≡ need z (each (entry_in depth t) (parts t.first gs) >>= λ us. need (ordered t firsts us) (Some us))
    go true = refl
    go false = refl

-- a group found by its 268 is the group from there on
no_count : ranged_of 2 0 64 [] ≡ None
unfolding ranged_of whole_of digits_of
no_count = refl

lookup_onward : (fs : List Field) → lookup fs 268 ≡ lookup (onward 268 fs) 268
unfolding lookup onward
lookup_onward [] = refl
lookup_onward (f ∷ fs) = go (eqb f.tag 268) refl (lookup_onward fs)
  where
    go : (z : Bool) → eqb f.tag 268 ≡ z → lookup fs 268 ≡ lookup (onward 268 fs) 268
        → cond z f.text (lookup fs 268) ≡ lookup (cond z (f ∷ fs) (onward 268 fs)) 268
    go true q i = rw q
    go false q i = i

past_onward : (fs : List Field) → past 268 fs ≡ past 268 (onward 268 fs)
unfolding past onward
past_onward [] = refl
past_onward (f ∷ fs) = go (eqb f.tag 268) refl (past_onward fs)
  where
    go : (z : Bool) → eqb f.tag 268 ≡ z → past 268 fs ≡ past 268 (onward 268 fs)
        → cond z fs (past 268 fs) ≡ past 268 (cond z (f ∷ fs) (onward 268 fs))
    go true q i = rw q
    go false q i = i

-- what stands there has the tag
headed : List Field → Bool
headed [] = true
headed (f ∷ fs) = eqb f.tag 268

onward_headed : (fs : List Field) → headed (onward 268 fs) ≡ true
unfolding onward headed
onward_headed [] = refl
onward_headed (f ∷ fs) = go (eqb f.tag 268) refl (onward_headed fs)
  where
    go : (z : Bool) → eqb f.tag 268 ≡ z → headed (onward 268 fs) ≡ true → headed (cond z (f ∷ fs) (onward 268 fs)) ≡ true
    go true q i = q
    go false q i = i

module _ (depth : ℕ) (t : Top) where
  unfoldable pub listing : Option (List (List Field)) → Option (List Update)
  listing o = o >>= λ es. each (entry_in depth t) es >>= λ us. need (ordered t firsts us) (Some us)

  group_at : (gs : List Field) → headed gs ≡ true → listing (group_of t.first (between t.low 20) gs) ≡ counted depth t gs
  unfolding listing headed group_of counted lookup past
  group_at [] h = rw no_count
  group_at (f ∷ gs) h = rw h (counted_by depth t (ranged_of 2 0 64 f.text) gs)

  group_onward : (fs : List Field) → group_of t.first (between t.low 20) fs ≡ group_of t.first (between t.low 20) (onward 268 fs)
  unfolding group_of
  group_onward fs = rw (lookup_onward fs, past_onward fs)

  pub group_from : (fs : List Field) → listing (group_of t.first (between t.low 20) fs) ≡ counted depth t (onward 268 fs)
  group_from fs = ap listing (group_onward fs) ∙ group_at (onward 268 fs) (onward_headed fs)

-- the group by the field at a place
module _ (s : List ℕ) (start depth : ℕ) (t : Top) where
  -- no field: nothing is left, or bytes that are none, and no bytes are no number
  pub no_group : field_at s start ≡ None → counted depth t (left s start) ≡ None
  unfolding counted
  no_group e = go (leb (length s) start) refl
    where
      go : (z : Bool) → leb (length s) start ≡ z → counted depth t (left s start) ≡ None
      go true q = rw (walked s start (leb-true (length s) start q))
      go false q = rw (left_no s start (leb-false (length s) start q) e, no_count)

  module _ (tag from to : ℕ) (step : field_at s start ≡ Some (step tag from to)) where
    on : left s start ≡ field tag (part from to s) ∷ left s (to + 1)
    on = let p = found s start step in left_on s start (omega (arith, p.low, p.some, p.high)) step

    pub bad_count : ranged_of 2 0 64 (part from to s) ≡ None → counted depth t (left s start) ≡ None
    unfolding counted
    bad_count e = rw (on, e)

    pub good_count : (n : ℕ) → ranged_of 2 0 64 (part from to s) ≡ Some n → counted depth t (left s start) ≡ grouped depth t n (left s (to + 1))
    unfolding counted
    good_count n e = rw (on, e)

not_read : (z : Bool) {A : Type 0} (o : Option A) → o ≡ None → need z o ≡ None
not_read true o q = q
not_read false o q = refl

-- ---- what stands before 268 in an X
abbrev x_top : ℕ → ℕ → Top
x_top n at = record { first = 279; low = 8; number = n; heard = at; id = 0; last = 0; loops = 0 }

pub record TopX (v : Values) (t : Top) : Type 0 where
  pub n : ℕ
  pub at : ℕ
  pub seq : seq_at v ≡ Some n
  pub heard : heard_at v ≡ Some at
  pub same : t ≡ record { first = 279; low = 8; number = n; heard = at; id = 0; last = 0; loops = 0 }

pub is_top_x : (v : Values) {t : Top} → top_x v ≡ Some t → TopX v t
unfolding top_x
is_top_x v {t} = go (seq_at v) (heard_at v) refl refl
  where
    go : (a b : Option ℕ) → seq_at v ≡ a → heard_at v ≡ b → a >>= (λ n. b >>= λ at. Some (x_top n at)) ≡ Some t → TopX v t
    go None b p q e = let z : ◌≡◌ {A = ℕ} 0 1 = cc in absurd (omega arith)
    go (Some n) None p q e = let z : ◌≡◌ {A = ℕ} 0 1 = cc in absurd (omega arith)
    go (Some n) (Some at) p q e = record { n = n; at = at; seq = p; heard = q; same = cc }

x_none : {A : Type 0} (v : Values) (k : ℕ → ℕ → Option A) → top_x v ≡ None → seq_at v >>= (λ n. heard_at v >>= λ at. k n at) ≡ None
unfolding top_x
x_none {A} v k = go (seq_at v) (heard_at v)
  where
    go : (a b : Option ℕ) → a >>= (λ n. b >>= λ at. Some (x_top n at)) ≡ None → a >>= (λ n. b >>= λ at. k n at) ≡ None
    go None b e = refl
    go (Some n) None e = refl
    go (Some n) (Some at) e = let z : ◌≡◌ {A = ℕ} 0 1 = cc in absurd (omega arith)

-- marks and fields say the same of it
pub top_x_same : (named : ℕ) (s : List ℕ) (m : Marks) (fs : List Field) → 6 ≤ named → Holds named s m fs → top_x (marked s m) ≡ top_x (lookup fs)
unfolding top_x slot_of
top_x_same named s m fs l h = rw (h.text 34 (omega arith), h.text 52 (omega arith))

-- ---- X
module _ (depth : ℕ) (fs : List Field) where
  abbrev v : Values
  v = lookup (up_to 268 fs)

  pub x_untidy : tidy (below 21) (between 4 6) (up_to 268 fs) ≡ false → changes_of depth fs ≡ None
  unfolding changes_of below between
  x_untidy h = rw h

  pub x_no_top : top_x v ≡ None → changes_of depth fs ≡ None
  unfolding changes_of
  x_no_top h =
      not_read (tidy named_tags head_x (up_to 268 fs))
      (seq_at v >>= λ n. heard_at v >>= λ at. group_of 279 entry_x fs >>= λ es. each (entry_in_x depth) es >>= λ us. Some (numbered n at us))
      (x_none v (λ n at. group_of 279 entry_x fs >>= λ es. each (entry_in_x depth) es >>= λ us. Some (numbered n at us)) h)

  x_answer : (n at : ℕ) (o : Option (List (List Field)))
      → telling (o >>= λ es. each (entry_in_x depth) es >>= λ us. Some (numbered n at us)) ≡ listing depth (x_top n at) o >>= λ us. Some (told_by Numbered (x_top n at) us)
  unfolding listing entry_in ordered told
  x_answer n at None = refl
  x_answer n at (Some es) = go (each (entry_in_x depth) es)
    where
      go : (r : Option (List Update)) → telling (r >>= λ us. Some (numbered n at us)) ≡ (r >>= λ us. Some us) >>= λ us. Some (told_by Numbered (x_top n at) us)
      go None = refl
      go (Some us) = refl

  pub x_is : tidy (below 21) (between 4 6) (up_to 268 fs) ≡ true → (t : Top) → TopX v t → group_said Numbered depth t (onward 268 fs) ≡ telling (changes_of depth fs)
  unfolding changes_of below between
  x_is h t p =
      let q = p.same in
      rw (h, p.seq, p.heard, q)
      (sym (x_answer p.n p.at (group_of 279 entry_x fs) ∙ ap (λ (o : Option (List Update)). o >>= λ us. Some (told_by Numbered (x_top p.n p.at) us)) (group_from depth (x_top p.n p.at) fs)))

-- ---- what stands before 268 in a W
abbrev w_top : Head → Top
w_top h = record { first = 269; low = 12; number = h.number; heard = h.heard; id = h.id; last = h.last; loops = h.loops }

pub record TopW (v : Values) (t : Top) : Type 0 where
  pub head : Head
  pub read : head_of v ≡ Some head
  pub same : t ≡ record { first = 269; low = 12; number = head.number; heard = head.heard; id = head.id; last = head.last; loops = head.loops }

-- the two ways to read it
heads : (v : Values) (a b c d e : Option ℕ) → seq_at v ≡ a → heard_at v ≡ b → instrument_of v ≡ c → last_at v ≡ d → loops_at v ≡ e
    → top_w v ≡ head_of v >>= λ h. Some (w_top h)
unfolding top_w top_x head_of
heads v None b c d e p q r s u = rw p
heads v (Some n) None c d e p q r s u = rw (p, q)
heads v (Some n) (Some at) None d e p q r s u = rw (p, q, r)
heads v (Some n) (Some at) (Some id) None e p q r s u = rw (p, q, r, s)
heads v (Some n) (Some at) (Some id) (Some last) None p q r s u = rw (p, q, r, s, u)
heads v (Some n) (Some at) (Some id) (Some last) (Some loops) p q r s u = rw (p, q, r, s, u)

top_head : (v : Values) → top_w v ≡ head_of v >>= λ h. Some (w_top h)
top_head v = heads v (seq_at v) (heard_at v) (instrument_of v) (last_at v) (loops_at v) refl refl refl refl refl

pub is_top_w : (v : Values) {t : Top} → top_w v ≡ Some t → TopW v t
is_top_w v {t} e = go (head_of v) refl (sym (top_head v) ∙ e)
  where
    go : (o : Option Head) → head_of v ≡ o → o >>= (λ h. Some (w_top h)) ≡ Some t → TopW v t
    go None q h = let z : ◌≡◌ {A = ℕ} 0 1 = cc in absurd (omega arith)
    go (Some h) q k = record { head = h; read = q; same = cc }

no_head : (v : Values) → top_w v ≡ None → head_of v ≡ None
no_head v e = go (head_of v) (sym (top_head v) ∙ e)
  where
    go : (o : Option Head) → o >>= (λ h. Some (w_top h)) ≡ None → o ≡ None
    go None h = refl
    go (Some h) k = let z : ◌≡◌ {A = ℕ} 0 1 = cc in absurd (omega arith)

pub top_w_same : (s : List ℕ) (m : Marks) (fs : List Field) → Holds 21 s m fs → top_w (marked s m) ≡ top_w (lookup fs)
unfolding top_w slot_of
top_w_same s m fs h =
    rw (
      top_x_same 21 s m fs (omega arith) h,
      instrument_same (marked s m) (lookup fs) h.text,
      h.text 369 (omega arith),
      h.text 911 (omega arith),
    )

-- ---- W
module _ (depth : ℕ) (fs : List Field) where
  abbrev w : Values
  w = lookup (up_to 268 fs)

  pub w_untidy : tidy (below 21) (between 4 11) (up_to 268 fs) ≡ false → snapshot_of depth fs ≡ None
  unfolding snapshot_of below between
  w_untidy h = rw h

  pub w_no_top : top_w w ≡ None → snapshot_of depth fs ≡ None
  unfolding snapshot_of
  w_no_top h = rw (no_head w h) (not_read (tidy named_tags head_w (up_to 268 fs)) None refl)

  w_answer : (h : Head) (o : Option (List (List Field)))
      → telling (o >>= λ es. each (entry_in_w depth h.id) es >>= λ us. need (running firsts us) (Some (snapshot h us)))
      ≡ listing depth (w_top h) o >>= λ us. Some (told_by Snapshot (w_top h) us)
  unfolding listing entry_in ordered told
  w_answer h None = refl
  w_answer h (Some es) = go (each (entry_in_w depth h.id) es)
    where
      pick : (z : Bool) (us : List Update) → telling (need z (Some (snapshot h us))) ≡ need z (Some us) >>= λ us. Some (told_by Snapshot (w_top h) us)
      pick true us = refl
      pick false us = refl

      go : (r : Option (List Update))
          → telling (r >>= λ us. need (running firsts us) (Some (snapshot h us))) ≡ (r >>= λ us. need (running firsts us) (Some us)) >>= λ us. Some (told_by Snapshot (w_top h) us)
      go None = refl
      go (Some us) = pick (running firsts us) us

  pub w_is : tidy (below 21) (between 4 11) (up_to 268 fs) ≡ true → (t : Top) → TopW w t → group_said Snapshot depth t (onward 268 fs) ≡ telling (snapshot_of depth fs)
  unfolding snapshot_of below between
  w_is e t p =
      let q = p.same in
      rw (e, p.read, q)
      (sym (w_answer p.head (group_of 269 entry_w fs) ∙ ap (λ (o : Option (List Update)). o >>= λ us. Some (told_by Snapshot (w_top p.head) us)) (group_from depth (w_top p.head) fs)))

-- ---- X and W
module _ (k : Kind) (depth : ℕ) (fs : List Field) where
  pub untidy_body : tidy (below 21) (between 4 (head_end k)) (up_to 268 fs) ≡ false → body_by k depth fs ≡ None
  untidy_body = go k
    where
      go : (k : Kind) → tidy (below 21) (between 4 (head_end k)) (up_to 268 fs) ≡ false → body_by k depth fs ≡ None
      go Numbered h = x_untidy depth fs h
      go Snapshot h = w_untidy depth fs h

  pub topless_body : top_by k (lookup (up_to 268 fs)) ≡ None → body_by k depth fs ≡ None
  topless_body = go k
    where
      go : (k : Kind) → top_by k (lookup (up_to 268 fs)) ≡ None → body_by k depth fs ≡ None
      go Numbered h = x_no_top depth fs h
      go Snapshot h = w_no_top depth fs h

  pub topped_body : tidy (below 21) (between 4 (head_end k)) (up_to 268 fs) ≡ true → (t : Top) → top_by k (lookup (up_to 268 fs)) ≡ Some t
      → group_said k depth t (onward 268 fs) ≡ telling (body_by k depth fs)
  topped_body = go k
    where
      go : (k : Kind) → tidy (below 21) (between 4 (head_end k)) (up_to 268 fs) ≡ true → (t : Top) → top_by k (lookup (up_to 268 fs)) ≡ Some t
          → group_said k depth t (onward 268 fs) ≡ telling (body_by k depth fs)
      go Numbered h t e = x_is depth fs h t (is_top_x (lookup (up_to 268 fs)) e)
      go Snapshot h t e = w_is depth fs h t (is_top_w (lookup (up_to 268 fs)) e)

-- its entries can be told apart
pub top_fair : (k : Kind) (v : Values) {t : Top} → top_by k v ≡ Some t → Fair t
unfolding has between
top_fair Numbered v e = rw (is_top_x v e).same (refl, refl)
top_fair Snapshot v e = rw (is_top_w v e).same (refl, refl)

pub top_same : (k : Kind) (s : List ℕ) (m : Marks) (fs : List Field) → Holds 21 s m fs → top_by k (marked s m) ≡ top_by k (lookup fs)
top_same Numbered s m fs h = top_x_same 21 s m fs (omega arith) h
top_same Snapshot s m fs h = top_w_same s m fs h

-- ---- the other types
no_zero : (fs : List Field) → all_tagged fs ≡ true → up_to 0 fs ≡ fs
unfolding up_to
no_zero [] h = refl
no_zero (f ∷ fs) h =
    let d = both (leb 1 f.tag) (all_tagged fs) h in
    let l = leb-true 1 f.tag d.0 in
    rw (ne_eqb f.tag 0 (λ q. omega arith), no_zero fs d.1)

onward_tagged : (fs : List Field) → all_tagged fs ≡ true → all_tagged (onward 268 fs) ≡ true
unfolding onward
onward_tagged [] h = refl
onward_tagged (f ∷ fs) h = go (eqb f.tag 268) (onward_tagged fs (both (leb 1 f.tag) (all_tagged fs) h).1)
  where
    go : (z : Bool) → all_tagged (onward 268 fs) ≡ true → all_tagged (cond z (f ∷ fs) (onward 268 fs)) ≡ true
    go true i = h
    go false i = i

-- 268 itself is not named there
tidy_past : (fs : List Field) → tidy other_tags [] (onward 268 fs) ≡ tidy other_tags [] (past 268 fs)
unfolding onward past tidy has
tidy_past [] = refl
tidy_past (f ∷ fs) = go (eqb f.tag 268) refl (tidy_past fs)
  where
    go : (z : Bool) → eqb f.tag 268 ≡ z → tidy other_tags [] (onward 268 fs) ≡ tidy other_tags [] (past 268 fs)
        → tidy other_tags [] (cond z (f ∷ fs) (onward 268 fs)) ≡ tidy other_tags [] (cond z fs (past 268 fs))
    go true q i = rw (eqb-true f.tag 268 q)
    go false q i = i

rest_tidy : (fs : List Field) → all_tagged fs ≡ true → tidy (below 6) (between 0 0) (up_to 0 (onward 268 fs)) ≡ tidy other_tags [] (past 268 fs)
unfolding below between
rest_tidy fs h = rw (no_zero (onward 268 fs) (onward_tagged fs h)) (tidy_past fs)

module _ (fs : List Field) where
  abbrev y : Values
  y = lookup (up_to 268 fs)

  pub o_untidy : tidy (below 6) (between 4 6) (up_to 268 fs) ≡ false → other_of fs ≡ None
  unfolding other_of below between
  o_untidy h = rw h

  pub o_untidy_rest : all_tagged fs ≡ true → tidy (below 6) (between 0 0) (up_to 0 (onward 268 fs)) ≡ false → other_of fs ≡ None
  unfolding other_of
  o_untidy_rest f h = rw (sym (rest_tidy fs f) ∙ h) (go (tidy other_tags head_x (up_to 268 fs)))
    where
      go : (z : Bool) → need (z && false) (seq_at y >>= λ n. heard_at y >>= λ at. Some (numbered n at [])) ≡ None
      go true = refl
      go false = refl

  pub o_no_top : top_x y ≡ None → other_of fs ≡ None
  unfolding other_of
  o_no_top h =
      not_read (tidy other_tags head_x (up_to 268 fs) && tidy other_tags [] (past 268 fs)) (seq_at y >>= λ n. heard_at y >>= λ at. Some (numbered n at []))
      (x_none y (λ n at. Some (numbered n at [])) h)

  pub o_is : all_tagged fs ≡ true → tidy (below 6) (between 4 6) (up_to 268 fs) ≡ true → tidy (below 6) (between 0 0) (up_to 0 (onward 268 fs)) ≡ true
      → (t : Top) → TopX y t → telling (other_of fs) ≡ Some (told_by Numbered t [])
  unfolding other_of told below between
  o_is f h k t p =
      let q = p.same in
      rw (h, sym (rest_tidy fs f) ∙ k, p.seq, p.heard, q)
