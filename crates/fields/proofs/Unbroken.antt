-- A body that reads well is no refusal and holds no 8: bytes that are no field are never read over. Assumes nothing.
use Rattle.std.specs.Prelude.{Option, Some, None}
use mathlib.Core.Path.{◌≡◌, refl}
use mathlib.Core.List.{List, []}
use mathlib.Core.Bool.{Bool, true, false, cond, ◌&&◌}
use Prim.Native.Nat.{ℕ}
use native.Mathlib.Omega.{arith}
use lib.Dec.{eqb}
use lib.ListN.{length}
use Rattle.digits.proofs.Width.{both}
use Rattle.message.specs.Message.{Message, numbered, snapshot, refused}
use Rattle.chain.specs.Fields.{Field}
use Rattle.tags.specs.Tags.{named_tags, other_tags, head_x, head_w, entry_x, entry_w, has, stands, tidy, all_tidy, up_to, past, parts, lookup}
use Rattle.tags.proofs.Unbroken.{stands_past, stands_tidy, stands_parts}
use Rattle.values.specs.Values.{◌>>=◌, need, seq_at, heard_at, count_at}
use Rattle.entries.specs.Entries.{entry_in_x, entry_in_w}
use Rattle.position.specs.Positions.{firsts}
use Rattle.group.specs.Groups.{group_of, each, running}
use Rattle.lead.specs.Messages.{other_of, changes_of, head_of, snapshot_of, typed_as}

-- a message that is not refused
abbrev pub is_read : Message → Bool
is_read (numbered n at us) = true
is_read (snapshot h us) = true
is_read (refused v) = false

-- what fields that are read say, and that none of them is an 8
pub record Well (fs : List Field) (m : Message) : Type 0 where
  pub read : is_read m ≡ true
  pub unbroken : stands 8 fs ≡ false

module _ {A : Type 0} {m : A} where
  -- what was read led on
  led : {B : Type 0} (o : Option B) (k : B → Option A) → o >>= k ≡ Some m → (v : B) × (o ≡ Some v) × (k v ≡ Some m)
  led None k e = let z : ◌≡◌ {A = ℕ} 0 1 = cc in absurd (omega arith)
  led (Some v) k e = (v, refl, e)

  -- a rule that had to hold held
  held : (z : Bool) (o : Option A) → need z o ≡ Some m → (z ≡ true) × (o ≡ Some m)
  held true o e = (refl, e)
  held false o e = let z : ◌≡◌ {A = ℕ} 0 1 = cc in absurd (omega arith)

module _ (fs : List Field) where
  -- from what stands before 268 and from what follows it
  all_of : (named ours : List ℕ) → has 8 named ≡ true → has 8 ours ≡ false
      → tidy named ours (up_to 268 fs) ≡ true → stands 8 (past 268 fs) ≡ false → stands 8 fs ≡ false
  all_of named ours a b h k = stands_past 8 268 fs refl (stands_tidy 8 named ours a b (up_to 268 fs) h) k

  -- and from what was said
  all_well : {m : Message} (n : Message) → Some n ≡ Some m → is_read n ≡ true → stands 8 fs ≡ false → Well fs m
  all_well {m} n e h k =
      let q : n ≡ m = cc in
      record { read = rw q at h; unbroken = k }

  group_unbroken : (first : ℕ) (ours : List ℕ) {es : List (List Field)} → has 8 ours ≡ false → group_of first ours fs ≡ Some es
      → stands 8 (past 268 fs) ≡ false
  unfolding group_of has
  group_unbroken first ours b e =
      let gs = past 268 fs in
      let c = led (count_at (lookup fs)) _ e in
      let before = up_to first gs in
      let ps = parts first gs in
      let h = held (eqb (length ps) c.0 && (tidy named_tags [] before && all_tidy named_tags ours ps)) (Some ps) c.2 in
      let d = both (eqb (length ps) c.0) (tidy named_tags [] before && all_tidy named_tags ours ps) h.0 in
      let r = both (tidy named_tags [] before) (all_tidy named_tags ours ps) d.1 in
      stands_parts 8 named_tags ours refl b first gs (stands_tidy 8 named_tags [] refl refl before r.0) r.1

  x_well : (depth : ℕ) {m : Message} → changes_of depth fs ≡ Some m → Well fs m
  unfolding changes_of has
  x_well depth e =
      let h = held (tidy named_tags head_x (up_to 268 fs)) _ e in
      let n = led (seq_at (lookup (up_to 268 fs))) _ h.1 in
      let t = led (heard_at (lookup (up_to 268 fs))) _ n.2 in
      let g = led (group_of 279 entry_x fs) _ t.2 in
      let u = led (each (entry_in_x depth) g.0) _ g.2 in
      all_well (numbered n.0 t.0 u.0) u.2 refl
      (all_of named_tags head_x refl refl h.0 (group_unbroken 279 entry_x refl g.1))

  w_well : (depth : ℕ) {m : Message} → snapshot_of depth fs ≡ Some m → Well fs m
  unfolding snapshot_of has
  w_well depth e =
      let h = held (tidy named_tags head_w (up_to 268 fs)) _ e in
      let t = led (head_of (lookup (up_to 268 fs))) _ h.1 in
      let g = led (group_of 269 entry_w fs) _ t.2 in
      let u = led (each (entry_in_w depth t.0.id) g.0) _ g.2 in
      let o = held (running firsts u.0) (Some (snapshot t.0 u.0)) u.2 in
      all_well (snapshot t.0 u.0) o.1 refl
      (all_of named_tags head_w refl refl h.0 (group_unbroken 269 entry_w refl g.1))

  o_well : {m : Message} → other_of fs ≡ Some m → Well fs m
  unfolding other_of has
  o_well e =
      let h = held (tidy other_tags head_x (up_to 268 fs) && tidy other_tags [] (past 268 fs)) _ e in
      let d = both (tidy other_tags head_x (up_to 268 fs)) (tidy other_tags [] (past 268 fs)) h.0 in
      let n = led (seq_at (lookup (up_to 268 fs))) _ h.1 in
      let t = led (heard_at (lookup (up_to 268 fs))) _ n.2 in
      all_well (numbered n.0 t.0 []) t.2 refl
      (all_of other_tags head_x refl refl d.0 (stands_tidy 8 other_tags [] refl refl (past 268 fs) d.1))

  pub typed_well : (depth kind : ℕ) {m : Message} → typed_as depth kind fs ≡ Some m → Well fs m
  unfolding typed_as
  typed_well depth kind {m} e = go (eqb kind 88) (eqb kind 87) e
    where
      go : (x w : Bool) → cond x (changes_of depth fs) (cond w (snapshot_of depth fs) (other_of fs)) ≡ Some m → Well fs m
      go true w h = x_well depth h
      go false true h = w_well depth h
      go false false h = o_well h
