-- The entries that are written are the entries that are read, and they are the book. Assumes nothing.
use Rattle.std.specs.Prelude.{Some}
use mathlib.Core.Path.{◌≡◌, refl, ap, ◌∙◌}
use mathlib.Core.Bool.{true, false}
use mathlib.Core.List.{List, [], ◌∷◌, ◌++◌, append-nil, append_assoc}
use Prim.Native.Nat.{ℕ, suc, ◌+◌, ◌≤◌}
use native.Mathlib.Omega.{arith}
use borrow.Author.Tests.{eq-eqb}
use lib.Dec.{eqb}
use lib.ListN.{length, length-append}
use Rattle.chain.specs.Fields.{Field}
use Rattle.book.specs.Canonical.{All}
use Rattle.book.specs.Rules.{Lists}
use Rattle.book.specs.declared.Entry.{Entry}
use Rattle.book.specs.declared.Update.{Update}
use Rattle.board.specs.Ranges.{entry_fine}
use Rattle.board.specs.Snapshot.{entries_of, shown}
use Rattle.tags.specs.Tags.{named_tags, entry_w, all_tidy, up_to, parts}
use Rattle.entries.specs.Entries.{entry_in_w}
use Rattle.position.specs.Positions.{firsts}
use Rattle.group.specs.Groups.{each, running}
use Rattle.line.specs.Entries.{entry_fields}
use Rattle.snapshot.specs.Snapshot.{side_fields}
use Rattle.roundtrip.specs.ReadBack.{new_from, new_of}
use Rattle.roundtrip.proofs.Fine.{fine_is}
use Rattle.roundtrip.proofs.Entries.{bid_back, offer_back, is_tidy, one_part, begins_part}

-- the entries of a side, each as its fields
unfoldable pub entries_from : ℕ → ℕ → ℕ → List Entry → List (List Field)
entries_from depth sort place [] = []
entries_from depth sort place (e ∷ es) = entry_fields depth sort place e ∷ entries_from depth sort (place + 1) es

-- ---- the parts of the group
module _ (depth sort : ℕ) where
  side_begins : (place : ℕ) (es : List Entry) (r : List Field) → up_to 269 r ≡ [] → up_to 269 (side_fields depth sort place es ++ r) ≡ []
  unfolding side_fields
  side_begins place [] r h = h
  side_begins place (e ∷ es) r h = rw append_assoc (begins_part depth sort place e (side_fields depth sort (place + 1) es ++ r))

  side_parts : (place : ℕ) (es : List Entry) (r : List Field) → up_to 269 r ≡ []
      → parts 269 (side_fields depth sort place es ++ r) ≡ entries_from depth sort place es ++ parts 269 r
  unfolding side_fields entries_from
  side_parts place [] r h = refl
  side_parts place (e ∷ es) r h =
      rw append_assoc (one_part depth sort place e (side_fields depth sort (place + 1) es ++ r) (side_begins (place + 1) es r h))
      ∙ ap (λ (l : List (List Field)). entry_fields depth sort place e ∷ l) (side_parts (place + 1) es r h)

  entries_tidy : (place : ℕ) (es : List Entry) (r : List (List Field)) → all_tidy named_tags entry_w r ≡ true
      → all_tidy named_tags entry_w (entries_from depth sort place es ++ r) ≡ true
  unfolding entries_from all_tidy
  entries_tidy place [] r h = h
  entries_tidy place (e ∷ es) r h = rw (is_tidy depth sort place e, entries_tidy (place + 1) es r h)

  length_entries : (place : ℕ) (es : List Entry) → length (entries_from depth sort place es) ≡ length es
  unfolding entries_from
  length_entries place [] = refl
  length_entries place (e ∷ es) = ap suc (length_entries (place + 1) es)

-- ---- what they say
module _ (depth who : ℕ) where
  bids_said : (place : ℕ) (es : List Entry) (r : List (List Field)) (us : List Update) → All (λ e. entry_fine depth e ≡ true) es → 1 ≤ place
      → place + length es ≤ 65535 → each (entry_in_w depth who) r ≡ Some us
      → each (entry_in_w depth who) (entries_from depth 48 place es ++ r) ≡ Some (new_from who 0 place es ++ us)
  unfolding each entries_from new_from
  bids_said place [] r us h l k q = q
  bids_said place (e ∷ es) r us h l k q =
      rw (bid_back depth who place e l (omega arith) (fine_is depth e h.0), bids_said (place + 1) es r us h.1 (omega arith) (omega arith) q)

  offers_said : (place : ℕ) (es : List Entry) → All (λ e. entry_fine depth e ≡ true) es → 1 ≤ place → place + length es ≤ 65535
      → each (entry_in_w depth who) (entries_from depth 49 place es) ≡ Some (new_from who 1 place es)
  unfolding each entries_from new_from
  offers_said place [] h l k = refl
  offers_said place (e ∷ es) h l k =
      rw (offer_back depth who place e l (omega arith) (fine_is depth e h.0), offers_said (place + 1) es h.1 (omega arith) (omega arith))

-- ---- their positions run 1, 2, 3 on each side
module _ (who : ℕ) where
  bids_run : (i j : ℕ) (es : List Entry) (r : List Update) → ((k : ℕ) → running (record { bid = k; offer = j }) r ≡ true)
      → running (record { bid = i; offer = j }) (new_from who 0 i es ++ r) ≡ true
  unfolding running new_from
  bids_run i j [] r h = h i
  bids_run i j (e ∷ es) r h = rw (eq-eqb i i refl) (bids_run (i + 1) j es r h)

  offers_run : (i j : ℕ) (es : List Entry) → running (record { bid = i; offer = j }) (new_from who 1 j es) ≡ true
  unfolding running new_from
  offers_run i j [] = refl
  offers_run i j (e ∷ es) = rw (eq-eqb j j refl) (offers_run i (j + 1) es)

  -- ---- they are the book
  own : (side place : ℕ) (es : List Entry) (r : List Update) → eqb side side ≡ true → entries_of side (new_from who side place es ++ r) ≡ es ++ entries_of side r
  unfolding entries_of new_from
  own side place [] r q = refl
  own side place (e ∷ es) r q = rw (q, own side (place + 1) es r q)

  others : (side other place : ℕ) (es : List Entry) (r : List Update) → eqb other side ≡ false
      → entries_of side (new_from who other place es ++ r) ≡ entries_of side r
  unfolding entries_of new_from
  others side other place [] r q = refl
  others side other place (e ∷ es) r q = rw (q, others side other (place + 1) es r q)

  pub book_back : (b : Lists) → shown (new_of who b) ≡ b
  unfolding entries_of
  book_back b =
      let y = new_from who 1 1 b.offers in
      rw (
        own 0 1 b.bids y refl,
        others 1 0 1 b.bids y refl,
        ← append-nil y,
        others 0 1 1 b.offers [] refl,
        own 1 1 b.offers [] refl,
        append-nil b.bids,
        append-nil b.offers,
      )

module _ (depth who : ℕ) (b : Lists) where
  abbrev pub group : List Field
  group = side_fields depth 48 1 b.bids ++ side_fields depth 49 1 b.offers

  abbrev pub entries : List (List Field)
  entries = entries_from depth 48 1 b.bids ++ entries_from depth 49 1 b.offers

  pub group_parts : parts 269 group ≡ entries
  unfolding parts up_to
  group_parts =
      let o = side_fields depth 49 1 b.offers in
      let x : parts 269 o ≡ entries_from depth 49 1 b.offers = rw (← append-nil o, side_parts depth 49 1 b.offers [] refl) (append-nil (entries_from depth 49 1 b.offers)) in
      let y : up_to 269 o ≡ [] = rw (← append-nil o) (side_begins depth 49 1 b.offers [] refl) in
      rw (side_parts depth 48 1 b.bids o y, x)

  pub group_begins : up_to 269 group ≡ []
  unfolding up_to
  group_begins =
      let o = side_fields depth 49 1 b.offers in
      side_begins depth 48 1 b.bids o (rw (← append-nil o) (side_begins depth 49 1 b.offers [] refl))

  pub group_count : length entries ≡ length b.bids + length b.offers
  group_count = rw (length-append, length_entries depth 48, length_entries depth 49)

  pub group_tidy : all_tidy named_tags entry_w entries ≡ true
  unfolding all_tidy
  group_tidy =
      let o = entries_from depth 49 1 b.offers in
      entries_tidy depth 48 1 b.bids o (rw (← append-nil o) (entries_tidy depth 49 1 b.offers [] refl))

  pub group_said : All (λ e. entry_fine depth e ≡ true) b.bids → All (λ e. entry_fine depth e ≡ true) b.offers → length b.bids ≤ 20
      → length b.offers ≤ 20 → each (entry_in_w depth who) entries ≡ Some (new_of who b)
  group_said fb fo lb lo =
      bids_said depth who 1 b.bids (entries_from depth 49 1 b.offers) (new_from who 1 1 b.offers) fb (omega arith) (omega arith)
      (offers_said depth who 1 b.offers fo (omega arith) (omega arith))

  pub group_runs : running firsts (new_of who b) ≡ true
  group_runs = bids_run who 1 1 b.bids (new_from who 1 1 b.offers) (λ k. offers_run who k 1 b.offers)
