-- A message changes numbers of the 7,168 alone, from the records on: the store keeps its length, what lies beyond them, and what it
-- holds of the heading and of the loop's record, which go by value.
use mathlib.Core.Path.{◌≡◌, refl, sym, ◌∙◌}
use mathlib.Core.Bool.{Bool, true, false, cond, ◌||◌}
use mathlib.Core.List.{List, [], ◌∷◌}
use mathlib.Core.Logic.{inl, inr}
use Prim.Native.Nat.{ℕ, ◌+◌, ◌≤◌, ◌<◌}
use native.Mathlib.Omega.{arith}
use lib.Dec.{ltb, leb, eqb}
use lib.ListN.{length, take, drop, length-take, length-drop}
use lib.Seq.{sets, ext_get_or, get_or-take, get_or-drop}
use borrow.Author.Tests.{ltb-false, eqb-true}
use Rattle.book.specs.declared.Book.{Book}
use Rattle.book.specs.declared.Update.{Update}
use Rattle.book.specs.Rules.{Lists}
use Rattle.book.specs.Canonical.{KeptBook, book_of}
use Rattle.book.proofs.Tests.{by_test}
use Rattle.book.proofs.Canon.{kept_book_of}
use Rattle.cells.specs.Cells.{tab, side_words, queued_words, zeros, side_size}
use Rattle.cells.proofs.Windows.{length_side_words}
use Rattle.heading.specs.Marks.{marked}
use Rattle.message.specs.Message.{Message, numbered, snapshot, refused}
use Rattle.board.specs.Board.{look}
use Rattle.board.specs.Snapshot.{shown, too_wide}
use Rattle.store.specs.Layout.{store_size, heading_size, reason_of, bids_of, offers_of, slot_of}
use Rattle.store.specs.Meaning.{queued_at, State, st, board_in}
use Rattle.store.specs.Canon.{Formed}
use Rattle.store.specs.Steps.{gap_s}
use Rattle.store.specs.Answers.{FedS}
use Rattle.store.proofs.Cleared.{gap_canon}
use Rattle.store.proofs.Regions.{Agree, agree_sets, agree_zeros, agree_none, agree_wider, agree_then}
use Rattle.queue.specs.Joins.{let_go_s, settle_s, join_one_s, join_all_s, how_many, over_s, join_s}
use Rattle.queue.proofs.Joining.{one_followed, one_queued, join_formed}
use Rattle.deliver.specs.Gives.{apply_s, break_s, land_s, give_to_s, give_s, give_all_s}
use Rattle.deliver.proofs.Applying.{applies}
use Rattle.deliver.proofs.Giving.{give_stays, give_formed}
use Rattle.count.specs.Counts.{counted_s, count_s, number_s}
use Rattle.count.proofs.Board.{counted_formed}
use Rattle.taking.specs.Replays.{replay_b, live_s, take_s, snap_s}
use Rattle.terms.specs.Terms.{refusal_of}
use Rattle.taking.proofs.Outcomes.{replay_kept}
use Rattle.taking.proofs.Board.{not_refused}
use Rattle.channel.specs.Feeds.{aimed_at, feed_s}

-- t's store is s's but for numbers of the 7,168 from the records on
abbrev pub Within : State → State → Type 0
Within s t = Agree 32 7168 s.store t.store

-- so it is the same in front of them
pub front : (xs ys : List ℕ) → Agree 32 7168 xs ys → take heading_size ys ≡ take heading_size xs
front xs ys a =
    let n = a.long in
    ext_get_or 0 (take heading_size ys) (take heading_size xs) (length-take heading_size ys ∙ rw n (sym (length-take heading_size xs)))
    (λ k l.
    let h : k < heading_size = omega (arith, length-take heading_size ys) in
    get_or-take heading_size ys k 0 h ∙ a.outside k (inl h) ∙ sym (get_or-take heading_size xs k 0 h))

-- and beyond the 7,168
pub beyond : (lo : ℕ) (xs ys : List ℕ) → Agree lo 7168 xs ys → drop store_size ys ≡ drop store_size xs
beyond lo xs ys a =
    let n = a.long in
    ext_get_or 0 (drop store_size ys) (drop store_size xs) (length-drop store_size ys ∙ rw n (sym (length-drop store_size xs)))
    (λ k _. get_or-drop store_size ys k 0 ∙ a.outside (store_size + k) (inr (omega arith)) ∙ sym (get_or-drop store_size xs k 0))

-- ---- the queue

let_go_within : (s : State) → Within s (let_go_s s)
let_go_within s = agree_wider 32 7168 (omega arith) (omega arith) (agree_zeros s.store 4256 2816)

settle_within : (s : State) → Within s (settle_s s)
settle_within s = by_test (Within s) (eqb s.head.marks 0) (λ _. let_go_within s) (λ _. agree_none 32 7168 s.store)

one_within : (n : ℕ) (u : Update) (s : State) → s.head.queued + cond (ltb u.who s.head.followed) 1 0 ≤ 256 → Within s (join_one_s n u s)
one_within n u s r =
    by_test (Within s) (ltb u.who s.head.followed)
    (λ _. agree_wider 32 7168 (omega arith) (omega arith) (agree_sets s.store (slot_of s.head.queued) (queued_words n u) 10 refl))
    (λ _. agree_none 32 7168 s.store)

all_within : (n : ℕ) (us : List Update) (s : State) → s.head.queued + how_many s.head.followed us ≤ 256 → Within s (join_all_s n us s)
unfolding join_all_s how_many
all_within n [] s h = agree_none 32 7168 s.store
all_within n (u ∷ us) s h =
    agree_then (one_within n u s (omega arith)) (all_within n us (join_one_s n u s) (rw (one_queued n u s, one_followed n u s) (omega arith)))

join_within : (n : ℕ) (us : List Update) (s : State) → Within s (join_s n us s)
unfolding join_s
join_within n us s = by_test (Within s) (over_s us s) (λ _. let_go_within s) (λ e. all_within n us s (ltb-false 256 _ e))

-- ---- entries given

break_within : (i r : ℕ) (s : State) → i < 16 → Within s (break_s i r s)
break_within i r s h =
    let xs = s.store in
    let ys = sets xs (bids_of i) (zeros 256) in
    agree_then (agree_wider 32 7168 (omega arith) (omega arith) (agree_zeros xs (bids_of i) 256))
    (agree_wider 32 7168 (omega arith) (omega arith) (agree_sets ys (reason_of i) (r ∷ []) 1 refl))

land_within : (i : ℕ) (u : Update) (s : State) → Formed s → i < s.head.followed → Within s (land_s i (apply_s i u s.store) s)
land_within i u s f l =
    let t = apply_s i u s.store in
    let few : s.head.followed ≤ 16 = f.few in
    let a : Agree 32 7168 s.store t.store = agree_wider 32 7168 (omega arith) (omega arith) (applies s f i l u).agree in
    by_test (Within s) (eqb t.reason 0) (λ _. a) (λ _. agree_then a (break_within i t.reason (st s.head t.store) (omega arith)))

to_within : (i : ℕ) (u : Update) (s : State) → Formed s → i < s.head.followed → Within s (give_to_s i u s)
to_within i u s f l = by_test (Within s) (marked s.head.marks i) (λ _. agree_none 32 7168 s.store) (λ _. land_within i u s f l)

give_within : (u : Update) (s : State) → Formed s → Within s (give_s u s)
give_within u s f = give_stays (Within s) u s f (agree_none 32 7168 s.store) (λ i t g l w. agree_then w (to_within i u t g l))

gives_within : (us : List Update) (s : State) → Formed s → Within s (give_all_s us s)
unfolding give_all_s
gives_within [] s f = agree_none 32 7168 s.store
gives_within (u ∷ us) s f = agree_then (give_within u s f) (gives_within us (give_s u s) (give_formed u s f))

-- ---- a number

count_within : (a n heard : ℕ) (us : List Update) (s : State) → Formed s → Within s (count_s a n heard us s).state
unfolding count_s
count_within a n heard us s f =
    let t = counted_s n heard s in
    let c = counted_formed n heard s f in
    by_test (λ (o : FedS). Within s o.state) (eqb s.head.marks 0) (λ _. gives_within us t c)
    (λ _. agree_then (join_within n us t) (gives_within us (join_s n us t) (join_formed n us t c)))

number_within : (n heard : ℕ) (us : List Update) (s : State) → Formed s → Within s (number_s n heard us s).state
unfolding number_s
number_within n heard us s f =
    by_test (λ (o : FedS). Within s o.state) (leb n s.head.number) (λ _. agree_none 32 7168 s.store)
    (λ _. by_test (λ (o : FedS). Within s o.state) (leb n (s.head.number + 1)) (λ _. count_within 0 n heard us s f)
    (λ _.
    agree_then (agree_wider 32 7168 (omega arith) (omega arith) (agree_zeros s.store 160 6912))
    (count_within 1 n heard us (gap_s n s) (gap_canon n s f).formed)))

-- ---- a snapshot

live_within : (i : ℕ) (b : Book) (s : State) → i < 16 → KeptBook b → Within s (live_s i b s)
live_within i b s h k =
    let xs = s.store in
    let ys = sets xs (bids_of i) (side_words b.bids) in
    let zs = sets ys (offers_of i) (side_words b.offers) in
    agree_then (agree_wider 32 7168 (omega arith) (omega arith) (agree_sets xs (bids_of i) (side_words b.bids) side_size (length_side_words b.bids k.bids.full)))
    (agree_then (agree_wider 32 7168 (omega arith) (omega arith) (agree_sets ys (offers_of i) (side_words b.offers) side_size (length_side_words b.offers k.offers.full)))
    (agree_wider 32 7168 (omega arith) (omega arith) (agree_sets zs (reason_of i) (0 ∷ []) 1 refl)))

take_within : (i S : ℕ) (b : Book) (s : State) → i < 16 → KeptBook b → Within s (take_s i S b s).state
unfolding take_s
take_within i S b s h k =
    let qs = tab (queued_at s.store) s.head.queued in
    let t = replay_b i S qs b in
    by_test (λ (o : FedS). Within s o.state) (eqb t.reason 0)
    (λ _. agree_then (live_within i t.book s h (replay_kept i S qs b k)) (settle_within (live_s i t.book s)))
    (λ _. break_within i t.reason s h)

-- a book that is not too wide is kept
narrow : (l : Lists) → too_wide l ≡ false → KeptBook (book_of l)
narrow l e = go (ltb 20 (length l.bids)) refl e
  where
    go : (t : Bool) → ltb 20 (length l.bids) ≡ t → (t || ltb 20 (length l.offers)) ≡ false → KeptBook (book_of l)
    go true h g = let z : ◌≡◌ {A = ℕ} 0 1 = cc in absurd (omega arith)
    go false h g = kept_book_of l (ltb-false 20 _ h) (ltb-false 20 _ g)

snap_within : (d S : ℕ) (us : List Update) (s : State) → Formed s → Within s (snap_s d S us s).state
unfolding snap_s
snap_within d S us s f =
    let i = look d (board_in s).insts in
    let few : s.head.followed ≤ 16 = f.few in
    by_test (λ (o : FedS). Within s o.state) (eqb (refusal_of s.head i S) 0)
    (λ e. by_test (λ (o : FedS). Within s o.state) (too_wide (shown us)) (λ _. agree_none 32 7168 s.store)
    (λ w.
    let l = not_refused S us s f i (eqb-true _ _ e) in
    take_within i S (book_of (shown us)) s (omega arith) (narrow (shown us) w)))
    (λ _. agree_none 32 7168 s.store)

-- ---- a message

pub feed_within : (m : Message) (s : State) → Formed s → Within s (feed_s m s).state
unfolding feed_s
feed_within (numbered n heard us) s f = number_within n heard (aimed_at s us) s f
feed_within (snapshot h us) s f = snap_within h.id h.last (aimed_at s us) s f
feed_within (refused why) s f = agree_none 32 7168 s.store
