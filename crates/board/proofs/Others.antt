-- Entries with a 48 never touch another instrument.
use mathlib.Core.Path.{◌≡◌, refl, ◌∙◌, ap, sym}
use mathlib.Core.Bool.{Bool, true, false, cond, ◌||◌}
use mathlib.Core.List.{List, [], ◌∷◌, map}
use Prim.Native.Nat.{ℕ, ◌+◌, ◌≤◌, ◌<◌}
use native.Mathlib.Omega.{arith}
use lib.Dec.{ltb, leb, eqb}
use lib.ListN.{length, get_or, length-map, get_or-eq_default}
use borrow.Author.Tests.{ltb-true, ltb-false, le-leb, lt-leb, ne_eqb}
use Rattle.book.specs.declared.Update.{Update}
use Rattle.message.specs.Message.{numbered, snapshot}
use Rattle.book.proofs.Tests.{by_test}
use Rattle.board.specs.Board.{any_waiting, Inst, Board, Out, look, speaks_of, no_inst, at, put, settled}
use Rattle.board.specs.Count.{to, aimed, gives, counted, joined, count, clear, cleared, number_by, number}
use Rattle.board.specs.Snapshot.{shown}
use Rattle.board.specs.Feed.{feed}
use Rattle.board.specs.Calls.{inst, mine}
use Rattle.board.specs.Sound.{Each}
use Rattle.board.specs.Laws.{Same, OwnEntriesOnly, OfAnother, OthersStay, OwnSnapshotOnly, GivesOwnOnly}
use Rattle.board.proofs.Finding.{look_found, mine_aimed}
use Rattle.board.proofs.Giving.{hits, at_put_other, gives_at}
use Rattle.board.proofs.Cases.{count_is, snap_is, take_is}
use Rattle.board.proofs.Staying.{same_feed, same_gives, same_length, same_look}

-- an instrument by its index, or none there
pub by_index : (i : ℕ) (b : Board) (P : Type 0) → (i < length b.insts → P) → (length b.insts ≤ i → P) → P
by_index i b P h g = go (ltb i (length b.insts)) refl
  where
    go : (t : Bool) → ltb i (length b.insts) ≡ t → P
    go true e = h (ltb-true i (length b.insts) e)
    go false e = g (ltb-false i (length b.insts) e)

-- past the last index there is none, before a call and after it
pub none_past : (i : ℕ) (b c : Board) → Same c b → length b.insts ≤ i → at i c ≡ at i b
none_past i b c s h =
    get_or-eq_default c.insts no_inst (rw (same_length c b s) h) ∙ sym (get_or-eq_default b.insts no_inst h)

pub gives_own_only : GivesOwnOnly
unfolding hits
gives_own_only i us b e =
    by_index i b (at i (gives us b) ≡ at i b) (λ l. gives_at us i b l ∙ ap (λ (v : List Update). hits v (at i b)) e)
    (none_past i b (gives us b) (same_gives us b))

-- Messages in order: the queue is joined, let go and settled without touching an instrument

pub at_settled : (i : ℕ) (w : Bool) (b c : Board) → at i b ≡ at i c → at i (settled w b) ≡ at i c
at_settled i false b c e = e
at_settled i true b c e = by_test (λ d. at i d ≡ at i c) (any_waiting b.insts) (λ _. e) (λ _. e)

in_order : (n heard : ℕ) (us : List Update) (b : Board) → n ≡ b.H + 1 → number n heard us b ≡ count 0 n heard us b
unfolding number
in_order n heard us b e =
    ap (λ (t : Bool). number_by t (leb n (b.H + 1)) n heard us b) (lt-leb n b.H (omega arith))
    ∙ ap (λ (t : Bool). number_by false t n heard us b) (le-leb n (b.H + 1) (omega arith))

-- what a counted message leaves of an instrument is what the entries that speak of it make of it
module _ (i n heard : ℕ) where
  count_at_lem : (a : ℕ) (us : List Update) (b : Board) → i < length b.insts → at i (count a n heard us b).board ≡ hits (mine i us) (at i b)
  count_at_lem a us b l =
      let c = counted n heard b in
      count_is (λ o. at i o.board ≡ hits (mine i us) (at i b)) a n heard us b
      (λ _. at_settled i false (gives us c) (gives us c) refl ∙ gives_at us i c l) (λ over _. joins over c l)
    where
      joins : (over : Bool) (c : Board) → i < length c.insts → at i (settled true (gives us (joined over n us c))) ≡ hits (mine i us) (at i c)
      joins true c l = at_settled i true (gives us (joined true n us c)) (gives us (joined true n us c)) refl ∙ gives_at us i (joined true n us c) l
      joins false c l = at_settled i true (gives us (joined false n us c)) (gives us (joined false n us c)) refl ∙ gives_at us i (joined false n us c) l

  -- so messages that have the same of them leave the same
  number_at : (us vs : List Update) (b : Board) → i < length b.insts → mine i us ≡ mine i vs
      → at i (number n heard us b).board ≡ at i (number n heard vs b).board
  unfolding number
  number_at us vs b l e = go (leb n b.H) (leb n (b.H + 1))
    where
      counts : (a : ℕ) (c : Board) → i < length c.insts → at i (count a n heard us c).board ≡ at i (count a n heard vs c).board
      counts a c k = count_at_lem a us c k ∙ ap (λ (w : List Update). hits w (at i c)) e ∙ sym (count_at_lem a vs c k)

      go : (old next : Bool) → at i (number_by old next n heard us b).board ≡ at i (number_by old next n heard vs b).board
      go true next = refl
      go false true = counts 0 b l
      go false false = counts 1 (cleared n b) (rw (length-map b.insts clear) l)

mine_mine : (d : ℕ) (us : List Update) → mine d (mine d us) ≡ mine d us
unfolding mine
mine_mine d [] = refl
mine_mine d (u ∷ us) = go (speaks_of d u) refl (mine_mine d us)
  where
    go : (t : Bool) → speaks_of d u ≡ t → mine d (mine d us) ≡ mine d us → mine d (cond t (u ∷ mine d us) (mine d us)) ≡ cond t (u ∷ mine d us) (mine d us)
    go true e ih = ap (λ (t : Bool). cond t (u ∷ mine d (mine d us)) (mine d (mine d us))) e ∙ ap (u ∷◌) ih
    go false e ih = ih

pub own_entries_only : OwnEntriesOnly
unfolding feed
own_entries_only d n heard us b =
    let xs = b.insts in
    let i = look d xs in
    let m = (feed (numbered n heard us) b).board in
    let o = (feed (numbered n heard (mine d us)) b).board in
    let s = same_feed (numbered n heard us) b in
    let t = same_feed (numbered n heard (mine d us)) b in
    let j = ap (λ (k : ℕ). at k m) (same_look d m b s) in
    let k = ap (λ (k : ℕ). at k o) (same_look d o b t) in
    by_index i b (inst d m ≡ inst d o)
    (λ l. j
    ∙ number_at i n heard (map (aimed xs) us) (map (aimed xs) (mine d us)) b l
    (mine_aimed d xs l us ∙ ap (map (to i)) (sym (mine_mine d us)) ∙ sym (mine_aimed d xs l (mine d us)))
    ∙ sym k)
    (λ l. j ∙ none_past i b m s l ∙ sym (none_past i b o t l) ∙ sym k)

-- none of a message's entries speaks of one, where each is for another
none_mine : (d : ℕ) (us : List Update) → Each (OfAnother d) us → mine d us ≡ []
unfolding mine
none_mine d [] h = refl
none_mine d (u ∷ us) h =
    ap (λ (a : Bool). cond (a || eqb u.who d) (u ∷ mine d us) (mine d us)) h.0.0
    ∙ ap (λ (t : Bool). cond t (u ∷ mine d us) (mine d us)) (ne_eqb u.who d h.0.1)
    ∙ none_mine d us h.1

pub others_stay : OthersStay
unfolding feed hits
others_stay d n heard us b e h =
    let xs = b.insts in
    let i = look d xs in
    let m = map (aimed xs) us in
    let c = (feed (numbered n heard us) b).board in
    let s = same_feed (numbered n heard us) b in
    let k = ap (λ (j : ℕ). at j c) (same_look d c b s) in
    by_index i b (inst d c ≡ inst d b)
    (λ l. k
    ∙ ap (λ (o : Out). at i o.board) (in_order n heard m b e)
    ∙ count_at_lem i n heard 0 m b l
    ∙ ap (λ (v : List Update). hits v (at i b)) (mine_aimed d xs l us ∙ ap (map (to i)) (none_mine d us h)))
    (λ l. k ∙ none_past i b c s l)

-- Snapshots

pub own_snapshot_only : OwnSnapshotOnly
unfolding feed
own_snapshot_only d h us b ne =
    let c = (feed (snapshot h us) b).board in
    let s = same_feed (snapshot h us) b in
    let k = ap (λ (i : ℕ). at i c) (same_look d c b s) in
    by_index i b (inst d c ≡ inst d b)
    (λ l. k
    ∙ snap_is Kept h.id h.last (shown us) b (λ _ _ _. refl)
    (take_is Kept j h.last (shown us) b (λ c _. put_kept _ l) (λ r _. put_kept _ l)))
    (λ l. k ∙ none_past i b c s l)
  where
    i : ℕ
    i = look d b.insts

    j : ℕ
    j = look h.id b.insts

    Kept : Out → Type 0
    Kept o = at i o.board ≡ at i b

    apart : i < length b.insts → i ≡ j → ⊥
    apart l e =
        ne (sym (look_found d b.insts l) ∙ ap (λ (k : ℕ). (get_or b.insts k no_inst).id) e ∙ look_found h.id b.insts (rw (← e) l))

    put_kept : (x : Inst) → i < length b.insts → at i (settled true (put j x b)) ≡ at i b
    put_kept x l = at_settled i true (put j x b) b (at_put_other j i x b (apart l))
