-- An entry for all speaks of all, and the morning on which the channel's books are emptied: each part computed.
use mathlib.Core.Path.{◌≡◌, refl, ap, sym, subst, ◌∙◌}
use mathlib.Core.Bool.{Bool, true, false, cond, ◌&&◌, ◌||◌, true≢false}
use mathlib.Core.List.{List, [], ◌∷◌, ◌++◌, map}
use Prim.Native.Nat.{ℕ, ◌≤◌, ◌<◌}
use native.Mathlib.Omega.{arith}
use lib.Dec.{eqb, ltb}
use lib.ListN.{length, set, length-map, get_or-map}
use borrow.Author.Tests.{eqb-true, lt-ltb, le-ltb}
use Rattle.book.specs.Rules.{Lists, empty, Outcome, leaves, empty_of_all, for_all, applied, after_action, after_new}
use Rattle.book.specs.declared.Update.{Update}
use Rattle.message.specs.Message.{numbered}
use Rattle.board.specs.Board.{Inst, Queued, Board, any_waiting, look, speaks_of, no_inst, at, with_insts, settled}
use Rattle.board.specs.Count.{aimed, joining, landed, hit, give, gives, counted, joined, count, clear, cleared, number}
use Rattle.board.specs.Snapshot.{entries_of, run, after, take, snap}
use Rattle.board.specs.Feed.{feed}
use Rattle.board.specs.Calls.{mine}
use Rattle.board.specs.Demand.{book_at}
use Rattle.board.specs.Ranges.{entry_fine, none_fine, update_fine, shown_fine, head_fine, message_fine}
use Rattle.board.specs.Sound.{distinct}
use Rattle.board.specs.Loss.{order}
use Rattle.board.specs.ForAll.{bare, emptied, SpeaksOfAll, ForAllSpeaksOfAll, FromEmpty, stream, received, ChannelEmptied, breaks, BrokenBefore}
use Rattle.board.proofs.Running.{run_to}
use Rattle.board.proofs.Finding.{length_ids, mine_aimed}
use Rattle.board.proofs.Giving.{hits, gives_ids, gives_at, live_before, live_ran}
use Rattle.board.proofs.Cases.{count_is, number_is}
use Rattle.board.proofs.Staying.{same_feed, same_length, same_look}
use Rattle.board.proofs.Recovery.{live_followed}
use Rattle.board.proofs.Others.{at_settled}
use Rattle.board.proofs.Streams.{numbered_from_one, never_breaks}

module _ (u : Update) (all : for_all u ≡ true) where
  -- it is neither a bid nor an offer
  empties_book : (b : Lists) → applied b u ≡ leaves empty
  unfolding applied
  empties_book b = rw (eqb-true u.what empty_of_all all)

  hit_empties : (x : Inst) → hit u x ≡ emptied x
  unfolding hit
  hit_empties x = ap (λ (o : Outcome Lists). cond x.waiting x (landed x o)) (empties_book x.book)

  map_empties : (xs : List Inst) → map (hit u) xs ≡ map emptied xs
  map_empties [] = refl
  map_empties (x ∷ xs) = ap (◌∷ map (hit u) xs) (hit_empties x) ∙ ap (emptied x ∷◌) (map_empties xs)

  gives_all : (b : Board) → give u b ≡ with_insts (map emptied b.insts) b
  unfolding give
  gives_all b =
      ap (λ (a : Bool). with_insts (cond a (map (hit u) b.insts) (set b.insts u.who (hit u (at u.who b)))) b) all
      ∙ ap (λ (xs : List Inst). with_insts xs b) (map_empties b.insts)

  joins : (n : ℕ) (xs : List Inst) → 1 ≤ length xs → (us : List Update)
      → joining n (length xs) (aimed xs u ∷ us) ≡ record { number = n; update = aimed xs u } ∷ joining n (length xs) us
  unfolding joining
  joins n xs l us =
      ap (λ (t : Bool). cond t (record { number = n; update = aimed xs u } ∷ joining n (length xs) us) (joining n (length xs) us))
      (ap (λ (a : Bool). ltb (cond a 0 (look u.who xs)) (length xs)) all ∙ lt-ltb 0 (length xs) l)

  -- what is due of the queue where it stands first
  abbrev due : ℕ → ℕ → ℕ → List Queued → Bool → List Update
  due i S n qs t = cond t (u ∷ after i S qs) (after i S qs)

  speaks : (i : ℕ) → speaks_of i u ≡ true
  speaks i = ap (λ (a : Bool). a || eqb u.who i) all

  is_due_lem : (i S n : ℕ) (t : Bool) → ltb S n ≡ t → speaks_of i u && ltb S n ≡ t
  is_due_lem i S n t e = ap (λ (a : Bool). a && ltb S n) (speaks i) ∙ e

  pub speaks_of_all : SpeaksOfAll u
  unfolding after mine
  speaks_of_all =
      record {
        empties = gives_all;
        joins_once = joins;
        replayed = λ i S n qs l. ap (due i S n qs) (is_due_lem i S n true (lt-ltb S n l));
        not_replayed = λ i S n qs l. ap (due i S n qs) (is_due_lem i S n false (le-ltb S n l));
        read = λ d us. ap (λ (t : Bool). cond t (u ∷ mine d us) (mine d us)) (speaks d);
      }

pub for_all_speaks_of_all : ForAllSpeaksOfAll
for_all_speaks_of_all u all = speaks_of_all u all

-- Behind a message that has it, one that is Live has what the entries behind it make of an empty book.

-- an instrument that is Live once emptied has an empty book
emptied_book : (x : Inst) → (emptied x).waiting ≡ false → (emptied x).book ≡ empty
emptied_book x = go x.waiting refl
  where
    go : (w : Bool) → x.waiting ≡ w → (cond w x (bare x)).waiting ≡ false → (cond w x (bare x)).book ≡ empty
    go true e l = absurd (true≢false (sym e ∙ l))
    go false e l = refl

-- what instruments get of a message: the entries before it, it, and those behind it
gives_parts : (xs : List Inst) (us : List Update) (u : Update) (vs : List Update) (b : Board)
    → gives (map (aimed xs) (us ++ u ∷ vs)) b ≡ gives (map (aimed xs) vs) (gives (aimed xs u ∷ []) (gives (map (aimed xs) us) b))
unfolding gives
gives_parts xs [] u vs b = refl
gives_parts xs (v ∷ us) u vs b = gives_parts xs us u vs (give (aimed xs v) b)

gives_length : (us : List Update) (b : Board) → length (gives us b).insts ≡ length b.insts
gives_length us b = length_ids (gives us b).insts b.insts (gives_ids us b)

module _ (i n heard : ℕ) (xs : List Inst) (us : List Update) (u : Update) (vs : List Update) (all : for_all u ≡ true) where
  ws : List Update
  ws = map (aimed xs) (us ++ u ∷ vs)

  -- the instrument at index i
  abbrev Built : Inst → Type 0
  Built x = x.waiting ≡ false → run (mine i (map (aimed xs) vs)) empty ≡ leaves x.book

  given_built : (b : Board) → i < length b.insts → Built (at i (gives ws b))
  unfolding ws gives
  given_built b l =
      let c = gives (map (aimed xs) us) b in
      let e = gives (aimed xs u ∷ []) c in
      let own = mine i (map (aimed xs) vs) in
      let inside : i < length e.insts = rw (gives_length (aimed xs u ∷ []) c, gives_length (map (aimed xs) us) b) l in
      let p : at i e ≡ emptied (at i c) = ap (at i) (gives_all (aimed xs u) all c) ∙ get_or-map emptied c.insts i no_inst in
      let q : at i (gives ws b) ≡ hits own (emptied (at i c)) =
      ap (at i) (gives_parts xs us u vs b) ∙ gives_at (map (aimed xs) vs) i e inside ∙ ap (hits own) p in
      subst Built (sym q)
      (λ live.
      let w = live_before own (emptied (at i c)) live in
      subst (λ (k : Lists). run own k ≡ leaves (hits own (emptied (at i c))).book) (emptied_book (at i c) w) (live_ran own (emptied (at i c)) w live))

  settled_built : (w : Bool) (b : Board) → i < length b.insts → Built (at i (settled w (gives ws b)))
  settled_built w b l = subst Built (sym (at_settled i w (gives ws b) (gives ws b) refl)) (given_built b l)

  count_built : (a : ℕ) (b : Board) → i < length b.insts → Built (at i (count a n heard ws b).board)
  count_built a b l =
      count_is (λ o. Built (at i o.board)) a n heard ws b (λ _. settled_built false (counted n heard b) l) (λ over _. joins over)
    where
      joins : (over : Bool) → Built (at i (settled true (gives ws (joined over n ws (counted n heard b)))))
      joins true = settled_built true (joined true n ws (counted n heard b)) l
      joins false = settled_built true (joined false n ws (counted n heard b)) l

  number_built : (b : Board) → b.H < n → i < length b.insts → Built (at i (number n heard ws b).board)
  number_built b h l =
      number_is (λ o. Built (at i o.board)) n heard ws b (λ _ old. absurd (omega (arith, old))) (λ _. count_built 0 b l)
      (λ _. count_built 1 (cleared n b) (rw (length-map b.insts clear) l))

pub from_empty : FromEmpty
unfolding feed ws
from_empty d n heard us u vs b all h live =
    let m = numbered n heard (us ++ u ∷ vs) in
    let c = (feed m b).board in
    let xs = b.insts in
    let i = look d xs in
    let s = same_feed m b in
    let found : look d c.insts ≡ i = same_look d c b s in
    let inside : i < length xs = rw (← found, ← (same_length c b s)) (live_followed d c live) in
    sym (run_to i (mine d vs) empty)
    ∙ ap (λ (w : List Update). run w empty) (sym (mine_aimed d xs inside vs))
    ∙ subst (λ (k : ℕ). (at k c).waiting ≡ false → run (mine i (map (aimed xs) vs)) empty ≡ leaves (at k c).book) (sym found)
    (number_built i n heard xs us u vs all b h inside) live

pub channel_emptied : ChannelEmptied
unfolding stream received book_at mine run applied after_action after_new any_waiting look joining hit give gives count number entries_of after take snap feed distinct message_fine head_fine update_fine shown_fine entry_fine none_fine
channel_emptied =
    record {
      numbers = numbered_from_one stream refl;
      never_7 = never_breaks stream 7 (record { bids = order 5 2402 ∷ []; offers = [] }) refl;
      never_9 = never_breaks stream 9 (record { bids = order 6 1101 ∷ []; offers = [] }) refl;
      right_7 = (
        (λ _. (0, omega arith, refl)),
        ((λ _ _. refl), ((λ _. (1, omega arith, refl)), ((λ _. (2, omega arith, refl)), ((λ _ e. absurd (omega (arith, e))), ((λ _. (3, omega arith, refl)), tt))))),
      );
      right_9 = (
        (λ _. (0, omega arith, refl)),
        ((λ _ e. absurd (omega (arith, e))), ((λ _. (1, omega arith, refl)), ((λ _. (2, omega arith, refl)), ((λ _ _. refl), ((λ _. (3, omega arith, refl)), tt))))),
      );
      followed = refl;
      fine = (refl, (refl, (refl, (refl, (refl, (refl, tt))))));
      answered = refl;
      live = refl;
      book = refl;
      queued = refl;
      behind = refl;
      taken = refl;
      replayed = refl;
      last = refl;
    }

pub broken_before : BrokenBefore
unfolding breaks applied after_action after_new any_waiting look joining hit give gives count number entries_of run after take snap feed
broken_before = record { answered = refl; waits = refl; live = refl }
