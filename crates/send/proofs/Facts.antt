-- What a sound store gives to the writer: a heading, and books that can be written.
use mathlib.Core.Path.{◌≡◌, subst}
use mathlib.Core.Bool.{Bool, true, false, cond, ◌&&◌, ◌||◌}
use mathlib.Core.List.{List, [], ◌∷◌}
use Prim.Native.Nat.{ℕ, ◌≤◌, ◌<◌, ◌^◌}
use native.Mathlib.Omega.{arith}
use lib.Dec.{leb, eqb}
use lib.ListN.{length}
use borrow.Author.Tests.{leb-true}
use Rattle.moment.specs.Moments.{moments}
use Rattle.orderid.specs.OrderIds.{is_id, id_bytes, top, full, id_sound}
use Rattle.book.specs.Canonical.{All, held_in}
use Rattle.book.specs.declared.Entry.{Entry}
use Rattle.line.specs.Entries.{Writable}
use Rattle.board.specs.Board.{no_inst}
use Rattle.board.specs.Ranges.{within, most_id, most_orders, id_fine, orders_fine, by_fine, entry_fine}
use Rattle.board.specs.Sound.{SoundInst}
use Rattle.board.proofs.Tested.{both, three, four, within_true, entry_sound}
use Rattle.board.proofs.Each.{each_at}
use Rattle.store.specs.Meaning.{book_at, inst_at, board_of, board_at, loaded}
use Rattle.store.proofs.Decode.{at_board, insts_length}
use Rattle.sound.specs.Sound.{sound}
use Rattle.sound.proofs.Readers.{formed, board}
use Rattle.snapshot.specs.Writing.{letter, Ready}
use Rattle.send.specs.Send.{arguments_fine}

-- ---- an entry in range can be written

by_lt : (depth by more : ℕ) → by_fine depth by more ≡ true → by < 10 ^ 18
by_lt depth by more = go (eqb depth 0)
  where
    go : (t : Bool) → cond t (id_sound by more) (orders_fine by more) ≡ true → by < 10 ^ 18
    go true h =
        let p = both (within 1 top by) (eqb more 0 || (leb full by && leb more top)) h in
        omega (arith, (within_true 1 top by p.0).1)
    go false h =
        let p = both (within 1 most_orders by) (eqb more 0) h in
        omega (arith, (within_true 1 most_orders by p.0).1)

writable : (depth : ℕ) (e : Entry) → entry_fine depth e ≡ true → Writable e
writable depth e h =
    let s = entry_sound depth e h in
    record { price = s.price; size = omega (arith, s.size_high); by = by_lt depth e.by e.more s.by; moment = s.moment }

all_writable : (depth : ℕ) (l : List Entry) → All (λ e. entry_fine depth e ≡ true) l → All Writable l
all_writable depth [] h = tt
all_writable depth (e ∷ l) h = (writable depth e h.0, all_writable depth l h.1)

-- ---- the arguments

pub record Fine (id : ℕ) (sender target : List ℕ) (k m : ℕ) : Type 0 where
  pub who : id ≤ most_id
  pub from : length sender ≤ 16
  pub to : length target ≤ 16
  pub turn : k ≤ m
  pub loop : m ≤ 16

id_short : (t : List ℕ) → is_id t ≡ true → length t ≤ 16
unfolding is_id
id_short t h = leb-true (length t) 16 (three (leb 1 (length t)) (leb (length t) 16) (id_bytes t) h).1

pub fine : (id : ℕ) (sender target : List ℕ) (k m : ℕ) → arguments_fine id sender target k m ≡ true → Fine id sender target k m
unfolding arguments_fine
fine id sender target k m h =
    let p = four (id_fine id) (is_id sender) (is_id target) (leb 1 k && (leb k m && leb m 16)) h in
    let q = three (leb 1 k) (leb k m) (leb m 16) p.3 in
    record {
      who = (within_true 1 most_id id p.0).1;
      from = id_short sender p.1;
      to = id_short target p.2;
      turn = leb-true k m q.1;
      loop = leb-true m 16 q.2;
    }

-- ---- a sound store

module _ (xs : List ℕ) (s : sound xs ≡ true) where
  inst_sound : (i : ℕ) → i < (loaded xs).head.followed → SoundInst (board_at xs).depth (inst_at (loaded xs).head.marks xs i)
  inst_sound i h =
      subst (SoundInst (board_at xs).depth) (at_board i (loaded xs) h)
      (each_at (SoundInst (board_at xs).depth) (board_at xs).insts i no_inst (board xs s).each (omega (arith, insts_length (loaded xs), h)))

  pub ready : (i id : ℕ) (sender target : List ℕ) (k m time : ℕ) → i < (loaded xs).head.followed → arguments_fine id sender target k m ≡ true → time < moments
      → Ready (letter sender target k m time) id (loaded xs).head.number (book_at xs i)
  unfolding board_of inst_at
  ready i id sender target k m time h a t =
      let f = fine id sender target k m a in
      let x = inst_sound i h in
      record {
        sender = f.from;
        target = f.to;
        k = omega (arith, f.turn, f.loop);
        m = f.loop;
        time = t;
        id = omega (arith, f.who);
        last = (board xs s).last;
        kept = (formed xs s).books i h;
        bids = all_writable (board_at xs).depth (held_in (book_at xs i).bids) x.bids.entries;
        offers = all_writable (board_at xs).depth (held_in (book_at xs i).offers) x.offers.entries;
      }
