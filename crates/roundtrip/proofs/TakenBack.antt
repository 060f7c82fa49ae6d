-- What the writer writes is taken by a board that awaits it. Assumes nothing.
use mathlib.Core.Path.{◌≡◌, refl, ap, ◌∙◌}
use mathlib.Core.Bool.{Bool, true, false, cond}
use Prim.Native.Nat.{ℕ}
use borrow.Author.Tests.{lt-ltb, le-ltb}
use lib.ListN.{length}
use Rattle.book.specs.Rules.{Lists, most_places}
use Rattle.message.specs.Message.{Message}
use Rattle.board.specs.Board.{Board, Inst, Out, out, any_waiting, look, at, put, let_go, settled}
use Rattle.board.specs.Snapshot.{run, live, take, snap}
use Rattle.board.specs.Feed.{feed}
use Rattle.board.specs.Calls.{inst}
use Rattle.board.proofs.Giving.{at_put_same}
use Rattle.board.proofs.Staying.{same_feed, same_look}
use Rattle.fields.specs.Messages.{message_in}
use Rattle.snapshot.specs.Snapshot.{Letter, snapshot_bytes}
use Rattle.roundtrip.specs.ReadBack.{InRange}
use Rattle.roundtrip.specs.TakenBack.{Awaits, Taken, TakenBack}
use Rattle.roundtrip.proofs.RoundTrip.{read_back}

-- letting the queue go leaves the instruments
settled_at : (i : ℕ) (b : Board) → at i (settled true b) ≡ at i b
settled_at i b = go (any_waiting b.insts)
  where
    go : (z : Bool) → at i (cond z b (let_go b)) ≡ at i b
    go true = refl
    go false = refl

module _ (depth : ℕ) (l : Letter) (who H : ℕ) (b : Lists) (r : InRange depth l who H b) (c : Board) (w : Awaits who H c) where
  abbrev i : ℕ
  i = look who c.insts

  abbrev message : Message
  message = message_in depth (snapshot_bytes depth l who H b)

  shows : feed message c ≡ snap who H b c
  unfolding feed
  shows =
      let e = read_back depth l who H b r in
      ap (λ (m : Message). feed m c) e.message ∙ ap (λ (x : Lists). snap who H x c) e.book

  taken : feed message c ≡ out 4 (settled true (put i (live (at i c) b) c))
  unfolding snap take run
  taken =
      shows
      ∙ rw (
        lt-ltb i (length c.insts) w.followed,
        w.waits,
        le-ltb H c.B w.from_base,
        le-ltb c.H H w.to_last,
        le-ltb most_places (length b.bids) r.bids.room,
        le-ltb most_places (length b.offers) r.offers.room,
        w.none_queued,
      )

  is_live : inst who (feed message c).board ≡ live (at i c) b
  is_live =
      ap (λ (k : ℕ). at k (feed message c).board) (same_look who (feed message c).board c (same_feed message c))
      ∙ ap (λ (o : Out). at i o.board) taken
      ∙ settled_at i (put i (live (at i c) b) c)
      ∙ at_put_same i (live (at i c) b) c w.followed

  pub taken_of : Taken who b (feed message c)
  taken_of =
      record {
        answer = ap (λ (o : Out). o.answer) taken;
        live = ap (λ (x : Inst). x.waiting) is_live;
        book = ap (λ (x : Inst). x.book) is_live;
      }

pub taken_back : TakenBack
taken_back = taken_of
