-- What a message leaves in the store is the board after it, and the store is canonical again.
use Rattle.std.specs.Prelude.{Result, Err}
use mathlib.Core.Path.{◌≡◌, refl, sym, ap, ◌∙◌}
use mathlib.Core.List.{List}
use Prim.Native.Nat.{ℕ}
use Rattle.book.specs.declared.Update.{Update}
use Rattle.book.specs.Rules.{Lists}
use Rattle.message.specs.Message.{Message, Head, numbered, snapshot, refused, said, count_in, answer_of}
use Rattle.message.specs.declared.Reading.{Reading}
use Rattle.message.specs.declared.Refusal.{Refusal}
use Rattle.board.specs.Snapshot.{snap}
use Rattle.board.specs.Feed.{feed}
use Rattle.store.specs.Meaning.{State, board_in}
use Rattle.store.specs.Canon.{Formed, Canon}
use Rattle.store.specs.Answers.{FedS, fed, meant}
use Rattle.count.specs.Counts.{number_s}
use Rattle.count.proofs.Board.{number_board, number_canon}
use Rattle.taking.specs.Replays.{snap_s}
use Rattle.taking.proofs.Board.{snap_board, snap_canon}
use Rattle.channel.specs.Feeds.{aimed_at, Aims, feed_s, Feeds}
use Rattle.channel.proofs.Aiming.{aims_none, shown_aimed}

pub feed_board : (m : Message) (s : State) → Formed s → meant (feed_s m s) ≡ feed m (board_in s)
unfolding feed_s feed
feed_board (numbered n heard us) s f = number_board n heard (aimed_at s us) s f
feed_board (snapshot h us) s f =
    snap_board h.last (aimed_at s us) s f h.id ∙ ap (λ (l : Lists). snap h.id h.last l (board_in s)) (shown_aimed (board_in s).insts us)
feed_board (refused why) s f = refl

pub feed_canon : (m : Message) (s : State) → Canon s → Canon (feed_s m s).state
unfolding feed_s
feed_canon (numbered n heard us) s k = number_canon n heard (aimed_at s us) s k
feed_canon (snapshot h us) s k = snap_canon h.id h.last (aimed_at s us) s k
feed_canon (refused why) s k = k

-- a call that leaves what a message leaves, where the reading says that message
pub feeds : {m n : Message} {s : State} {a : ℕ} {t : State} → m ≡ n → Canon s → fed a t ≡ feed_s n s → Feeds m s a t
feeds {m} {n} {s} w k h =
    let e = h ∙ ap (λ (x : Message). feed_s x s) (sym w) in
    record { leaves = e; means = ap meant e ∙ feed_board m s k.formed; canon = rw (ap (λ (o : FedS). o.state) e) (feed_canon m s k) }

-- a number, and a snapshot, with the entries vs that the run holds
pub number_feeds : {m : Message} {n heard : ℕ} {us vs : List Update} {s : State} {a : ℕ} {t : State} → m ≡ numbered n heard us → Canon s
    → vs ≡ aimed_at s us → fed a t ≡ number_s n heard vs s → Feeds m s a t
unfolding feed_s
number_feeds {n = n} {heard = heard} {s = s} w k e h = feeds w k (h ∙ ap (λ (l : List Update). number_s n heard l s) e)

pub snapshot_feeds : {m : Message} {h : Head} {us vs : List Update} {s : State} {a : ℕ} {t : State} → m ≡ snapshot h us → Canon s
    → vs ≡ aimed_at s us → fed a t ≡ snap_s h.id h.last vs s → Feeds m s a t
unfolding feed_s
snapshot_feeds {h = h} {s = s} w k e g = feeds w k (g ∙ ap (λ (l : List Update). snap_s h.id h.last l s) e)

-- an answer that no message is read leaves all as it was
module _ {r : Result Reading Refusal} {why : Refusal} (q : r ≡ Err why) where
  pub unread_feeds : (us : List Update) {s : State} {a : ℕ} {t : State} → Canon s → a ≡ answer_of why → t ≡ s → Feeds (said r us) s a t
  unfolding feed_s
  unread_feeds us k p e = rw q (feeds refl k (rw (p, e)))

  pub unread_aims : (s : State) (xs : List ℕ) → Aims s (count_in r) xs xs
  unread_aims s xs = rw q (aims_none s xs)
