-- The laws of a message on the store.
use mathlib.Core.Path.{◌≡◌, refl, ap, ◌∙◌}
use mathlib.Core.List.{List}
use Prim.Native.Nat.{ℕ}
use native.Mathlib.Omega.{arith}
use lib.Dec.{leb}
use lib.ListN.{length}
use lib.Seq.{ext_get_or}
use borrow.Author.Tests.{leb-true}
use Rattle.message.specs.Message.{Message, numbered, snapshot, refused}
use Rattle.board.specs.Ranges.{all, within, most_number, moment_fine, shown_fine, head_fine, said_fine, message_fine}
use Rattle.board.proofs.Tested.{three, four}
use Rattle.store.specs.Meaning.{State}
use Rattle.store.specs.Canon.{Formed}
use Rattle.store.specs.Answers.{FedS}
use Rattle.channel.specs.Feeds.{Aims, Around, Feeds}
use Rattle.channel.specs.Laws.{FineIsFair}
use Rattle.channel.proofs.Beyond.{Within, front, beyond, feed_within}

pub fine_is_fair : FineIsFair
unfolding message_fine
fine_is_fair depth (numbered n heard us) e =
    leb-true (length us) 64 (four (within 1 most_number n) (moment_fine heard) (leb (length us) 64) (all (said_fine depth) us) e).2
fine_is_fair depth (snapshot h us) e = leb-true (length us) 64 (three (head_fine h) (leb (length us) 64) (all (shown_fine depth) us) e).1
fine_is_fair depth (refused why) e = tt

-- what a message leaves in front of the records and beyond the 7,168 numbers is as it was
pub feeds_around : {m : Message} {s : State} {a : ℕ} {t : State} → Formed s → Feeds m s a t → Around s t
feeds_around {m} {s} {a} {t} k f =
    let w : Within s t = rw (ap (λ (o : FedS). o.state) f.leaves) (feed_within m s k) in
    record { front = front s.store t.store w; beyond = beyond 32 s.store t.store w }

pub around_none : (s : State) → Around s s
around_none s = record { front = refl; beyond = refl }

pub around_then : {s t u : State} → Around s t → Around t u → Around s u
around_then a b = record { front = b.front ∙ a.front; beyond = b.beyond ∙ a.beyond }

-- a run of which no entry is aimed stays
pub none_aimed : (s : State) (xs ys : List ℕ) → Aims s 0 xs ys → ys ≡ xs
none_aimed s xs ys a = ext_get_or 0 ys xs a.size (λ k _. a.behind k (omega arith))
