-- What the end of a loop leaves as it was: the depth kind, the SecurityIDs in their order, H and the heard moment.
use mathlib.Core.Path.{◌≡◌, refl}
use mathlib.Core.Bool.{true}
use mathlib.Core.List.{List, [], ◌∷◌}
use Prim.Native.Nat.{ℕ, suc}
use Rattle.book.specs.Rules.{Lists, Outcome, leaves, breach}
use Rattle.book.proofs.Tests.{by_test}
use Rattle.message.specs.Message.{Message, numbered, snapshot, refused}
use Rattle.board.specs.Board.{Inst, Queued, Board, ids_of, any_waiting, with_insts, settled}
use Rattle.board.specs.Feed.{feed}
use Rattle.board.specs.Calls.{Call, fed, aside}
use Rattle.board.specs.Laws.{Same}
use Rattle.board.proofs.Staying.{same, same_then, same_feed}
use Rattle.loops.specs.declared.Loop.{Loop}
use Rattle.loops.specs.Ending.{took, takes_it, empty_after, at_end, ends, serves, ended}
use Rattle.loops.specs.Loops.{is_whole}
use Rattle.loops.specs.Channel.{Channel, joined_by, rounded, given}
use Rattle.loops.specs.Calls.{calls}
use Rattle.loops.specs.Laws.{Keeps, EndKeeps}

-- taking a snapshot keeps the SecurityID, and so does the end at one instrument
took_id : (x : Inst) (o : Outcome Lists) → (took x o).id ≡ x.id
took_id x (leaves l) = refl
took_id x (breach r) = refl

pub at_end_id : (l : Loop) (q : List Queued) (i : ℕ) (x : Inst) → (at_end l q i x).id ≡ x.id
unfolding at_end
at_end_id l q i x =
    by_test (λ (y : Inst). y.id ≡ x.id) (takes_it l i x)
    (λ _. took_id x (empty_after l q i)) (λ _. refl)

-- each instrument stands where it stood
pub ids_ends : (l : Loop) (q : List Queued) (i : ℕ) (xs : List Inst) → ids_of (ends l q i xs) ≡ ids_of xs
unfolding ends
ids_ends l q i [] = refl
ids_ends l q i (x ∷ xs) = rw (at_end_id l q i x, ids_ends l q (suc i) xs)

-- none of it is of the queue, which may be let go
keeps_settled : (b c : Board) → Keeps b c → Keeps b (settled true c)
keeps_settled b c k =
    by_test (Keeps b) (any_waiting c.insts) (λ _. k)
    (λ _. record { same = record { depth = k.same.depth; ids = k.same.ids }; last = k.last; heard = k.heard })

-- within B to H, or without
pub end_keeps : EndKeeps
unfolding ended
end_keeps l b =
    by_test (Keeps b) (serves l b)
    (λ _. keeps_settled b (with_insts (ends l b.queue 0 b.insts) b)
    (record { same = record { depth = refl; ids = ids_ends l b.queue 0 b.insts }; last = refl; heard = refl }))
    (λ _. record { same = same b; last = refl; heard = refl })

-- so each instrument is found after it where it was found before
pub ended_same : (l : Loop) (b : Board) → Same (ended l b) b
ended_same l b = (end_keeps l b).same

-- a W's loop, and any message, keep the depth kind and the SecurityIDs
pub rounded_same : (l : Loop) (b : Board) → Same (rounded l b).board b
rounded_same l b = by_test (λ (c : Channel). Same c.board b) (is_whole l) (λ _. ended_same l b) (λ _. same b)

pub given_same : (m : Message) (c : Channel) → Same (given m c).channel.board c.board
unfolding given
given_same (numbered n heard us) c = same_feed (numbered n heard us) c.board
given_same (snapshot h us) c =
    same_then _ (feed (snapshot h us) c.board).board c.board
    (rounded_same (joined_by h c.board c.loop) (feed (snapshot h us) c.board).board) (same_feed (snapshot h us) c.board)
given_same (refused why) c = same_feed (refused why) c.board

-- so do calls, one after another
pub calls_same : (cs : List Call) (c : Channel) → Same (calls cs c).board c.board
calls_same [] c = same c.board
calls_same (fed m ∷ cs) c = same_then _ (given m c).channel.board c.board (calls_same cs (given m c).channel) (given_same m c)
calls_same (aside a ∷ cs) c = calls_same cs c
