-- Demand 3 over loops, from demand 3 over boards. Assumes nothing.
use mathlib.Core.Path.{◌≡◌}
use mathlib.Core.Bool.{true}
use mathlib.Core.List.{List}
use Prim.Native.Nat.{ℕ}
use Rattle.book.specs.Rules.{Lists, empty, leaves}
use Rattle.book.specs.declared.Update.{Update}
use Rattle.message.specs.Message.{Message}
use Rattle.board.specs.Calls as board
use Rattle.board.specs.Calls.{Call}
use Rattle.board.specs.Demand.{book_at, Right, Fair}
use Rattle.board.specs.Snapshot.{entries_of}
use Rattle.board.specs.Sound.{opens}
use Rattle.board.proofs.Demand as boards
use Rattle.board.proofs.Keeping.{opened_sound}
use Rattle.board.proofs.Recovery as books
use Rattle.loops.specs.Channel.{Channel}
use Rattle.loops.specs.Calls.{Throughout, opened_channel}
use Rattle.loops.specs.Demand.{RightBy, Demand3, FairBy, Recovers}
use Rattle.loops.specs.Sound.{SoundChannel}
use Rattle.loops.proofs.Sounding.{no_loop_sound}
use Rattle.loops.proofs.Lowering.{lowers, Ranged, lowers_is, lowers_through, lower_through}

pub opened_channel_lem : (depth : ℕ) (ids : List ℕ) → opens depth ids ≡ true → SoundChannel (opened_channel depth ids)
opened_channel_lem depth ids e = record { board = opened_sound depth ids e; loop = no_loop_sound _ }

-- the calls on the board show what the stream says
pub right_through : (ms : List Message) (d : ℕ) (ks : List Call) (c : Channel) → SoundChannel c → Throughout Ranged ks c → Throughout (RightBy ms d) ks c
    → board.Throughout (Right ms d) (lowers ks c) c.board
unfolding entries_of
right_through ms d =
    lowers_through (Right ms d) (RightBy ms d) (lower_through (Right ms d) d (λ S. book_at ms d S ≡ leaves empty) (λ S e b f. f))

pub demand3 : Demand3
demand3 ms n d w depth ids e cs r p l =
    let c = opened_channel depth ids in
    let s = opened_channel_lem depth ids e in
    let q = lowers_is cs c s r in
    rw q at (boards.demand3 ms n d w depth ids (lowers cs c) (right_through ms d cs c s r p) (rw q l))

fair_through : (d : ℕ) (s : ℕ → List Update) (t : ℕ → Lists) (ks : List Call) (c : Channel) → SoundChannel c → Throughout Ranged ks c
    → Throughout (FairBy d s t) ks c → board.Throughout (Fair d s t) (lowers ks c) c.board
unfolding entries_of
fair_through d s t = lowers_through (Fair d s t) (FairBy d s t) (lower_through (Fair d s t) d (λ S. empty ≡ t S) (λ S e b f. f))

pub recovers : Recovers
recovers d s t w depth ids e cs r p l =
    let c = opened_channel depth ids in
    let o = opened_channel_lem depth ids e in
    let q = lowers_is cs c o r in
    rw q at (books.recovers d s t w depth ids (lowers cs c) (fair_through d s t cs c o r p) (rw q l))
