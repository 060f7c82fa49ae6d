-- `salvage::walk` meets its contract: the pieces, and before them where to go on and how many they are. Assumes nothing.
use native.Mathlib.Omega.{arith}
use lib.ListN.{length-set}
use borrow.Author.Tests.{lt-ltb, le-ltb}
use Rattle.salvage.specs.Rooms.{walk_answer, walk_out}
use Rattle.salvage.proofs.Filling.{filled_out}
use Rattle.salvage.proofs.walk.Goals as goal

pub returns-then-rec-from : goal.returns-then-rec-from
unfolding walk_answer walk_out
returns-then-rec-from c = record { answer = rw (lt-ltb _ _ c.if-rec-from.true); out = rw (lt-ltb _ _ c.if-rec-from.true) }

pub returns-then-out-lt-LEAST_ROOM : goal.returns-then-out-lt-LEAST_ROOM
unfolding walk_answer walk_out
returns-then-out-lt-LEAST_ROOM c =
    record { answer = rw (le-ltb _ _ c.if-rec-from.false, lt-ltb _ _ c.if-out-lt-LEAST_ROOM.true); out = rw (le-ltb _ _ c.if-rec-from.false, lt-ltb _ _ c.if-out-lt-LEAST_ROOM.true) }

pub bounds-out-1 : goal.bounds-out-1
bounds-out-1 c = simp length-set (omega arith)

pub returns : goal.returns
unfolding walk_answer
returns c =
    record {
      answer = rw (le-ltb _ _ c.if-rec-from.false, le-ltb _ _ c.if-out-lt-LEAST_ROOM.false);
      out = filled_out _ _ _ _ _ _ c.if-rec-from.false c.if-out-lt-LEAST_ROOM.false c.fill-s.ensures;
    }
