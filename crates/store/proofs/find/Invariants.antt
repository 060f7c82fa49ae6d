-- `find` meets its contract: none before i has the SecurityID.
use Rattle.store.specs.Meaning.{inst_at}
use Rattle.board.specs.Board.{look}
use Rattle.cells.specs.Cells.{tab}
use lib.ListN.{drop}
use Prim.Native.Nat.{◌+◌, ℕ}
use mathlib.Core.Path.{◌≡◌}
use Rattle.store.proofs.find.Given as goal

abbrev pub invariant-loop-i : goal.invariant-loop-i
invariant-loop-i l = (m : ℕ) → look l.id (tab (inst_at m l.store) l.h.followed) ≡ look l.id (drop l.i (tab (inst_at m l.store) l.h.followed)) + l.i
