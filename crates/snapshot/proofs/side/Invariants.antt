-- Entry by entry, each at its place. Assumes nothing.
use Prim.Native.Nat.{◌+◌, ◌*◌, ◌≤◌}
use Rattle.chain.specs.Bytes.{bytes_of}
use Rattle.text.specs.Text.{Left}
use Rattle.snapshot.specs.Snapshot.{side_fields}
use lib.ListN.{drop}
use Rattle.snapshot.proofs.side.Given as goal

abbrev pub invariant-loop-i : goal.invariant-loop-i
invariant-loop-i l =
    record {
      near : l.next ≤ l.at + l.i * 350;
      left : Left l.out l.next (bytes_of (side_fields l.depth l.sort (l.i + 1) (drop l.i l.held))) l.initial.out l.at (bytes_of (side_fields l.depth l.sort 1 l.held));
    }
