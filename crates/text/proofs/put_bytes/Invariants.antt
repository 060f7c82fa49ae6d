-- What is left to write would end the run that was begun. Assumes nothing.
use Rattle.text.specs.Text.{Left}
use Rattle.std.proofs.Common.{◌≡◌, ◌+◌, length, drop}
use Rattle.text.proofs.put_bytes.Given as goal

abbrev pub invariant-loop-b : goal.invariant-loop-b
invariant-loop-b l =
    (l.next ≡ l.at + l.b-index) × (length l.out ≡ length l.initial.out) × Left l.out l.next (drop l.b-index l.s) l.initial.out l.at l.s
