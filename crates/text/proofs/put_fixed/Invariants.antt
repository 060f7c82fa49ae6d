-- The digits that are left, written to what is there, end as all of them on what was. Assumes nothing.
use Rattle.std.proofs.Common.{◌≡◌, length}
use Rattle.std.proofs.lemmas.List.Edits.{sets}
use Rattle.text.specs.Text.{fixed}
use Rattle.text.proofs.put_fixed.Given as goal

abbrev pub invariant-loop-i : goal.invariant-loop-i
invariant-loop-i l = (sets l.out l.at (fixed l.i l.rest) ≡ sets l.initial.out l.at (fixed l.w l.n)) × (length l.out ≡ length l.initial.out)
