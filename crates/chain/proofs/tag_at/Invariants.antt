-- `chain::tag_at` meets its contract: what is left of the bytes before '=' is read as digits are. Assumes nothing.
use Rattle.chain.proofs.Tagging.{Reads}
use Rattle.chain.proofs.tag_at.Given as goal

abbrev pub invariant-loop-i : goal.invariant-loop-i
invariant-loop-i l = Reads l.s l.at l.i l.v
