-- `frame::sum` meets its contract: what was added is the sum of the bytes so far, wrapped at 256. Assumes nothing.
use Rattle.std.proofs.Common.{◌≡◌, ◌%◌, take}
use Rattle.frame.specs.Frames.{total}
use Rattle.frame.proofs.sum.Given as goal

abbrev pub invariant-loop-b : goal.invariant-loop-b
invariant-loop-b l = l.v ≡ total (take l.b-index l.b-items) % 256
