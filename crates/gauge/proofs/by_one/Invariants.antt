-- `gauge::by_one` meets its contract: the whole answer is what is left gives, after the digits that wrote v. Assumes nothing.
use Rattle.std.proofs.Common.{◌≡◌, ◌^◌, ◌<◌, drop}
use Rattle.digits.specs.Digits.{digits_of}
use Rattle.digits.proofs.Steps.{rest}
use Rattle.gauge.proofs.by_one.Given as goal

abbrev pub invariant-loop-b : goal.invariant-loop-b
invariant-loop-b l = (l.v < 10 ^ l.b-index) × (digits_of l.width l.text ≡ rest l.v (drop l.b-index l.text))
