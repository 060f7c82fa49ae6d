-- What the results of a writing say.
use Rattle.std.specs.Prelude.{ℕ, Bool, Result, Ok, Err}
use Rattle.snapshot.specs.declared.letters.Letter.{Letter}
use Rattle.send.specs.declared.refusals.Refusal.{Refusal}
use Rattle.send.specs.Refusals.{refusal_number}
use Rattle.send.specs.Send.{arguments_fine, written_number}

-- The arguments of a letter are in their ranges.
abbrev pub fine : ℕ → Letter → Bool
fine id l = arguments_fine id l.sender.now l.target.now l.k l.m

-- The answer and the length in one number.
abbrev pub number_in : Result ℕ Refusal → ℕ
number_in (Ok n) = written_number (record { answer = 0; bytes = n })
number_in (Err why) = refusal_number why
