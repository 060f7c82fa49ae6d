-- Document 01's numbers of a writing's refusals.
use Rattle.std.specs.Prelude.{ℕ}
use Rattle.send.specs.declared.refusals.Refusal.{Refusal}
use Rattle.send.specs.declared.refusals.Refusal.TheVariants.{BadStore, BadArgument, NotFollowed, Waiting, TooShort}

abbrev pub refusal_number : Refusal → ℕ
refusal_number BadStore = 17
refusal_number BadArgument = 18
refusal_number NotFollowed = 20
refusal_number Waiting = 21
refusal_number TooShort = 25
