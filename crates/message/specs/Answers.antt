-- Document 01's answer numbers of a feed.
use Rattle.std.specs.Prelude.{ℕ}
use Rattle.message.specs.declared.Answer.{Answer}
use Rattle.message.specs.declared.Answer.TheVariants.{InOrder, Gap, Old, LetGo, Taken, NotOurs, AlreadyLive, Below, Above, TooWide, Broke, NotRead}
use Rattle.message.specs.Message.{answer_of}

-- The number that says an answer.
abbrev pub number_of : Answer → ℕ
number_of InOrder = 0
number_of Gap = 1
number_of Old = 2
number_of LetGo = 3
number_of Taken = 4
number_of NotOurs = 5
number_of AlreadyLive = 6
number_of Below = 7
number_of Above = 8
number_of TooWide = 9
number_of Broke = 10
number_of (NotRead why) = answer_of why
