-- What is shown of a message and the reader's answer: what is told is said.
use Rattle.std.specs.Prelude.{◌≡◌, ◌≤◌, length}
use Rattle.message.specs.Message.{Message, numbered, snapshot, refused, told, said, count_in}

-- A message has at most 64 entries.
abbrev pub Fair : Message → Type 0
Fair (numbered n heard us) = length us ≤ 64
Fair (snapshot h us) = length us ≤ 64
Fair (refused why) = Unit {0}

-- A reading that tells a message says it, and has at most 64 entries.
abbrev pub ToldIsSaid : Type 0
ToldIsSaid = (m : Message) → Fair m → said (told m).reading (told m).entries ≡ m

abbrev pub ToldFits : Type 0
ToldFits = (m : Message) → Fair m → count_in (told m).reading ≤ 64
