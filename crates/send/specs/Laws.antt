-- What is shown of a writing.
use Rattle.std.specs.Prelude.{List, ℕ}
use Rattle.sound.specs.Settled.{Settled}
use Rattle.send.specs.Send.{Sent}

-- It is settled.
abbrev pub WriteSettled : Type 0
WriteSettled = (id : ℕ) (sender target : List ℕ) (k m : ℕ) (time room xs : List ℕ) → Settled (Sent id sender target k m time room xs)
