-- A refused call changes neither store nor output (document 01, "Answer numbers"): over the contracts of the nine exported functions. A
-- snapshot that is refused (5 to 9) is in its loop all the same, and does to the store what the loop does (document 02, K1).
use Rattle.std.specs.Prelude.{◌≡◌, Bool, true, false, List, ℕ, ◌%◌, eqb}
use Rattle.board.specs.Ranges.{within}
use Rattle.loops.specs.Laws.{touches}
use Rattle.sound.specs.Settled.{Allowed}
use Rattle.opening.specs.Opening.{Opened}
use Rattle.feed.specs.Feeding.{Fed}
use Rattle.feed.specs.Laws.{Looped}
use Rattle.ask.specs.Ask.{Asked, Stated}
use Rattle.ask.specs.Laws.{RefusedCarriesZeros}
use Rattle.summary.specs.Summary.{Summed}
use Rattle.send.specs.Send.{Sent}
use Rattle.salvage.specs.Rooms.{Salvaged}
use Rattle.lots.specs.Rooms.{Dealt}

-- Document 01's number is the answer less the count or length that stands above its 8 bits. Where that number is none of those that
-- change what was lent, it is what it was.
abbrev pub Stays : (ℕ → Bool) → Allowed → List ℕ → Type 0
Stays changing allows lent = (r : ℕ) (ys : List ℕ) → allows r ys → changing (r % 256) ≡ false → ys ≡ lent

-- A quote, writing, state, summary, lot, opening or walk is done with 0.
abbrev pub is_done : ℕ → Bool
is_done a = eqb a 0

pub record RefusalsStay : Type 0 where
  -- only 0 of opening, and 0, 1, 3 and 4 to 10 of feeding, change the store
  pub opening : (depth : ℕ) (ids xs : List ℕ) → Stays is_done (Opened depth ids xs) xs
  pub feeding : (bytes xs : List ℕ) → Stays touches (Fed bytes xs) xs
  -- and 5 to 9 by the loop alone
  pub looping : (bytes xs : List ℕ) (r : ℕ) (ys : List ℕ) → Fed bytes xs r ys → within 5 9 (r % 256) ≡ true → Looped bytes xs ys
  -- and only 0 writes into the output
  pub quoting : (id : ℕ) (now : List ℕ) (limit : ℕ) (room xs : List ℕ) → Stays is_done (Asked id now limit room xs) room
  pub writing : (id : ℕ) (sender target : List ℕ) (k m : ℕ) (time room xs : List ℕ) → Stays is_done (Sent id sender target k m time room xs) room
  pub stating : (id : ℕ) (room xs : List ℕ) → Stays is_done (Stated id room xs) room
  pub summing : (room xs : List ℕ) → Stays is_done (Summed room xs) room
  pub salvaging : (rec : List ℕ) (from : ℕ) (room : List ℕ) → Stays is_done (Salvaged rec from room) room
  -- selling and buying
  pub dealing : (buying : Bool) (id n : ℕ) (now : List ℕ) (limit : ℕ) (room xs : List ℕ) → Stays is_done (Dealt buying id n now limit room xs) room
  -- a refused quote carries zeros
  pub zeros : RefusedCarriesZeros
