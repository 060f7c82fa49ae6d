-- An unsound store is 17 to every call that reads one, and neither it nor the room changes (document 01, "The store is unsound when ..").
-- An older store is not read as a new one: it is 17 until it is opened afresh (document 02, K6).
use Rattle.std.specs.Prelude.{◌≡◌, Bool, true, false, List, ℕ, ◌≤◌, length, get_or}
use Rattle.board.specs.Sound.{among, opens}
use Rattle.store.specs.Layout.{store_size, at_layout, earlier_layouts}
use Rattle.sound.specs.Sound.{sound}
use Rattle.sound.specs.Settled.{Allowed}
use Rattle.opening.specs.Opening.{Opened}
use Rattle.feed.specs.Feeding.{Fed}
use Rattle.ask.specs.Ask.{Asked, Stated}
use Rattle.summary.specs.Summary.{Summed}
use Rattle.send.specs.Send.{Sent}
use Rattle.lots.specs.Rooms.{Dealt}

-- Whatever the contract allows, the answer is 17, with count or length 0, and what was lent to be written is as it was.
abbrev pub Refuses : Allowed → List ℕ → Type 0
Refuses allows lent = (r : ℕ) (ys : List ℕ) → allows r ys → (r ≡ 17) × (ys ≡ lent)

pub record Refused (xs : List ℕ) : Type 0 where
  pub feeding : (bytes : List ℕ) → Refuses (Fed bytes xs) xs
  pub quoting : (id : ℕ) (now : List ℕ) (limit : ℕ) (room : List ℕ) → Refuses (Asked id now limit room xs) room
  pub writing : (id : ℕ) (sender target : List ℕ) (k m : ℕ) (time room : List ℕ) → Refuses (Sent id sender target k m time room xs) room
  pub stating : (id : ℕ) (room : List ℕ) → Refuses (Stated id room xs) room
  pub summing : (room : List ℕ) → Refuses (Summed room xs) room
  pub dealing : (buying : Bool) (id n : ℕ) (now : List ℕ) (limit : ℕ) (room : List ℕ) → Refuses (Dealt buying id n now limit room xs) room
  -- until it is opened afresh, which takes it as it takes any store that is long enough
  pub opening :
      store_size ≤ length xs → (depth : ℕ) (ids : List ℕ) → opens depth ids ≡ true
      → (r : ℕ) (ys : List ℕ) → Opened depth ids xs r ys → (r ≡ 0) × (sound ys ≡ true)

abbrev pub UnsoundIsRefused : Type 0
UnsoundIsRefused = (xs : List ℕ) → sound xs ≡ false → Refused xs

abbrev pub OlderIsRefused : Type 0
OlderIsRefused = (xs : List ℕ) → among (get_or xs at_layout 0) earlier_layouts ≡ true → Refused xs
