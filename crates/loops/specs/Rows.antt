-- When a loop is whole, without its record: the W messages that have come, the newest first, begin with a row (document 02, K1).
use Rattle.std.specs.Prelude.{◌≡◌, Bool, true, false, cond, ◌||◌, List, [], ◌∷◌, map, ℕ, zero, suc, ◌≤◌, ◌<◌, eqb, get_or}
use Rattle.message.specs.Message.{Head, numbered, snapshot, refused}
use Rattle.heading.specs.Marks.{marked}
use Rattle.board.specs.Board.{Board, look}
use Rattle.board.specs.Calls.{Call, fed, aside}
use Rattle.loops.specs.declared.Loop.{Loop}
use Rattle.loops.specs.Loops.{no_loop, in_row, is_whole, lower}

-- A W that has come: what stands before its entries, and the index of its instrument, which is past all others where none is followed
-- under its 48.
pub record Came : Type 0 where
  pub head : Head
  pub who : ℕ

-- The newest k have 34 = k, down to 1, and all have 911 = m.
unfoldable pub Row : ℕ → ℕ → List Came → Type 0
Row m zero ws = Unit {0}
Row m (suc k) [] = ⊥
Row m (suc k) (w ∷ ws) = (w.head.number ≡ suc k) × (w.head.loops ≡ m) × Row m k ws

-- The lowest 369 of the newest k, and whether one of them is for the instrument at index i.
unfoldable pub lowest : ℕ → List Came → ℕ
lowest zero ws = 0
lowest (suc k) [] = 0
lowest (suc zero) (w ∷ ws) = w.head.last
lowest (suc (suc k)) (w ∷ ws) = lower (lowest (suc k) ws) w.head.last

unfoldable pub is_named : ℕ → ℕ → List Came → Bool
is_named i zero ws = false
is_named i (suc k) [] = false
is_named i (suc k) (w ∷ ws) = eqb w.who i || is_named i k ws

-- The record after them on a channel of n instruments, and with one more.
abbrev pub goes_on : Loop → Loop
goes_on l = cond (is_whole l) no_loop l

unfoldable pub loop_after : ℕ → List Came → Loop
loop_after n [] = no_loop
loop_after n (w ∷ ws) = goes_on (in_row w.head n w.who (loop_after n ws))

abbrev pub with_one : ℕ → Came → List Came → Loop
with_one n w ws = in_row w.head n w.who (loop_after n ws)

-- A W makes the loop whole exactly where it and those before it are 34 = 1, 2, up to 911 in a row with one 911 throughout. So a loop
-- with one missing, one repeated that is not the first, or a second 911 is never whole; where the first comes again the loop begins anew.
pub record WholeIs (n : ℕ) (w : Came) (ws : List Came) : Type 0 where
  pub row : is_whole (with_one n w ws) ≡ true → Row w.head.loops w.head.loops (w ∷ ws)
  pub whole : Row w.head.loops w.head.loops (w ∷ ws) → is_whole (with_one n w ws) ≡ true
  -- and then its record has the lowest 369 of the row, and exactly the followed instruments that the row named
  pub low : is_whole (with_one n w ws) ≡ true → (with_one n w ws).low ≡ lowest w.head.loops (w ∷ ws)
  pub named : is_whole (with_one n w ws) ≡ true → (i : ℕ) → i < n → marked (with_one n w ws).named i ≡ is_named i w.head.loops (w ∷ ws)

abbrev pub WholeIsRow : Type 0
WholeIsRow = (n : ℕ) (w : Came) (ws : List Came) → n ≤ 16 → 1 ≤ w.head.loops → WholeIs n w ws

-- The lowest 369 of the newest k is one of them, and none of them is lower.
abbrev pub last_at : List Came → ℕ → ℕ
last_at ws j = get_or (map (λ (w : Came). w.head.last) ws) j 0

pub record LowestIs (k : ℕ) (ws : List Came) : Type 0 where
  pub at : ℕ
  pub among : at < k
  pub one : lowest k ws ≡ last_at ws at
  pub least : (j : ℕ) → j < k → lowest k ws ≤ last_at ws j

abbrev pub LowestOfRow : Type 0
LowestOfRow = (m k : ℕ) (ws : List Came) → 1 ≤ k → Row m k ws → LowestIs k ws

-- The W messages of calls on a board with the SecurityIDs of b, the newest first, in front of those before: a message that is not read
-- is not among them, nor is one of another type.
abbrev pub came_in : Board → List Call → List Came → List Came
came_in b [] ws = ws
came_in b (fed (snapshot h us) ∷ cs) ws = came_in b cs (record { head = h; who = look h.id b.insts } ∷ ws)
came_in b (fed (numbered n heard us) ∷ cs) ws = came_in b cs ws
came_in b (fed (refused why) ∷ cs) ws = came_in b cs ws
came_in b (aside a ∷ cs) ws = came_in b cs ws
