-- A recording as pieces: messages, and runs of bytes that were passed over (document 02, K12). Assumes nothing.
use Rattle.std.specs.Prelude.{ℕ, zero, suc, ◌+◌, ◌-◌, ◌≤◌, ◌<◌, ◌≡◌, List, [], ◌∷◌, ◌++◌, Bool, true, false, cond, not, ◌&&◌, ◌⊎◌, leb, ltb, eqb, length, drop}
use Rattle.frame.specs.Frames.{frame_of}
use Rattle.stretch.specs.Stretches.{passes, taken, stretch_of}

-- its start and its length
pub data Piece : Type 0 where
  message : ℕ → ℕ → Piece
  passed : ℕ → ℕ → Piece

abbrev pub start_of : Piece → ℕ
start_of (message p n) = p
start_of (passed p n) = p

abbrev pub length_of : Piece → ℕ
length_of (message p n) = n
length_of (passed p n) = n

-- ---- the whole walk of a recording from p on
-- A message is taken at a place exactly if 11 and 12 would not refuse some stretch that starts there. Otherwise a byte is passed over;
-- neighbouring passed bytes form one run, up to the next message or the end.
pub data Walk (rec : List ℕ) : ℕ → List Piece → Type 0 where
  done : {p : ℕ} → p ≡ length rec → Walk rec p []
  one : {p n : ℕ} {ps : List Piece} → taken rec p n → Walk rec (p + n) ps → Walk rec p (message p n ∷ ps)
  run : {p n : ℕ} {ps : List Piece} → 1 ≤ n → p + n ≤ length rec
      → ((q m : ℕ) → p ≤ q → q < p + n → taken rec q m → ⊥)
      → (p + n ≡ length rec) ⊎ ((m : ℕ) × taken rec (p + n) m)
      → Walk rec (p + n) ps
      → Walk rec p (passed p n ∷ ps)

-- ---- and computed
-- one more byte passed over before what follows
abbrev pub pass : ℕ → List Piece → List Piece
pass p [] = passed p 1 ∷ []
pass p (message a n ∷ ps) = passed p 1 ∷ message a n ∷ ps
pass p (passed a n ∷ ps) = passed p (n + 1) ∷ ps

-- the pieces of the bytes, which start at p; the first k of them are the rest of a message
unfoldable pub walk_of : List ℕ → ℕ → ℕ → List Piece
walk_of [] k p = []
walk_of (b ∷ s) (suc k) p = walk_of s k (p + 1)
walk_of (b ∷ s) zero p =
    cond (eqb (stretch_of (b ∷ s)) 0)
    (pass p (walk_of s 0 (p + 1)))
    (message p (stretch_of (b ∷ s)) ∷ walk_of s (stretch_of (b ∷ s) - 1) (p + 1))

-- the pieces of a recording from a place on; Laws.antt says that they are its Walk, and that it has no other
unfoldable pub pieces : List ℕ → ℕ → List Piece
pieces rec p = walk_of (drop p rec) 0 p

-- ---- messages end to end, from p on
abbrev pub laid : ℕ → List (List ℕ) → List Piece
laid p [] = []
laid p (m ∷ ms) = message p (length m) ∷ laid (p + length m) ms

abbrev pub end_to_end : List (List ℕ) → List ℕ
end_to_end [] = []
end_to_end (m ∷ ms) = m ++ end_to_end ms

abbrev pub all_pass : List (List ℕ) → Bool
all_pass [] = true
all_pass (m ∷ ms) = passes (frame_of m) && all_pass ms

-- ---- what is promised of pieces
-- one after another from p up to e
abbrev pub Tiles : ℕ → List Piece → ℕ → Type 0
Tiles p [] e = p ≡ e
Tiles p (x ∷ ps) e = (start_of x ≡ p) × ((1 ≤ length_of x) × Tiles (p + length_of x) ps e)

-- in how many pieces the byte q stands
abbrev pub holds : ℕ → Piece → Bool
holds q x = leb (start_of x) q && ltb q (start_of x + length_of x)

abbrev pub times : ℕ → List Piece → ℕ
times q [] = 0
times q (x ∷ ps) = cond (holds q x) (times q ps + 1) (times q ps)

-- no two passed runs touch
abbrev pub is_run : Piece → Bool
is_run (message p n) = false
is_run (passed p n) = true

abbrev pub opens : List Piece → Bool
opens [] = false
opens (x ∷ ps) = is_run x

abbrev pub apart : List Piece → Bool
apart [] = true
apart (x ∷ ps) = not (is_run x && opens ps) && apart ps

-- P of the start and the length of each message
abbrev pub Messages : (ℕ → ℕ → Type 0) → List Piece → Type 0
Messages P [] = Unit {0}
Messages P (message p n ∷ ps) = P p n × Messages P ps
Messages P (passed p n ∷ ps) = Messages P ps
