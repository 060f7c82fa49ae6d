-- A walk in lent room (document 02, K12). Assumes nothing.
use Rattle.std.specs.Prelude.{Option, ℕ, ◌+◌, ◌-◌, ◌*◌, ◌≤◌, ◌≡◌, List, [], ◌∷◌, ◌++◌, Bool, true, cond, ◌&&◌, ◌||◌, leb, ltb, eqb, length, get_or, take, drop}
use Rattle.std.proofs.lemmas.List.Edits.{sets}
use Rattle.stretch.specs.Stretches.{some_length, stretch_at}
use Rattle.salvage.specs.declared.Kind.{Kind}
use Rattle.salvage.specs.Pieces.{Piece, message, passed, length_of, pieces}

-- as many pieces as fit in the room, three numbers each
unfoldable pub fitting : ℕ → List Piece → List Piece
fitting room [] = []
fitting room (x ∷ ps) = cond (leb 3 room) (x ∷ fitting (room - 3) ps) []

-- how many bytes they are
abbrev pub spanned : List Piece → ℕ
spanned [] = 0
spanned (x ∷ ps) = length_of x + spanned ps

-- what a walk from a place gives in a room of so many numbers, behind two for the byte to go on at and how many pieces follow
unfoldable pub given : List ℕ → ℕ → ℕ → List Piece
given rec from room = fitting (room - 2) (pieces rec from)

-- the byte to go on at
unfoldable pub go_on : List ℕ → ℕ → ℕ → ℕ
go_on rec from room = from + spanned (given rec from room)

-- ---- as numbers
-- 1 for a message or 0 for a passed run, its start, its length
abbrev pub cell_of : Piece → List ℕ
cell_of (message p n) = 1 ∷ p ∷ n ∷ []
cell_of (passed p n) = 0 ∷ p ∷ n ∷ []

abbrev pub cells : List Piece → List ℕ
cells [] = []
cells (x ∷ ps) = cell_of x ++ cells ps

-- and the pieces that numbers say
abbrev pub told : List ℕ → List Piece
told [] = []
told (kind ∷ []) = []
told (kind ∷ p ∷ []) = []
told (kind ∷ p ∷ n ∷ xs) = cond (eqb kind 0) (passed p n) (message p n) ∷ told xs

-- the two numbers before the pieces, and one piece
abbrev pub least_room : ℕ
least_room = 5

-- 18: there is no such place, or the room holds fewer numbers than that
abbrev pub refused : List ℕ → ℕ → ℕ → Bool
refused rec from room = ltb (length rec) from || ltb room least_room

unfoldable pub walk_answer : List ℕ → ℕ → List ℕ → ℕ
walk_answer rec from out = cond (refused rec from (length out)) 18 0

-- the byte to go on at, how many pieces, and the pieces; what lies behind them stays
unfoldable pub walk_out : List ℕ → ℕ → List ℕ → List ℕ
walk_out rec from out =
    cond (refused rec from (length out))
    out
    (sets out 0 (go_on rec from (length out) ∷ length (given rec from (length out)) ∷ cells (given rec from (length out))))

-- What a call answers, and what ys it leaves of the room.
pub record Salvaged (rec : List ℕ) (from : ℕ) (room : List ℕ) (r : ℕ) (ys : List ℕ) : Type 0 where
  pub answer : r ≡ walk_answer rec from room
  pub out : ys ≡ walk_out rec from room

-- ---- two parts of a walk joined, runs that touch the break being one
abbrev pub link : Piece → List Piece → List Piece
link (message p n) qs = message p n ∷ qs
link (passed p n) [] = passed p n ∷ []
link (passed p n) (message q m ∷ qs) = passed p n ∷ message q m ∷ qs
link (passed p n) (passed q m ∷ qs) = passed p (n + m) ∷ qs

abbrev pub join : List Piece → List Piece → List Piece
join [] qs = qs
join (x ∷ []) qs = link x qs
join (x ∷ y ∷ ps) qs = x ∷ join (y ∷ ps) qs

-- ---- several walks, each in its room, from where the one before says, joined
abbrev pub walks : List ℕ → ℕ → List ℕ → List Piece
walks rec from [] = []
walks rec from (room ∷ rooms) = join (given rec from room) (walks rec (go_on rec from room) rooms)

-- where they stop
abbrev pub reached : List ℕ → ℕ → List ℕ → ℕ
reached rec from [] = from
reached rec from (room ∷ rooms) = reached rec (go_on rec from room) rooms

-- every room holds enough for one piece
abbrev pub wide : List ℕ → Bool
wide [] = true
wide (room ∷ rooms) = leb least_room room && wide rooms

-- ---- the same by what calls leave in the rooms that are lent for them
-- the pieces that a room says
abbrev pub said_in : List ℕ → List Piece
said_in out = told (take (3 * get_or out 1 0) (drop 2 out))

-- each call goes on at the byte that the room before says
abbrev pub calls : List ℕ → ℕ → List (List ℕ) → List Piece
calls rec from [] = []
calls rec from (room ∷ rooms) = join (said_in (walk_out rec from room)) (calls rec (get_or (walk_out rec from room) 0 0) rooms)

-- ---- as the code goes
-- what stands for a piece's kind
abbrev pub number_of : Kind → ℕ
number_of Kind.Message = 1
number_of Kind.Passed = 0

-- the first piece from a place on, as numbers, and the length of the message that is taken behind it, if one is
pub record First (rec : List ℕ) (p kind n : ℕ) (next : Option ℕ) : Type 0 where
  pub piece : Piece
  pub comes : pieces rec p ≡ piece ∷ pieces rec (p + n)
  pub cell : cell_of piece ≡ kind ∷ p ∷ n ∷ []
  pub size : length_of piece ≡ n
  pub some : 1 ≤ n
  pub inside : p + n ≤ length rec
  pub after : next ≡ some_length (stretch_at rec (p + n))

-- the pieces stand in the room from its third number on
pub record Filled (rec : List ℕ) (from : ℕ) (was is : List ℕ) (next count : ℕ) : Type 0 where
  pub same : is ≡ sets was 2 (cells (given rec from (length was)))
  pub on : next ≡ go_on rec from (length was)
  pub many : count ≡ length (given rec from (length was))
