-- When a board is sound, in document 01's words ("The store is unsound when .."), as tests and as facts.
use Rattle.std.specs.Prelude.{◌≡◌, Bool, true, false, cond, not, ◌&&◌, ◌||◌, List, [], ◌∷◌, ℕ, ◌+◌, ◌≤◌, ◌<◌, ltb, leb, eqb, nat_abs, length}
use Rattle.holding.specs.Prices.{top}
use Rattle.holding.specs.Moments.{moments}
use Rattle.book.specs.Rules.{Lists, empty, most_places}
use Rattle.book.specs.Canonical.{All}
use Rattle.book.specs.declared.Entry.{Entry}
use Rattle.board.specs.Board.{Inst, Queued, Board, ids_of, any_waiting}
use Rattle.board.specs.Count.{most_queued}
use Rattle.board.specs.Ranges.{all, within, most_number, most_size, id_fine, moment_fine, by_fine, entry_fine, update_fine}

-- A channel follows 1 to 16 instruments.
abbrev pub most_insts : ℕ
most_insts = 16

-- Instruments don't repeat.
abbrev pub among : ℕ → List ℕ → Bool
among d [] = false
among d (e ∷ es) = eqb e d || among d es

unfoldable pub distinct : List ℕ → Bool
distinct [] = true
distinct (d ∷ ds) = not (among d ds) && distinct ds

-- Opening takes the depth kind and 1 to 16 distinct SecurityIDs.
abbrev pub opens : ℕ → List ℕ → Bool
opens depth ids = leb depth 1 && (within 1 most_insts (length ids) && (distinct ids && all id_fine ids))

-- A side holds at most 20 places, each in range.
unfoldable pub side_fine : ℕ → List Entry → Bool
side_fine depth l = leb (length l) most_places && all (entry_fine depth) l

-- A Waiting one holds no places.
abbrev pub book_fine : ℕ → Bool → Lists → Bool
book_fine depth true b = eqb (length b.bids) 0 && eqb (length b.offers) 0
book_fine depth false b = side_fine depth b.bids && side_fine depth b.offers

unfoldable pub inst_fine : ℕ → Inst → Bool
inst_fine depth x = id_fine x.id && (leb x.reason 2 && book_fine depth x.waiting x.book)

-- Queued numbers lie in B+1 to H and never fall.
unfoldable pub rising : ℕ → ℕ → List Queued → Bool
rising from to [] = true
rising from to (q ∷ qs) = within from to q.number && rising q.number to qs

-- A queued entry is of one of the k instruments; one for all has 0 for it.
unfoldable pub queued_fine : ℕ → ℕ → Queued → Bool
queued_fine depth k q = ltb q.update.who k && update_fine depth q.update

-- The heard time is a moment, or 0 while nothing is heard.
abbrev pub heard_fine : ℕ → ℕ → Bool
heard_fine H heard = cond (eqb H 0) (eqb heard 0) (moment_fine heard)

-- The depth kind is 0 or 1, H in range, B at most H.
abbrev pub sound_numbers : Board → Bool
sound_numbers b = leb b.depth 1 && (leb b.H most_number && (leb b.B b.H && heard_fine b.H b.heard))

abbrev pub sound_insts : Board → Bool
sound_insts b = within 1 most_insts (length b.insts) && (distinct (ids_of b.insts) && all (inst_fine b.depth) b.insts)

abbrev pub sound_queue : Board → Bool
sound_queue b =
    leb (length b.queue) most_queued
    && (rising (b.B + 1) b.H b.queue && all (queued_fine b.depth (length b.insts)) b.queue)

-- None waits: the queue holds nothing and B is H.
abbrev pub sound_rest : Board → Bool
sound_rest b = any_waiting b.insts || (eqb (length b.queue) 0 && eqb b.B b.H)

unfoldable pub sound_board : Board → Bool
sound_board b = sound_numbers b && (sound_insts b && (sound_queue b && sound_rest b))

-- The same as facts.

-- P of each of a list.
abbrev pub Each : {A : Type 0} → (A → Type 0) → List A → Type 0
Each P [] = Unit {0}
Each P (x ∷ xs) = P x × Each P xs

-- An entry in range.
pub record SoundEntry (depth : ℕ) (e : Entry) : Type 0 where
  pub price : nat_abs e.price < top
  pub size_low : 1 ≤ e.size
  pub size_high : e.size ≤ most_size
  pub moment : e.moment < moments
  pub by : by_fine depth e.by e.more ≡ true

pub record SoundSide (depth : ℕ) (l : List Entry) : Type 0 where
  pub room : length l ≤ most_places
  pub entries : All (λ e. entry_fine depth e ≡ true) l

pub record SoundInst (depth : ℕ) (x : Inst) : Type 0 where
  pub id : id_fine x.id ≡ true
  pub why : x.reason ≤ 2
  pub bare : x.waiting ≡ true → x.book ≡ empty
  pub bids : SoundSide depth x.book.bids
  pub offers : SoundSide depth x.book.offers

abbrev pub Rising : ℕ → ℕ → List Queued → Type 0
Rising from to [] = Unit {0}
Rising from to (q ∷ qs) = (from ≤ q.number) × (q.number ≤ to) × Rising q.number to qs

pub record SoundQueued (depth k : ℕ) (q : Queued) : Type 0 where
  pub who : q.update.who < k
  pub update : update_fine depth q.update ≡ true

pub record Sound (b : Board) : Type 0 where
  pub kind : b.depth ≤ 1
  pub last : b.H ≤ most_number
  pub base : b.B ≤ b.H
  pub heard : heard_fine b.H b.heard ≡ true
  pub some : 1 ≤ length b.insts
  pub few : length b.insts ≤ most_insts
  pub apart : distinct (ids_of b.insts) ≡ true
  pub each : Each (SoundInst b.depth) b.insts
  pub short : length b.queue ≤ most_queued
  pub rise : Rising (b.B + 1) b.H b.queue
  pub entries : Each (SoundQueued b.depth (length b.insts)) b.queue
  pub rest : any_waiting b.insts ≡ false → (b.queue ≡ []) × (b.B ≡ b.H)
