-- An instrument's state as the store has it.
use mathlib.Core.Path.{◌≡◌, ap, ◌∙◌}
use mathlib.Core.Bool.{true, cond}
use mathlib.Core.List.{List, [], ◌∷◌}
use Prim.Native.Nat.{ℕ, ◌≤◌, ◌<◌}
use native.Mathlib.Omega.{arith}
use lib.ListN.{length, get_or}
use lib.Seq.{sets, length-take-le}
use borrow.Author.Tests.{le-leb, lt-leb}
use Rattle.book.specs.declared.Side.{Side}
use Rattle.book.specs.Canonical.{Kept, held_in}
use Rattle.heading.specs.Marks.{marked}
use Rattle.board.specs.Board.{at, look}
use Rattle.board.specs.Ranges.{id_fine}
use Rattle.store.specs.Layout.{reason_of, bids_of, offers_of}
use Rattle.store.specs.Meaning.{State, inst_at, board_in, board_at}
use Rattle.store.specs.Canon.{Formed}
use Rattle.store.proofs.Decode.{at_board}
use Rattle.sound.specs.Sound.{sound}
use Rattle.ask.specs.Ask.{state_words, state_answer, state_out, Stated}

length_held : (t : Side) → Kept t → length (held_in t) ≡ t.held
length_held t k = let f = k.full in let r = k.room in length-take-le t.held t.places (omega arith)

-- the numbers of its state
pub state_is : (s : State) (i : ℕ) → Formed s → i < s.head.followed
    → state_words (at i (board_in s))
    ≡ cond (marked s.head.marks i) 1 0 ∷ get_or s.store (reason_of i) 0 ∷ get_or s.store (bids_of i) 0 ∷ get_or s.store (offers_of i) 0 ∷ []
unfolding inst_at
state_is s i f h =
    let b = f.books i h in
    let p = length_held _ b.bids in
    let q = length_held _ b.offers in
    ap state_words (at_board i s h) ∙ rw (p, q)

-- the answers, test by test
module _ (id : ℕ) (room xs : List ℕ) where
  module _ (s : sound xs ≡ true) where
    module _ (long : 4 ≤ length room) where
      module _ (fine : id_fine id ≡ true) where
        pub not_followed : length (board_at xs).insts ≤ look id (board_at xs).insts → Stated id room xs 20 room
        unfolding state_answer state_out
        not_followed h =
            let l = le-leb 4 (length room) long in
            let e = le-leb _ _ h in
            record { answer = rw (s, l, fine, e); out = rw (s, l, fine, e) }

        pub stated : look id (board_at xs).insts < length (board_at xs).insts
            → Stated id room xs 0 (sets room 0 (state_words (at (look id (board_at xs).insts) (board_at xs))))
        unfolding state_answer state_out
        stated h =
            let l = le-leb 4 (length room) long in
            let e = lt-leb _ _ h in
            record { answer = rw (s, l, fine, e); out = rw (s, l, fine, e) }
