-- What each step of a call gives. Assumes nothing.
use mathlib.Core.Path.{◌≡◌, ap, ◌∙◌}
use mathlib.Core.Bool.{true, false}
use mathlib.Core.List.{List}
use Prim.Native.Nat.{ℕ, ◌+◌, ◌*◌, ◌≤◌}
use native.Mathlib.Omega.{arith}
use lib.ListN.{length}
use Rattle.std.specs.Prelude.{Result}
use Rattle.message.specs.declared.Reading.{Reading}
use Rattle.message.specs.declared.Refusal.{Refusal}
use Rattle.message.specs.Message.{Message, most_number, told, said, count_in}
use Rattle.message.specs.Laws.{Fair}
use Rattle.message.proofs.Laws.{told_is_said, told_fits}
use Rattle.board.specs.Board.{waiting_in}
use Rattle.board.specs.Ranges.{message_fine}
use Rattle.board.specs.Sound.{Sound}
use Rattle.cells.specs.Runs.{updates_in}
use Rattle.fields.specs.Messages.{message_in}
use Rattle.group.specs.Reads.{Reads}
use Rattle.inrange.proofs.Read.{read_in_range}
use Rattle.heading.specs.declared.Heading.{Heading}
use Rattle.heading.specs.Marks.{marked_in}
use Rattle.loops.specs.declared.Loop.{Loop}
use Rattle.loops.specs.Channel.{Reply, given}
use Rattle.loops.proofs.Laws.{answer_is_own}
use Rattle.store.specs.Meaning.{State, st, board_of, board_at, loop_at, channel_at, board_in, loaded, heading_at, saved, with_loop}
use Rattle.store.specs.Canon.{Canon}
use Rattle.store.proofs.Marked.{waiting_board}
use Rattle.sound.specs.Sound.{sound}
use Rattle.sound.proofs.Readers.{canon, board, come}
use Rattle.channel.proofs.Laws.{fine_is_fair}
use Rattle.rounds.specs.Rounds.{Gives}
use Rattle.rounds.specs.Laws.{Left}
use Rattle.rounds.proofs.Laws.{sound_is_left}
use Rattle.feed.specs.Feeding.{fed, feed_answer, feed_store, Fed}
use Rattle.feed.proofs.Laws.{in_table}

-- an unsound store
pub unsound : (bytes xs : List ℕ) → sound xs ≡ false → Fed bytes xs 17 xs
unfolding feed_answer feed_store
unsound bytes xs h = record { answer = rw h; store = rw h }

module _ (bytes xs : List ℕ) where
  abbrev m : Message
  m = message_in (board_at xs).depth bytes

  fine : message_fine (board_at xs).depth m ≡ true
  fine = read_in_range (board_at xs).depth bytes

  fair : Fair m
  fair = fine_is_fair (board_at xs).depth m fine

  -- the reading is taken with the heading's depth kind; its entries stand in a run of 576 numbers
  module _ (h : Heading) (q : h ≡ heading_at xs) (r : Result Reading Refusal) (run₀ run : List ℕ) (e : Reads (told (message_in h.depth bytes)) r run₀ run) where
    tells : Reads (told m) r run₀ run
    unfolding board_of
    tells = rw q at e

    pub says : said r (updates_in run (count_in r)) ≡ m
    says = rw (tells.entries, tells.reading) (told_is_said m fair)

    pub asked : (l : Loop) → l ≡ loop_at xs → sound xs ≡ true → length run₀ ≡ 576
        → Canon (st h xs) × Sound (board_in (st h xs)) × (l.come ≤ most_number) × (count_in r * 9 ≤ length run)
        × (message_fine h.depth (said r (updates_in run (count_in r))) ≡ true)
    unfolding board_of
    asked l o s w =
        let k : count_in r ≤ 64 = rw tells.reading (told_fits m fair) in
        (rw q (canon xs s), rw q (board xs s), rw o (come xs s), omega (arith, k, tells.run.size, w), rw (says, q) fine)

  module _ (h : Heading) (q : h ≡ heading_at xs) (l : Loop) (o : l ≡ loop_at xs) (r : Result Reading Refusal) (run₀ run : List ℕ)
      (e : Reads (told (message_in h.depth bytes)) r run₀ run) (a : ℕ) (row : Loop) (t : State) (s : sound xs ≡ true)
      (f : Gives (said r (updates_in run (count_in r))) l (st h xs) a row t) where
    gives : Gives m (loop_at xs) (loaded xs) a row t
    gives = rw (q, o, says h q r run₀ run e) at f

    left : Left m xs a (with_loop row (saved t))
    left = sound_is_left xs m a row t s fine gives

    -- 01's table ends there
    pub small : a ≤ 25
    small = rw (left.answer, answer_is_own m (channel_at xs)) (in_table m (board_at xs))

    -- the marks that are counted are the instruments that wait
    pub done : (n : ℕ) → n ≡ marked_in t.head.marks 16 → Fed bytes xs (a + 256 * n) (with_loop row (saved t))
    unfolding fed feed_answer feed_store
    done n w =
        let b : board_in t ≡ (given m (channel_at xs)).channel.board = ap (λ (p : Reply). p.channel.board) gives.means in
        let k = gives.canon.formed in
        let v : n ≡ waiting_in (board_in t).insts = w ∙ waiting_board t k.few k.marks in
        record { answer = rw (s, v, b, left.answer); store = rw (s, left.store) }
