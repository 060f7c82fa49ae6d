-- A message on the channel in the store, verdict by verdict.
use Rattle.std.specs.Prelude.{Result, Ok, Err}
use mathlib.Core.Path.{◌≡◌, sym, ap, ◌∙◌}
use mathlib.Core.Bool.{true, false}
use mathlib.Core.List.{List}
use Prim.Native.Nat.{ℕ}
use Rattle.book.specs.declared.Update.{Update}
use Rattle.message.specs.declared.Kind.{Kind}
use Rattle.message.specs.declared.Kind.TheVariants.{Numbered, Snapshot}
use Rattle.message.specs.declared.Reading.{Reading}
use Rattle.message.specs.declared.Refusal.{Refusal}
use Rattle.message.specs.Message.{Message, Head, head_in, numbered, snapshot, refused, said_by, said}
use Rattle.board.specs.Board.{Out, look}
use Rattle.board.specs.Feed.{feed}
use Rattle.board.specs.Ranges.{message_fine}
use Rattle.board.specs.Sound.{Sound}
use Rattle.board.proofs.Keeping.{feed_sound}
use Rattle.board.proofs.Staying.{same_feed}
use Rattle.loops.specs.declared.Loop.{Loop}
use Rattle.loops.specs.Loops.{no_loop, in_row, is_whole}
use Rattle.loops.specs.Channel.{joined_by, given}
use Rattle.loops.proofs.Rows.{joined_same}
use Rattle.store.specs.Meaning.{State, board_of, board_in}
use Rattle.store.specs.Canon.{Canon}
use Rattle.store.proofs.Decode.{insts_length}
use Rattle.channel.specs.Feeds.{Feeds}
use Rattle.channel.proofs.Laws.{around_none, around_then, feeds_around}
use Rattle.rounds.specs.Rounds.{Ends, Rounds, Gives}

-- ---- the loop with a W in it

module _ (r : Reading) (l : Loop) (s : State) (m : Loop) (i : ℕ) (found : i ≡ look r.id (board_in s).insts) (e : m ≡ in_row (head_in r) s.head.followed i l) where
  joined_is : m ≡ joined_by (head_in r) (board_in s) l
  joined_is = e ∙ rw (found, insts_length s)

  pub goes_on_lem : is_whole m ≡ false → Canon s → Rounds (head_in r) l s m s
  goes_on_lem w k = record { means = rw (sym joined_is, w); canon = k; around = around_none s }

  pub comes_round : (n : Loop) → n ≡ no_loop → (t : State) → is_whole m ≡ true → Ends m s t → Rounds (head_in r) l s n t
  comes_round n z t w o = record { means = rw (sym joined_is, w, z, o.means); canon = o.canon; around = o.around }

-- ---- a message

-- what the reader's answer says, by its kind
module _ {r : Result Reading Refusal} where
  pub says_number : {w : Reading} → r ≡ Ok w → (us : List Update) → w.kind ≡ Numbered → said r us ≡ numbered w.number w.heard us
  says_number {w} q us e = rw q (ap (λ (k : Kind). said_by k w us) e)

  pub says_snapshot : {w : Reading} → r ≡ Ok w → (us : List Update) → w.kind ≡ Snapshot → said r us ≡ snapshot (head_in w) us
  says_snapshot {w} q us e = rw q (ap (λ (k : Kind). said_by k w us) e)

  pub says_refused : {why : Refusal} → r ≡ Err why → (us : List Update) → said r us ≡ refused why
  says_refused q us = rw q

module _ {m : Message} {s : State} {a : ℕ} {t : State} (k : Canon s) (f : Feeds m s a t) where
  answer_is : a ≡ (feed m (board_in s)).answer
  answer_is = ap (λ (o : Out). o.answer) f.means

  board_is : board_in t ≡ (feed m (board_in s)).board
  board_is = ap (λ (o : Out). o.board) f.means

  -- the board behind it is sound
  pub sound_behind : Sound (board_in s) → message_fine s.head.depth m ≡ true → Sound (board_in t)
  unfolding board_of
  sound_behind b e = rw board_is (feed_sound m (board_in s) b e)

  -- one with a number, or one that is not read
  pub number_gives : (n heard : ℕ) (us : List Update) (l : Loop) → m ≡ numbered n heard us → Gives m l s a l t
  unfolding given
  number_gives n heard us l e =
      record { means = rw (e, answer_is, board_is, e); canon = f.canon; around = feeds_around k.formed f }

  pub refused_gives : (why : Refusal) (l : Loop) → m ≡ refused why → Gives m l s a l t
  unfolding given
  refused_gives why l e = record { means = rw (e, answer_is, board_is, e); canon = f.canon; around = feeds_around k.formed f }

  -- a W
  pub snapshot_gives : (h : Head) (us : List Update) (l row : Loop) (u : State) → m ≡ snapshot h us → Rounds h l t row u → Gives m l s a row u
  unfolding given
  snapshot_gives h us l row u e o =
      let j : joined_by h (board_in t) l ≡ joined_by h (board_in s) l = rw board_is (joined_same h l (feed m (board_in s)).board (board_in s) (same_feed m (board_in s))) in
      record { means = rw (o.means, j, answer_is, board_is, e); canon = o.canon; around = around_then (feeds_around k.formed f) o.around }
