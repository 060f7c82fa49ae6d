-- The laws of a message on the channel in a store. Assumes nothing.
use mathlib.Core.Path.{◌≡◌, sym, ap, ◌∙◌}
use mathlib.Core.Bool.{true}
use mathlib.Core.List.{List, ◌++◌}
use Prim.Native.Nat.{ℕ}
use native.Mathlib.Omega.{arith}
use lib.ListN.{take, drop, take-append-drop}
use Rattle.message.specs.Message.{Message}
use Rattle.board.specs.Ranges.{message_fine}
use Rattle.loops.specs.declared.Loop.{Loop}
use Rattle.loops.specs.Channel.{Channel, Reply, given}
use Rattle.loops.specs.Sound.{SoundChannel}
use Rattle.loops.proofs.Laws.{keeps_sound}
use Rattle.store.specs.Layout.{store_size}
use Rattle.store.specs.Meaning.{State, board_at, loop_at, channel_at, loaded, saved, with_loop, written}
use Rattle.store.proofs.Regions.{Agree, agree_then, agree_wider}
use Rattle.store.proofs.Saved.{saved_agree, saved_board, saved_canon, loop_agree, loop_saved, loop_board, loop_formed}
use Rattle.sound.specs.Sound.{sound}
use Rattle.sound.proofs.Laws.{sound_is_canon, sound_is_looped, sound_is_written, formed_is_sound}
use Rattle.channel.proofs.Beyond.{beyond}
use Rattle.rounds.specs.Rounds.{Gives}
use Rattle.rounds.specs.Laws.{Left, SoundIsLeft}

module _ (xs : List ℕ) (m : Message) (a : ℕ) (row : Loop) (t : State) (e : sound xs ≡ true) (fine : message_fine (board_at xs).depth m ≡ true)
    (g : Gives m (loop_at xs) (loaded xs) a row t) where
  abbrev after : Channel
  after = (given m (channel_at xs)).channel

  abbrev ys : List ℕ
  ys = with_loop row (saved t)

  -- the heading is saved, and then the record
  board_after : board_at ys ≡ after.board
  board_after =
      loop_board row (saved t) ∙ saved_board t g.canon.formed.long ∙ ap (λ (r : Reply). r.channel.board) g.means

  loop_after_lem : loop_at ys ≡ after.loop
  loop_after_lem = loop_saved row (saved t) (saved_canon t g.canon).formed.long ∙ ap (λ (r : Reply). r.channel.loop) g.means

  channel_after : channel_at ys ≡ after
  channel_after = rw (board_after, loop_after_lem)

  sound_channel_lem : SoundChannel after
  sound_channel_lem = keeps_sound m (channel_at xs) (record { board = (sound_is_canon xs e).1; loop = sound_is_looped xs e }) fine

  sound_after : sound ys ≡ true
  sound_after =
      let s : SoundChannel (channel_at ys) = rw channel_after sound_channel_lem in
      formed_is_sound ys (loop_formed row (saved t) (saved_canon t g.canon).formed) s.board s.loop

  -- both are of the 7,168 numbers
  rest_after : drop store_size ys ≡ drop store_size xs
  rest_after =
      let w : Agree 0 7168 t.store ys =
      agree_then (agree_wider 0 7168 (omega arith) (omega arith) (saved_agree t)) (agree_wider 0 7168 (omega arith) (omega arith) (loop_agree row (saved t))) in
      beyond 0 t.store ys w ∙ g.around.beyond

  store_after : ys ≡ written after ++ drop store_size xs
  store_after =
      let n : take store_size ys ≡ written after = sound_is_written ys sound_after ∙ ap written channel_after in
      sym (take-append-drop store_size ys) ∙ rw (n, rest_after)

  left : Left m xs a ys
  left = record { answer = ap (λ (r : Reply). r.answer) g.means; store = store_after; channel = channel_after; again = sound_after }

pub sound_is_left : SoundIsLeft
sound_is_left xs m a row t e fine g = left xs m a row t e fine g
