-- When a channel is sound: its board is, and the numbers of its loop's record are in range.
use Rattle.std.specs.Prelude.{◌≡◌, Bool, true, cond, ◌&&◌, ℕ, ◌^◌, leb, ltb, eqb, length}
use Rattle.message.specs.Message.{most_number}
use Rattle.board.specs.Sound.{sound_board, Sound}
use Rattle.loops.specs.declared.Loop.{Loop}
use Rattle.loops.specs.Channel.{Channel}

-- No loop runs, 911 being zero: the three other numbers are too.
abbrev pub rests_loop : Loop → Bool
rests_loop l = eqb l.come 0 && eqb l.low 0 && eqb l.named 0

-- One runs on a channel of k instruments: at least 1 and fewer than 911 have come; 911 and the lowest 369 are in range; the named are
-- followed.
abbrev pub runs_loop : ℕ → Loop → Bool
runs_loop k l =
    leb 1 l.come && ltb l.come l.loops && leb l.loops most_number && leb l.low most_number && ltb l.named (2 ^ k)

unfoldable pub sound_loop : ℕ → Loop → Bool
sound_loop k l = cond (eqb l.loops 0) (rests_loop l) (runs_loop k l)

unfoldable pub sound_channel : Channel → Bool
sound_channel c = sound_board c.board && sound_loop (length c.board.insts) c.loop

-- The same as facts.
pub record SoundChannel (c : Channel) : Type 0 where
  pub board : Sound c.board
  pub loop : sound_loop (length c.board.insts) c.loop ≡ true
