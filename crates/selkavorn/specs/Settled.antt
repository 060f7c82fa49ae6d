-- Each exported function is settled: any two outcomes that its contract allows are equal, the answer and every number or byte of
-- what was lent to be written.
use Rattle.std.specs.Prelude.{ℕ, List}
use Rattle.sound.specs.Settled.{Settled}
use Rattle.opening.specs.Laws.{OpenSettled}
use Rattle.feed.specs.Laws.{FeedSettled}
use Rattle.ask.specs.Laws.{QuoteSettled, StateSettled}
use Rattle.summary.specs.Laws.{SummarySettled}
use Rattle.send.specs.Laws.{WriteSettled}
use Rattle.salvage.specs.Rooms.{Salvaged}
use Rattle.lots.specs.Laws.{LotSettled}

-- The walk of a recording, which needs no store.
abbrev pub WalkSettled : Type 0
WalkSettled = (rec : List ℕ) (from : ℕ) (room : List ℕ) → Settled (Salvaged rec from room)

-- All nine, over the records that their contracts are; selling and buying are one, by its side.
pub record AllSettled : Type 0 where
  pub opening : OpenSettled
  pub feeding : FeedSettled
  pub quoting : QuoteSettled
  pub writing : WriteSettled
  pub stating : StateSettled
  pub summing : SummarySettled
  pub salvaging : WalkSettled
  pub dealing : LotSettled
