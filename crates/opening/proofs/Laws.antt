-- An opened store is sound, it is the opened board with no loop, and the call is settled. Assumes nothing.
use mathlib.Core.Path.{◌≡◌, refl, sym, ap, ◌∙◌}
use mathlib.Core.Bool.{Bool, true, false, cond}
use mathlib.Core.List.{List, ◌++◌}
use Prim.Native.Nat.{ℕ}
use native.Mathlib.Omega.{arith}
use lib.Dec.{leb}
use lib.ListN.{length, drop}
use Rattle.board.specs.Sound.{opens}
use Rattle.loops.specs.Channel.{Channel}
use Rattle.loops.specs.Calls.{opened_channel}
use Rattle.loops.specs.Sound.{sound_channel}
use Rattle.loops.proofs.Demand.{opened_channel_lem}
use Rattle.loops.proofs.Sounding.{channel_tested}
use Rattle.store.specs.Layout.{store_size}
use Rattle.store.specs.Meaning.{written}
use Rattle.sound.proofs.Laws.{written_reads_back, written_is_sound}
use Rattle.opening.specs.Opening.{open_answer, open_store}
use Rattle.opening.specs.Laws.{OpenedIsSound, OpenedIsChannel, OpenedIsBoard, OpenSettled}

-- where the answer is 0, both tests hold
taken : (s t : Bool) → ◌≡◌ {A = ℕ} (cond s (cond t 0 18) 17) 0 → (s ≡ true) × (t ≡ true)
taken true true e = (refl, refl)
taken true false e = absurd (omega arith)
taken false t e = absurd (omega arith)

module _ (depth : ℕ) (ids xs : List ℕ) (e : open_answer depth ids xs ≡ 0) where
  -- it took its arguments
  pub opens_is : opens depth ids ≡ true
  unfolding open_answer
  opens_is = (taken (leb store_size (length xs)) (opens depth ids) e).1

  store_is : open_store depth ids xs ≡ written (opened_channel depth ids) ++ drop store_size xs
  unfolding open_answer open_store
  store_is = let p = taken (leb store_size (length xs)) (opens depth ids) e in rw (p.0, p.1)

  channel_sound : sound_channel (opened_channel depth ids) ≡ true
  channel_sound = channel_tested (opened_channel depth ids) (opened_channel_lem depth ids opens_is)

pub opened_is_sound : OpenedIsSound
opened_is_sound depth ids xs e =
    rw (store_is depth ids xs e) (written_is_sound (opened_channel depth ids) (drop store_size xs) (channel_sound depth ids xs e))

pub opened_is_channel : OpenedIsChannel
opened_is_channel depth ids xs e =
    rw (store_is depth ids xs e) (written_reads_back (opened_channel depth ids) (drop store_size xs) (channel_sound depth ids xs e))

pub opened_is_board : OpenedIsBoard
opened_is_board depth ids xs e = ap (λ (c : Channel). c.board) (opened_is_channel depth ids xs e)

pub open_settled : OpenSettled
open_settled depth ids xs r s ys zs a b = (a.answer ∙ sym b.answer, a.store ∙ sym b.store)
