-- What the writer's contract comes to. Assumes nothing.
use mathlib.Core.Path.{◌≡◌, refl}
use mathlib.Core.Bool.{Bool, true, false, cond}
use mathlib.Core.List.{List}
use Prim.Native.Nat.{ℕ, ◌+◌, ◌≤◌, ◌<◌}
use native.Mathlib.Omega.{arith}
use borrow.Author.Tests.{le-leb, leb-true, lt-leb}
use lib.Dec.{leb}
use lib.ListN.{length, take, drop}
use lib.Seq.{sets-eq, take-append_seam, drop-append_seam}
use Rattle.writer.specs.Writing.{Written, written_of, out_after}

module _ (msg out : List ℕ) where
  -- with answer 0 there was room
  pub fits : (written_of msg out).answer ≡ 0 → length msg ≤ length out
  unfolding written_of
  fits e = go (leb (length msg) (length out)) refl e
    where
      go : (t : Bool) → leb (length msg) (length out) ≡ t → (cond {A = Written} t (record { answer = 0; bytes = length msg }) (record { answer = 25; bytes = 0 })).answer ≡ 0
          → length msg ≤ length out
      go true q r = leb-true _ _ q
      go false q r = absurd (omega arith)

  -- the message stands first
  pub starts : length msg ≤ length out → take (length msg) (out_after msg out) ≡ msg
  unfolding out_after
  starts h = rw (le-leb (length msg) (length out) h, sets-eq msg out 0 (omega arith)) (take-append_seam msg (drop (0 + length msg) out))

  -- later bytes are unchanged
  pub later : length msg ≤ length out → drop (length msg) (out_after msg out) ≡ drop (length msg) out
  unfolding out_after
  later h =
      let z : 0 + length msg ≡ length msg = omega arith in
      rw (le-leb (length msg) (length out) h, sets-eq msg out 0 (omega arith), z) (drop-append_seam msg (drop (length msg) out))

  -- 25 and length 0, with all as it was
  pub untouched : length out < length msg → (written_of msg out ≡ record { answer = 25; bytes = 0 }) × (out_after msg out ≡ out)
  unfolding written_of out_after
  untouched h = (rw (lt-leb (length msg) (length out) h), rw (lt-leb (length msg) (length out) h))
