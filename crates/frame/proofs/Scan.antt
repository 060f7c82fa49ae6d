-- Bytes added one at a time. Assumes nothing.
use Rattle.std.proofs.Common.{◌≡◌, ℕ, ◌+◌, ◌<◌, List, [], ◌∷◌, length, get_or, take, arith, add-one}
use Prim.Native.Nat.{zero, suc}
use Rattle.frame.specs.Frames.{total}

pub one_more : (s : List ℕ) (i : ℕ) → i < length s → total (take (i + 1) s) ≡ total (take i s) + get_or s i 0
one_more [] i l = absurd (omega arith)
one_more (b ∷ bs) zero l = omega arith
one_more (b ∷ bs) (suc i) l = rw add-one (omega (arith, rw add-one at (one_more bs i (omega arith))))
