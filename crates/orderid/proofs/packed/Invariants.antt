-- A turn packs the last byte of the word that is left below those packed before. Assumes nothing.
use Prim.Native.Nat.{◌<◌, ◌-◌, ◌^◌}
use Rattle.orderid.proofs.Packs.{onto}
use Rattle.orderid.specs.OrderIds.{word_text, packed_of}
use mathlib.Core.Path.{◌≡◌}
use Rattle.orderid.proofs.packed.Given as goal

abbrev pub invariant-loop-k : goal.invariant-loop-k
invariant-loop-k l = (l.v < 256 ^ l._k) × (onto (word_text (8 - l._k) l.m) l.v ≡ packed_of l.word)
