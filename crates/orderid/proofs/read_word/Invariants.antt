-- A turn takes one byte more of the word, which stays in the range of so many bytes. Assumes nothing.
use Prim.Native.Nat.{◌≤◌}
use Rattle.orderid.proofs.Words.{top_of}
use Rattle.orderid.specs.Words.{word_of, word_rest}
use lib.ListN.{drop}
use mathlib.Core.Path.{◌≡◌}
use Rattle.orderid.proofs.read_word.Given as goal

abbrev pub invariant-loop-b : goal.invariant-loop-b
invariant-loop-b l = (l.v ≤ top_of l.b-index) × (word_of l.text ≡ word_rest l.v (drop l.b-index l.text))
