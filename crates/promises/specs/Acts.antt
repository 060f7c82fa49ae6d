-- Calls on a store, one after another, as the contracts of the exported functions have them.
use Rattle.std.specs.Prelude.{List, [], ◌∷◌, ℕ}
use Rattle.board.specs.Calls.{Call, fed, aside}
use Rattle.fields.specs.Messages.{message_in}
use Rattle.feed.specs.Feeding.{feed_store}

-- A call: any bytes are fed, or one that only reads the store (a quote, a writing, a state, a summary, a lot), refused or not.
pub data Act : Type 0 where
  feeds : List ℕ → Act
  reads : Act

-- The store that a call leaves.
abbrev pub left : Act → List ℕ → List ℕ
left (feeds bytes) xs = feed_store bytes xs
left reads xs = xs

-- And calls in order.
abbrev pub lefts : List Act → List ℕ → List ℕ
lefts [] xs = xs
lefts (a ∷ cs) xs = lefts cs (left a xs)

-- P of each call and the store that it meets.
abbrev pub Along : (Act → List ℕ → Type 0) → List Act → List ℕ → Type 0
Along P [] xs = Unit {0}
Along P (a ∷ cs) xs = P a xs × Along P cs (left a xs)

-- The call on a channel of a depth kind that it is.
abbrev pub call_of : ℕ → Act → Call
call_of depth (feeds bytes) = fed (message_in depth bytes)
call_of depth reads = aside 0
