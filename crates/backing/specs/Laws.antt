-- What is shown of a quote with its side.
use Rattle.std.specs.Prelude.{◌≡◌, Bool, List, ℕ, Result}
use Rattle.quote.specs.declared.NoQuote.{NoQuote}
use Rattle.ask.specs.Fine.{FineQuoted}
use Rattle.backing.specs.Backing.{quoted_of, Backs}
use Rattle.backing.specs.declared.Backed.{Backed}

-- It is settled: any two that the contract allows are one.
abbrev pub BackedOnce : Type 0
BackedOnce =
    (buying : Bool) (id : ℕ) (now : List ℕ) (limit : ℕ) (xs : List ℕ) (r s : Result Backed NoQuote)
    → Backs buying id now limit xs r → Backs buying id now limit xs s → r ≡ s

-- A quote that is given can be written: its moments are moments.
abbrev pub QuotedIsFine : Type 0
QuotedIsFine = (id : ℕ) (now : List ℕ) (limit : ℕ) (xs : List ℕ) → FineQuoted (quoted_of id now limit xs)
