-- What is shown of a quote and of a state.
use Rattle.std.specs.Prelude.{◌≡◌, false, List, ℕ, eqb}
use Rattle.cells.specs.Cells.{zeros}
use Rattle.sound.specs.Settled.{Settled}
use Rattle.quote.specs.Quotes.{Quoted}
use Rattle.ask.specs.Ask.{quote_size, quote_number, quote_values, Asked, Stated}

-- A refused quote carries zeros.
abbrev pub RefusedCarriesZeros : Type 0
RefusedCarriesZeros = (depth : ℕ) (q : Quoted) → eqb (quote_number q) 0 ≡ false → quote_values depth q ≡ zeros quote_size

-- Both calls are settled.
abbrev pub QuoteSettled : Type 0
QuoteSettled = (id : ℕ) (now : List ℕ) (limit : ℕ) (room xs : List ℕ) → Settled (Asked id now limit room xs)

abbrev pub StateSettled : Type 0
StateSettled = (id : ℕ) (room xs : List ℕ) → Settled (Stated id room xs)
