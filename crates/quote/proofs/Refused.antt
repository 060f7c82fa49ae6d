-- What is known of a quote that is not given. Assumes nothing.
use Rattle.std.specs.Prelude.{Result, Ok, Err}
use mathlib.Core.Path.{◌≡◌, refl}
use mathlib.Core.Bool.{false}
use lib.Dec.{eqb}
use Rattle.quote.specs.Quotes.{if_quoted}
use Rattle.quote.specs.declared.Quote.{Quote}
use Rattle.quote.specs.declared.NoQuote.{NoQuote}
use Rattle.quote.specs.Numbers.{refusal_number}

-- no refusal's number is 0
pub refused_number : (why : NoQuote) → eqb (refusal_number why) 0 ≡ false
refused_number NoQuote.Unsound = refl
refused_number NoQuote.BadArgument = refl
refused_number NoQuote.NotFollowed = refl
refused_number NoQuote.Waiting = refl
refused_number NoQuote.NothingHeard = refl
refused_number NoQuote.BeforeHeard = refl
refused_number NoQuote.TooOld = refl

-- a quote is not given
abbrev pub NotGiven : Result Quote NoQuote → Type 0
NotGiven q = (x : Quote) → q ≡ Ok x → ⊥

-- then each definition over the refusals says the same
pub refused_is : {A : Type 0} (f : Quote → A) (z : A) (q : Result Quote NoQuote) → NotGiven q → if_quoted f z q ≡ z
refused_is f z (Ok x) h = absurd (h x refl)
refused_is f z (Err why) h = refl
