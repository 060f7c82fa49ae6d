-- A quote that is given begins as the summary does. Assumes nothing.
use Rattle.std.specs.Prelude.{Option, Some, None, Ok, Err}
use mathlib.Core.Path.{◌≡◌, refl}
use mathlib.Core.Bool.{Bool, true, false, cond, ◌&&◌}
use mathlib.Core.List.{List, [], ◌∷◌, ◌++◌}
use Prim.Native.Nat.{ℕ, suc, ◌*◌}
use native.Mathlib.Omega.{arith}
use lib.Dec.{leb, eqb}
use lib.IntN.{pos}
use lib.Signed.{lt_z}
use lib.ListN.{length, take}
use Rattle.moment.specs.Moments.{moment_of}
use Rattle.moment.specs.Ages.{age_of}
use Rattle.board.specs.Board.{Board, look, at}
use Rattle.board.specs.Ranges.{id_fine}
use Rattle.store.specs.Meaning.{marks_of}
use Rattle.quote.specs.Quotes.{Quoted, most_limit, given, quote_at, at_now, quote_of}
use Rattle.quote.specs.declared.NoQuote.{NoQuote}
use Rattle.ask.specs.Ask.{moment_words, quote_number, quote_values}
use Rattle.summary.specs.Laws.{DatedAsQuotes}

-- no refusal is 0
no : {A : Type 0} {n : ℕ} → suc n ≡ 0 → A
no e = absurd (omega (arith, e))

module _ (b : Board) where
  -- the quote as it is tested, and the summary with its own test: both ask whether H is 0
  abbrev tested : ℕ → Bool → Bool → Bool → Bool → Bool → Quoted
  tested i f w z s l =
      cond f (Err NoQuote.NotFollowed)
      (cond w (Err NoQuote.Waiting) (cond z (Err NoQuote.NothingHeard) (cond s (Err NoQuote.BeforeHeard) (cond l (Err NoQuote.TooOld) (Ok (given b (at i b)))))))

  abbrev summed : Bool → List ℕ
  summed z = b.H ∷ cond z (0 ∷ 0 ∷ []) (moment_words b.heard) ++ (b.B ∷ marks_of 0 b.insts ∷ [])

  abbrev Alike : Quoted → Bool → Type 0
  Alike q z = quote_number q ≡ 0 → take 3 (quote_values b.depth q) ≡ take 3 (summed z)

  at_time : (i time limit : ℕ) → Alike (quote_at i time limit b) (eqb b.H 0)
  at_time i time limit =
      go (leb (length b.insts) i) (at i b).waiting (eqb b.H 0) (lt_z (age_of time b.heard) (pos 0)) (lt_z (pos (limit * 1000)) (age_of time b.heard))
    where
      go : (f w z s l : Bool) → Alike (tested i f w z s l) z
      go true w z s l e = no e
      go false true z s l e = no e
      go false false true s l e = no e
      go false false false true l e = no e
      go false false false false true e = no e
      go false false false false false e = refl

  at_now_lem : (n : Option ℕ) (id limit : ℕ) → Alike (at_now n id limit b) (eqb b.H 0)
  at_now_lem None id limit e = no e
  at_now_lem (Some time) id limit e = go (id_fine id && leb limit most_limit) e
    where
      go : (t : Bool) → Alike (cond t (quote_at (look id b.insts) time limit b) (Err NoQuote.BadArgument)) (eqb b.H 0)
      go true e = at_time (look id b.insts) time limit e
      go false e = no e

pub dated_as_quotes : DatedAsQuotes
unfolding quote_of
dated_as_quotes id now limit b = at_now_lem b (moment_of now) id limit
