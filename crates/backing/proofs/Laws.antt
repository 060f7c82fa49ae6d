-- A quote with its side is settled, and can be written. Assumes nothing.
use mathlib.Core.Path.{◌≡◌, refl, sym, ◌∙◌}
use mathlib.Core.Bool.{Bool, true, false, cond}
use Rattle.book.specs.declared.Side.{Side}
use Rattle.book.proofs.Canon.{kept_same}
use Rattle.store.specs.Meaning.{board_at}
use Rattle.sound.specs.Sound.{sound}
use Rattle.sound.proofs.Readers.{board}
use Rattle.std.specs.Prelude.{Result, Ok, Err, ℕ}
use native.Mathlib.Omega.{arith}
use Rattle.quote.specs.Quotes.{Quoted, quote_of}
use Rattle.quote.specs.declared.Quote.{Quote}
use Rattle.quote.specs.declared.NoQuote.{NoQuote}
use Rattle.ask.specs.Fine.{FineQuoted}
use Rattle.ask.proofs.Quoting.{quoted_fine}
use Rattle.backing.specs.Backing.{quoted_of}
use Rattle.backing.specs.Laws.{BackedOnce, QuotedIsFine}
use Rattle.backing.specs.declared.Backed.{Backed}

-- a quote and its side by their parts
same : (q p : Quote) (s t : Side) → ◌≡◌ {A = Quoted} (Ok q) (Ok p) → s ≡ t
    → ◌≡◌ {A = Result Backed NoQuote} (Ok (record { quote = q; side = s })) (Ok (record { quote = p; side = t }))
same q p s t h g = cc

never : {A : Type 0} {q : Quote} {why : NoQuote} → ◌≡◌ {A = Quoted} (Ok q) (Err why) → A
never h = let z : ◌≡◌ {A = ℕ} 0 1 = cc in absurd (omega arith)

pub backed_once : BackedOnce
backed_once buying id now limit xs (Ok b) (Ok d) h g =
    same b.quote d.quote b.side d.side (h.quoted ∙ sym g.quoted) (kept_same b.side d.side h.kept g.kept (h.places ∙ sym g.places))
backed_once buying id now limit xs (Ok b) (Err e) h g = never (h.quoted ∙ sym g.quoted)
backed_once buying id now limit xs (Err e) (Ok b) h g = never (g.quoted ∙ sym h.quoted)
backed_once buying id now limit xs (Err e) (Err f) h g = let q : ◌≡◌ {A = Quoted} (Err e) (Err f) = h.quoted ∙ sym g.quoted in cc

pub quoted_is_fine : QuotedIsFine
unfolding quoted_of
quoted_is_fine id now limit xs = go (sound xs) refl
  where
    go : (t : Bool) → sound xs ≡ t → FineQuoted (cond t (quote_of id now limit (board_at xs)) (Err NoQuote.Unsound))
    go true s = quoted_fine (board_at xs) (board xs s) id now limit
    go false s = tt
