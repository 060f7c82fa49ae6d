-- Numbers of a quote written one part after another.
use mathlib.Core.Path.{◌≡◌, refl, sym}
use mathlib.Core.Bool.{Bool, true, false, cond}
use mathlib.Core.List.{List, [], ◌∷◌, ◌++◌}
use Prim.Native.Nat.{ℕ, ◌+◌}
use lib.Dec.{eqb}
use lib.ListN.{length, set, length-append}
use lib.Seq.{sets}
use Rattle.std.specs.Prelude.{Option, Some, None}
use Rattle.orderid.specs.OrderIds.{packed_of}
use Rattle.book.specs.declared.Entry.{Entry}
use Rattle.cells.proofs.Stores.{sets_append}
use Rattle.cells.proofs.Tables.{length_zeros}
use Rattle.quote.specs.declared.Quote.{Quote}
use Rattle.ask.specs.Ask.{moment_words, by_words, top_words, quote_words}

length_by_lem : (depth by more : ℕ) → length (by_words depth by more) ≡ 2
length_by_lem depth by more = go (eqb depth 0)
  where
    go : (t : Bool) → length {A = ℕ} (cond t (packed_of by ∷ packed_of more ∷ []) (by ∷ 0 ∷ [])) ≡ 2
    go true = refl
    go false = refl

-- two parts after another
pub parts : (l : List ℕ) (a b : ℕ) (us vs : List ℕ) → a + length us ≡ b → sets (sets l a us) b vs ≡ sets l a (us ++ vs)
parts l a b us vs e = sym (rw e at (sets_append l a us vs))

pub length_top : (depth : ℕ) (t : Option Entry) → length (top_words depth t) ≡ 7
length_top depth (Some e) = rw (length-append (by_words depth e.by e.more) (moment_words e.moment), length_by_lem depth e.by e.more)
length_top depth None = length_zeros 7

-- a quote: one number, two, seven, seven
pub quote_is : (l : List ℕ) (depth : ℕ) (q : Quote)
    → sets (sets (sets (set l 0 q.number) 1 (moment_words q.heard)) 3 (top_words depth q.bid)) 10 (top_words depth q.offer)
    ≡ sets l 0 (quote_words depth q)
quote_is l depth q = parts _ 3 10 (top_words depth q.bid) (top_words depth q.offer) (rw (length_top depth q.bid))
