-- The answers come in the order of the checks, the bounds hold, and the calls are settled. Assumes nothing.
use mathlib.Core.Path.{◌≡◌, refl, sym, ap, ◌∙◌}
use mathlib.Core.Bool.{Bool, true, false, false≢true, cond}
use mathlib.Core.List.{List}
use Prim.Native.Nat.{ℕ, ◌≤◌, ◌<◌}
use native.Mathlib.Omega.{arith}
use lib.Dec.{leb, eqb}
use lib.ListN.{length}
use borrow.Author.Tests.{le-leb, lt-leb, leb-true, eqb-true, eqb-false, ne_eqb}
use Rattle.std.specs.Prelude.{Option, None, Some, Ok, Err}
use Rattle.book.specs.declared.Entry.{Entry}
use Rattle.sums.specs.Sums.{fits}
use Rattle.proceeds.specs.declared.Sale.{Sale}
use Rattle.proceeds.specs.Lots.{sum_after, lot_of}
use Rattle.proceeds.proofs.Exactly.{lots_are_exact}
use Rattle.quote.specs.declared.Quote.{Quote}
use Rattle.quote.specs.declared.NoQuote.{NoQuote}
use Rattle.quote.specs.Numbers.{refusal_number}
use Rattle.quote.specs.Quotes.{Quoted, quote_number}
use Rattle.ask.specs.Ask.{bits_of}
use Rattle.backing.specs.Backing.{quoted_of, behind}
use Rattle.lots.specs.declared.Sold.{Sold}
use Rattle.lots.specs.declared.NoLot.{NoLot}
use Rattle.lots.specs.Lots.{units_fine, dated, on_quote, lotted_of, lot_number}
use Rattle.lots.specs.Rooms.{lot_size, in_room, lot_answer}
use Rattle.lots.specs.Laws.{Rests, Answers, LotsAreOrdered, Bounds, LotSettled}

-- ---- a lot on a quote
pub record OnQuote (r : Quoted) (n : ℕ) (es : List Entry) : Type 0 where
  pub quote : (quote_number r ≡ 0 → ⊥) → lot_number (on_quote r n es) ≡ quote_number r
  pub sound : quote_number r ≡ 0 → lot_number (on_quote r n es) ≡ 17 → ⊥
  pub units : quote_number r ≡ 0 → units_fine n ≡ false → on_quote r n es ≡ Err NoLot.BadQuantity
  pub over : quote_number r ≡ 0 → units_fine n ≡ true → (k : ℕ) → fits (sum_after n es k) ≡ false → on_quote r n es ≡ Err NoLot.Over
  pub only : lot_number (on_quote r n es) ≡ 35
      → (quote_number r ≡ 0) × ((units_fine n ≡ true) × ((k : ℕ) × ((k ≤ length es) × (fits (sum_after n es k) ≡ false))))
  pub done : quote_number r ≡ 0 → units_fine n ≡ true → ((k : ℕ) → fits (sum_after n es k) ≡ true) → lot_number (on_quote r n es) ≡ 0
  pub given : lot_number (on_quote r n es) ≡ 0 → (q : Quote) × ((s : Sold) × ((r ≡ Ok q) × ((on_quote r n es ≡ Ok s) × Rests q n es s)))

-- a refusal of the quote: every other case is out of the question
refused : (why : NoQuote) (n : ℕ) (es : List Entry) → (refusal_number why ≡ 0 → ⊥) → (refusal_number why ≡ 35 → ⊥) → OnQuote (Err why) n es
refused why n es z w =
    record {
      quote = λ h. refl;
      sound = λ h. absurd (z h);
      units = λ h. absurd (z h);
      over = λ h. absurd (z h);
      only = λ h. absurd (w h);
      done = λ h. absurd (z h);
      given = λ h. absurd (z h);
    }

module _ (q : Quote) (n : ℕ) (es : List Entry) where
  sum_out : (l : Option Sale) → lot_of n es ≡ l → lot_number (dated q l) ≡ 35 → lot_of n es ≡ None
  sum_out (Some s) e h = absurd (omega arith)
  sum_out None e h = e

  only_sums : (t : Bool) → units_fine n ≡ t → lot_number (cond t (dated q (lot_of n es)) (Err NoLot.BadQuantity)) ≡ 35
      → (◌≡◌ {A = ℕ} 0 0) × ((units_fine n ≡ true) × ((k : ℕ) × ((k ≤ length es) × (fits (sum_after n es k) ≡ false))))
  only_sums true u h = (refl, (u, (lots_are_exact n es).refused (sum_out (lot_of n es) refl h)))
  only_sums false u h = absurd (omega arith)

  not_17 : (t : Bool) → lot_number (cond t (dated q (lot_of n es)) (Err NoLot.BadQuantity)) ≡ 17 → ⊥
  not_17 true h = go (lot_of n es) h
    where
      go : (l : Option Sale) → lot_number (dated q l) ≡ 17 → ⊥
      go (Some s) e = omega arith
      go None e = omega arith
  not_17 false h = omega arith

  all_fit : (l : Option Sale) → lot_of n es ≡ l → ((k : ℕ) → fits (sum_after n es k) ≡ true) → lot_number (dated q l) ≡ 0
  all_fit (Some s) e h = refl
  all_fit None e h = let (k, (m, w)) = (lots_are_exact n es).refused e in absurd (false≢true (sym w ∙ h k))

  -- what is given is exact and dated
  sold : (l : Option Sale) → lot_of n es ≡ l → lot_number (dated q l) ≡ 0 → (s : Sold) × ((dated q l ≡ Ok s) × Rests q n es s)
  sold (Some x) e h =
      let g = (lots_are_exact n es).given x e in (
        record { sum = x.sum; left = x.left; number = q.number; heard = q.heard },
        (
          refl,
          record {
            sum = g.0;
            left = g.1;
            number = refl;
            heard = refl;
            fit = (lots_are_exact n es).fit x e;
            whole = rw g.1 (lots_are_exact n es).conserved;
          },
        ),
      )
  sold None e h = absurd (omega arith)

  given : (t : Bool) → lot_number (cond t (dated q (lot_of n es)) (Err NoLot.BadQuantity)) ≡ 0
      → (s : Sold) × ((cond t (dated q (lot_of n es)) (Err NoLot.BadQuantity) ≡ Ok s) × Rests q n es s)
  given true h = sold (lot_of n es) refl h
  given false h = absurd (omega arith)

  quoted : OnQuote (Ok q) n es
  quoted =
      record {
        quote = λ h. absurd (h refl);
        sound = λ h. not_17 (units_fine n);
        units = λ h t. rw t;
        over = λ h t k w. rw (t, (lots_are_exact n es).refuses k w);
        only = only_sums (units_fine n) refl;
        done = λ h t w. rw t (all_fit (lot_of n es) refl w);
        given = λ h. let (s, r) = given (units_fine n) h in (q, (s, (refl, r)));
      }

no_quote : (why : NoQuote) → (refusal_number why ≡ 0 → ⊥) × (refusal_number why ≡ 35 → ⊥)
no_quote NoQuote.Unsound = (λ h. omega arith, λ h. omega arith)
no_quote NoQuote.BadArgument = (λ h. omega arith, λ h. omega arith)
no_quote NoQuote.NotFollowed = (λ h. omega arith, λ h. omega arith)
no_quote NoQuote.Waiting = (λ h. omega arith, λ h. omega arith)
no_quote NoQuote.NothingHeard = (λ h. omega arith, λ h. omega arith)
no_quote NoQuote.BeforeHeard = (λ h. omega arith, λ h. omega arith)
no_quote NoQuote.TooOld = (λ h. omega arith, λ h. omega arith)

on_quote_lem : (r : Quoted) (n : ℕ) (es : List Entry) → OnQuote r n es
on_quote_lem (Ok q) n es = quoted q n es
on_quote_lem (Err why) n es = let z = no_quote why in refused why n es z.0 z.1

-- ---- in room
in_first : (room a : ℕ) → a ≡ 17 → in_room room a ≡ 17
in_first room a e = rw e

in_short : (room a : ℕ) → (a ≡ 17 → ⊥) → room < lot_size → in_room room a ≡ 18
in_short room a z h = rw (ne_eqb a 17 z, lt-leb lot_size room h)

-- room that is long enough changes nothing
in_long : (room a : ℕ) → lot_size ≤ room → in_room room a ≡ a
in_long room a h = go (eqb a 17)
  where
    go : (t : Bool) → cond t a (cond (leb lot_size room) a 18) ≡ a
    go true = refl
    go false = rw (le-leb lot_size room h)

-- an answer that is neither 17 nor 18 was given in such room
in_only : (room a n : ℕ) → in_room room a ≡ n → (n ≡ 17 → ⊥) → (n ≡ 18 → ⊥) → (lot_size ≤ room) × (a ≡ n)
in_only room a n e z w = go (eqb a 17) refl (leb lot_size room) refl e
  where
    go : (t : Bool) → eqb a 17 ≡ t → (s : Bool) → leb lot_size room ≡ s → cond t a (cond s a 18) ≡ n → (lot_size ≤ room) × (a ≡ n)
    go true p s q h = absurd (z (sym h ∙ eqb-true a 17 p))
    go false p true q h = (leb-true lot_size room q, h)
    go false p false q h = absurd (w (sym h))

-- ---- a call
module _ (buying : Bool) (id n : ℕ) (now : List ℕ) (limit : ℕ) (room xs : List ℕ) where
  o : OnQuote (quoted_of id now limit xs) n (behind buying id now limit xs)
  o = on_quote_lem (quoted_of id now limit xs) n (behind buying id now limit xs)

  abbrev number : ℕ
  number = lot_number (on_quote (quoted_of id now limit xs) n (behind buying id now limit xs))

  refused_number : (quote_number (quoted_of id now limit xs) ≡ 0 → ⊥) → number ≡ quote_number (quoted_of id now limit xs)
  refused_number z = o.quote z

  is_17 : number ≡ 17 → quote_number (quoted_of id now limit xs) ≡ 17
  is_17 e = go (eqb (quote_number (quoted_of id now limit xs)) 0) refl
    where
      go : (t : Bool) → eqb (quote_number (quoted_of id now limit xs)) 0 ≡ t → quote_number (quoted_of id now limit xs) ≡ 17
      go true p = absurd (o.sound (eqb-true (quote_number (quoted_of id now limit xs)) 0 p) e)
      go false p = sym (refused_number (eqb-false (quote_number (quoted_of id now limit xs)) 0 p)) ∙ e

  pub answers : Answers buying id n now limit room xs
  unfolding lot_answer lotted_of
  answers =
      record {
        store = λ e. in_first (length room) number (refused_number (λ z. omega (arith, e, z)) ∙ e);
        short = λ z h. in_short (length room) number (λ e. z (is_17 e)) h;
        quote = λ h z. in_long (length room) number h ∙ refused_number z;
        units = λ h z u. in_long (length room) number h ∙ ap lot_number (o.units z u);
        over = λ h z u k w. in_long (length room) number h ∙ ap lot_number (o.over z u k w);
        only = λ e. let (l, a) = in_only (length room) number 35 e (λ z. omega arith) (λ z. omega arith) in (l, o.only a);
        done = λ h z u w. in_long (length room) number h ∙ o.done z u w;
        given = λ e.
            let (l, a) = in_only (length room) number 0 e (λ z. omega arith) (λ z. omega arith) in
            let (q, (s, (r, (t, w)))) = o.given a in
            record { q = q; s = s; quoted = r; lotted = t; rests = w };
      }

pub lots_are_ordered : LotsAreOrdered
lots_are_ordered buying id n now limit room xs = answers buying id n now limit room xs

pub bounds : Bounds
unfolding bits_of
bounds = record { none = refl; one = refl; most = refl; above = refl; words = λ s. refl; minus = refl }

pub lot_settled : LotSettled
lot_settled buying id n now limit room xs r s ys zs a b = (a.answer ∙ sym b.answer, a.out ∙ sym b.out)
