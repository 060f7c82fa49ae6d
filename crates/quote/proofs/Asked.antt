-- A quote's tests as the code makes them. Assumes nothing.
use Rattle.std.specs.Prelude.{Err}
use mathlib.Core.Path.{◌≡◌, refl, ap, ◌∙◌}
use mathlib.Core.Bool.{true, false}
use Prim.Native.Nat.{ℕ, ◌≤◌, ◌<◌}
use lib.Dec.{leb, eqb}
use borrow.Author.Tests.{le-leb, lt-leb, eq-eqb, ne_eqb, ltb-true}
use lib.ListN.{length}
use Rattle.heading.specs.Marks.{marked}
use Rattle.board.specs.Board.{Inst, at}
use Rattle.board.specs.Sound.{heard_fine}
use Rattle.moment.specs.Moments.{moments}
use Rattle.book.specs.Canonical.{held_in}
use Rattle.cells.specs.Cells.{side_at}
use Rattle.moment.specs.Ages.{age_of}
use Rattle.store.specs.Layout.{bids_of, offers_of}
use Rattle.store.specs.Meaning.{State, board_in, board_of, inst_at}
use Rattle.store.proofs.Decode.{insts_length, at_board}
use Rattle.quote.specs.Quotes.{top_of, aged_by, quote_at}
use Rattle.quote.specs.declared.Quote.{Quote}
use Rattle.quote.specs.declared.NoQuote.{NoQuote}

-- what a quote of the instrument at i gives
abbrev pub told : State → ℕ → Quote
told s i =
    record {
      number = s.head.number;
      heard = s.head.heard;
      bid = top_of (held_in (side_at s.store (bids_of i)));
      offer = top_of (held_in (side_at s.store (offers_of i)));
    }

module _ (s : State) (i time limit : ℕ) where
  pub not_followed : s.head.followed ≤ i → quote_at i time limit (board_in s) ≡ Err NoQuote.NotFollowed
  not_followed h = let e : leb (length (board_in s).insts) i ≡ true = rw (insts_length s) (le-leb s.head.followed i h) in rw e

  followed_by : i < s.head.followed → leb (length (board_in s).insts) i ≡ false
  followed_by h = rw (insts_length s) (lt-leb s.head.followed i h)

  waits_at : i < s.head.followed → (at i (board_in s)).waiting ≡ marked s.head.marks i
  unfolding inst_at
  waits_at h = ap (λ (x : Inst). x.waiting) (at_board i s h)

  pub is_waiting : i < s.head.followed → marked s.head.marks i ≡ true → quote_at i time limit (board_in s) ≡ Err NoQuote.Waiting
  is_waiting h w = let e : (at i (board_in s)).waiting ≡ true = waits_at h ∙ w in rw (followed_by h, e)

  number_is : (board_in s).H ≡ s.head.number
  unfolding board_of
  number_is = refl

  pub nothing_heard : i < s.head.followed → marked s.head.marks i ≡ false → s.head.number ≡ 0 → quote_at i time limit (board_in s) ≡ Err NoQuote.NothingHeard
  nothing_heard h w z =
      let e : (at i (board_in s)).waiting ≡ false = waits_at h ∙ w in
      let n : eqb (board_in s).H 0 ≡ true = rw number_is (eq-eqb s.head.number 0 z) in
      rw (followed_by h, e, n)

  pub is_quoted : i < s.head.followed → marked s.head.marks i ≡ false → (s.head.number ≡ 0 → ⊥)
      → quote_at i time limit (board_in s) ≡ aged_by (age_of time s.head.heard) limit (told s i)
  unfolding board_of inst_at
  is_quoted h w z =
      let e : (at i (board_in s)).waiting ≡ false = waits_at h ∙ w in
      rw (followed_by h, e, ne_eqb s.head.number 0 z, at_board i s h)

-- where something is heard, its time is a moment
pub heard_held : (n heard : ℕ) → (n ≡ 0 → ⊥) → heard_fine n heard ≡ true → heard < moments
heard_held n heard z h = ltb-true heard moments (rw (ne_eqb n 0 z) at h)
