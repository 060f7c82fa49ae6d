-- The side behind a quote, refused and given. Assumes nothing.
use Rattle.std.specs.Prelude.{Option, Some, None, Result, Ok, Err, IsErrAnd}
use mathlib.Core.Path.{◌≡◌, refl, sym, ap}
use mathlib.Core.Bool.{Bool, true, false, cond, ◌&&◌}
use mathlib.Core.List.{List}
use Prim.Native.Nat.{ℕ, ◌<◌}
use native.Mathlib.Omega.{arith}
use lib.Dec.{leb}
use lib.ListN.{length}
use borrow.Author.Tests.{leb-false}
use Rattle.moment.specs.Moments.{moment_of}
use Rattle.book.specs.declared.Side.{Side}
use Rattle.book.specs.Canonical.{Kept, held_in}
use Rattle.cells.specs.Cells.{side_at}
use Rattle.board.specs.Board.{Inst, Board, look, at}
use Rattle.board.specs.Ranges.{id_fine}
use Rattle.store.specs.Layout.{bids_of, offers_of}
use Rattle.store.specs.Meaning.{inst_at, board_at, loaded}
use Rattle.store.proofs.Decode.{insts_length, at_board}
use Rattle.sound.specs.Sound.{sound}
use Rattle.sound.proofs.Readers.{formed}
use Rattle.quote.specs.Quotes.{Quoted, most_limit, quote_at, at_now, quote_of}
use Rattle.quote.specs.declared.Quote.{Quote}
use Rattle.quote.specs.declared.NoQuote.{NoQuote}
use Rattle.backing.specs.Backing.{quoted_of, side_for, behind, Backs}
use Rattle.backing.specs.declared.Backed.{Backed}

-- ---- a quote that is given is of an instrument that is followed
never : {r : Quoted} {q : Quote} → r ≡ Ok q → r ≡ (Err NoQuote.NotFollowed) → ⊥
never e f = let z : ◌≡◌ {A = ℕ} 0 1 = cc in omega arith

never_bad : {r : Quoted} {q : Quote} → r ≡ Ok q → r ≡ (Err NoQuote.BadArgument) → ⊥
never_bad e f = let z : ◌≡◌ {A = ℕ} 0 1 = cc in omega arith

followed_at : (i now limit : ℕ) (b : Board) (q : Quote) → quote_at i now limit b ≡ Ok q → i < length b.insts
followed_at i now limit b q e = go (leb (length b.insts) i) refl
  where
    go : (t : Bool) → leb (length b.insts) i ≡ t → i < length b.insts
    go true w = absurd (never e (rw w))
    go false w = leb-false (length b.insts) i w

followed : (id : ℕ) (now : List ℕ) (limit : ℕ) (b : Board) (q : Quote) → quote_of id now limit b ≡ Ok q → look id b.insts < length b.insts
unfolding quote_of
followed id now limit b q e = by_moment (moment_of now) e
  where
    by_test : (m : ℕ) (t : Bool) → cond t (quote_at (look id b.insts) m limit b) (Err NoQuote.BadArgument) ≡ Ok q → look id b.insts < length b.insts
    by_test m true w = followed_at (look id b.insts) m limit b q w
    by_test m false w = absurd (never_bad w refl)

    by_moment : (m : Option ℕ) → at_now m id limit b ≡ Ok q → look id b.insts < length b.insts
    by_moment None w = absurd (never_bad w refl)
    by_moment (Some m) w = by_test m (id_fine id && leb limit most_limit) w

module _ (buying : Bool) (id : ℕ) (now : List ℕ) (limit : ℕ) (xs : List ℕ) where
  -- ---- refused
  pub unsound : sound xs ≡ false → Backs buying id now limit xs (Err NoQuote.Unsound)
  unfolding quoted_of behind
  unsound s = record { quoted = rw s; places = rw s; kept = tt }

  module _ (s : sound xs ≡ true) where
    pub passed_on : (why : NoQuote) → quote_of id now limit (board_at xs) ≡ Err why
        → (r : Result Backed NoQuote) → IsErrAnd r (λ e. e ≡ why) → Backs buying id now limit xs r
    unfolding quoted_of behind
    passed_on why e (Err f) h = record { quoted = rw (s, e, h); places = rw (s, e); kept = tt }
    passed_on why e (Ok b) h = absurd h

    -- ---- given
    module _ (q : Quote) (given : quote_of id now limit (board_at xs) ≡ Ok q) where
      found : look id (board_at xs).insts < (loaded xs).head.followed
      found = omega (arith, followed id now limit (board_at xs) q given, insts_length (loaded xs))

      pub low : (i : ℕ) → i ≡ look id (board_at xs).insts → i < 16
      low i w = omega (arith, found, (formed xs s).few, w)

      side_at_lem : (z : Bool) → held_in (side_at xs (cond z (offers_of (look id (board_at xs).insts)) (bids_of (look id (board_at xs).insts)))) ≡ side_for z (at (look id (board_at xs).insts) (board_at xs)).book
      unfolding inst_at
      side_at_lem true = ap (λ (x : Inst). x.book.offers) (sym (at_board (look id (board_at xs).insts) (loaded xs) found))
      side_at_lem false = ap (λ (x : Inst). x.book.bids) (sym (at_board (look id (board_at xs).insts) (loaded xs) found))

      side_kept : (z : Bool) → Kept (side_at xs (cond z (offers_of (look id (board_at xs).insts)) (bids_of (look id (board_at xs).insts))))
      side_kept true = ((formed xs s).books (look id (board_at xs).insts) found).offers
      side_kept false = ((formed xs s).books (look id (board_at xs).insts) found).bids

      pub backs : (i : ℕ) (side : Side) → i ≡ look id (board_at xs).insts → side ≡ side_at xs (cond buying (offers_of i) (bids_of i))
          → Backs buying id now limit xs (Ok (record { quote = q; side = side }))
      unfolding quoted_of behind
      backs i side w v = rw (v, w) (record { quoted = rw (s, given); places = rw (s, given) (side_at_lem buying); kept = side_kept buying })
