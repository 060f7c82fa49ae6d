-- A quote of a sound board can be written. Assumes nothing.
use Rattle.std.specs.Prelude.{Option, Some, None, Ok, Err}
use mathlib.Core.Path.{◌≡◌, refl}
use mathlib.Core.Bool.{Bool, true, false, cond, ◌&&◌}
use mathlib.Core.List.{List, [], ◌∷◌}
use Prim.Native.Nat.{ℕ, ◌*◌, ◌<◌}
use lib.Dec.{leb, eqb}
use lib.IntN.{pos}
use lib.Signed.{lt_z}
use lib.ListN.{length}
use borrow.Author.Tests.{leb-false, eqb-false}
use Rattle.moment.specs.Moments.{moments, moment_of}
use Rattle.moment.specs.Ages.{age_of}
use Rattle.book.specs.Canonical.{All}
use Rattle.book.specs.declared.Entry.{Entry}
use Rattle.board.specs.Board.{Board, look, at, no_inst}
use Rattle.board.specs.Ranges.{id_fine, entry_fine}
use Rattle.board.specs.Sound.{Sound, SoundInst}
use Rattle.board.proofs.Tested.{entry_sound}
use Rattle.board.proofs.Each.{each_at}
use Rattle.quote.specs.Quotes.{most_limit, top_of, given, quote_at, at_now, quote_of}
use Rattle.quote.specs.declared.NoQuote.{NoQuote}
use Rattle.quote.specs.Quotes.{Quoted}
use Rattle.quote.proofs.Asked.{heard_held}
use Rattle.ask.specs.Ask.{room_after, quote_values}
use Rattle.ask.specs.Fine.{FineTop, FineQuote, FineQuoted}

-- ---- every moment is in range

pub entry_moment : (depth : ℕ) (e : Entry) → entry_fine depth e ≡ true → e.moment < moments
entry_moment depth e h = (entry_sound depth e h).moment

top_fine : (depth : ℕ) (l : List Entry) → All (λ e. entry_fine depth e ≡ true) l → FineTop (top_of l)
top_fine depth [] h = tt
top_fine depth (e ∷ l) h = entry_moment depth e h.0

module _ (b : Board) (s : Sound b) where
  given_fine : (i : ℕ) → i < length b.insts → (b.H ≡ 0 → ⊥) → FineQuote (given b (at i b))
  given_fine i h n =
      let x : SoundInst b.depth (at i b) = each_at (SoundInst b.depth) b.insts i no_inst s.each h in
      record {
        heard = heard_held b.H b.heard n s.heard;
        bid = top_fine b.depth (at i b).book.bids x.bids.entries;
        offer = top_fine b.depth (at i b).book.offers x.offers.entries;
      }

  at_fine : (i time limit : ℕ) → FineQuoted (quote_at i time limit b)
  at_fine i time limit =
      go (leb (length b.insts) i) (at i b).waiting (eqb b.H 0) (lt_z (age_of time b.heard) (pos 0)) (lt_z (pos (limit * 1000)) (age_of time b.heard)) refl refl
    where
      go : (f w n k o : Bool) → leb (length b.insts) i ≡ f → eqb b.H 0 ≡ n
          → FineQuoted (cond f (Err NoQuote.NotFollowed) (cond w (Err NoQuote.Waiting) (cond n (Err NoQuote.NothingHeard) (cond k (Err NoQuote.BeforeHeard) (cond o (Err NoQuote.TooOld) (Ok (given b (at i b))))))))
      go true w n k o p q = tt
      go false true n k o p q = tt
      go false false true k o p q = tt
      go false false false true o p q = tt
      go false false false false true p q = tt
      go false false false false false p q = given_fine i (leb-false (length b.insts) i p) (eqb-false b.H 0 q)

  now_fine : (n : Option ℕ) (id limit : ℕ) → FineQuoted (at_now n id limit b)
  now_fine None id limit = tt
  now_fine (Some time) id limit = go (id_fine id && leb limit most_limit)
    where
      go : (t : Bool) → FineQuoted (cond t (quote_at (look id b.insts) time limit b) (Err NoQuote.BadArgument))
      go true = at_fine (look id b.insts) time limit
      go false = tt

  pub quoted_fine : (id : ℕ) (now : List ℕ) (limit : ℕ) → FineQuoted (quote_of id now limit b)
  unfolding quote_of
  quoted_fine id now limit = now_fine (moment_of now) id limit

-- the room after a quote, by its depth kind and the quote
pub room_by : (answer : ℕ) (room : List ℕ) {d k : ℕ} {q p : Quoted} → d ≡ k → q ≡ p → room_after answer (quote_values d q) room ≡ room_after answer (quote_values k p) room
room_by answer room h g = cc
