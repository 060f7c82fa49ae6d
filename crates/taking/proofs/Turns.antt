-- One turn of the replay: an entry that is not due is passed over, one that is due is applied, and a breach ends it.
use mathlib.Core.Path.{◌≡◌, refl, sym, ap, ◌∙◌}
use mathlib.Core.Bool.{true, false}
use Prim.Native.Nat.{ℕ, ◌+◌, ◌<◌}
use lib.ListN.{drop}
use lib.Dec.{eqb}
use Rattle.std.specs.Prelude.{Ok, Err}
use Rattle.book.specs.declared.Book.{Book}
use Rattle.book.specs.declared.reasons.Breach.{Breach}
use Rattle.book.specs.declared.reasons.Breach.TheVariants.{Place, Room}
use Rattle.book.specs.Results.{reason_number, turn_from, turn_at}
use Rattle.book.specs.Sides.{Turn, book_step}
use Rattle.cells.specs.Cells.{tab}
use Rattle.cells.proofs.Tables.{tab_turn}
use Rattle.board.specs.Board.{Queued}
use Rattle.taking.specs.Replays.{next, replay_b}
use Rattle.terms.specs.Terms.{due}

-- a breach has a reason
pub has_reason : (why : Breach) → eqb (reason_number why) 0 ≡ false
has_reason Place = refl
has_reason Room = refl

module _ (i S : ℕ) (f : ℕ → Queued) (q k : ℕ) (b : Book) (h : k < q) where
  pub passes : due i S (f k).update.who (f k).update.what (f k).number ≡ false → replay_b i S (drop (k + 1) (tab f q)) b ≡ replay_b i S (drop k (tab f q)) b
  unfolding replay_b
  passes e = sym (rw (tab_turn f q k h, e))

  applies : due i S (f k).update.who (f k).update.what (f k).number ≡ true
      → replay_b i S (drop k (tab f q)) b ≡ next (book_step b (f k).update) (replay_b i S (drop (k + 1) (tab f q)))
  unfolding replay_b
  applies e = rw (tab_turn f q k h, e)

  -- one that is due, with what it leaves of the book
  module _ (e : due i S (f k).update.who (f k).update.what (f k).number ≡ true) where
    goes : (t : Turn) → t ≡ book_step b (f k).update → next t (replay_b i S (drop (k + 1) (tab f q))) ≡ replay_b i S (drop k (tab f q)) b
    goes t w = sym (applies e ∙ ap (λ (x : Turn). next x (replay_b i S (drop (k + 1) (tab f q)))) (sym w))

    -- of a book where it stands
    pub goes_on_at : (c : Book) (d : Unit {0}) → turn_at c (Ok d) ≡ book_step b (f k).update
        → replay_b i S (drop (k + 1) (tab f q)) c ≡ replay_b i S (drop k (tab f q)) b
    goes_on_at c d w = goes (turn_at c (Ok d)) w

    broke : (c : Book) (why : Breach) → turn_at c (Err why) ≡ book_step b (f k).update → turn_at c (Err why) ≡ replay_b i S (drop k (tab f q)) b
    broke c why w = rw (has_reason why) at (goes (turn_at c (Err why)) w)

    pub stops_at : (c : Book) (why : Breach) (t : Turn) → replay_b i S (drop k (tab f q)) b ≡ t → turn_at c (Err why) ≡ book_step b (f k).update
        → turn_from t.book (Err why) ≡ t
    stops_at c why t h w = ap (λ (r : ℕ). record { book = t.book; reason = r }) (ap (λ (x : Turn). x.reason) (broke c why w ∙ h))

    -- of a book by value, which a breach leaves as it was
    pub goes_on_lem : (c : Book) → turn_from b (Ok c) ≡ book_step b (f k).update
        → replay_b i S (drop (k + 1) (tab f q)) c ≡ replay_b i S (drop k (tab f q)) b
    goes_on_lem c w = goes_on_at c tt w

    pub stops : (why : Breach) → turn_from b (Err why) ≡ book_step b (f k).update → turn_from b (Err why) ≡ replay_b i S (drop k (tab f q)) b
    stops why w = broke b why w
