-- The hut that loses a message recovers: each part computed.
use mathlib.Core.Path.{refl}
use mathlib.Core.Bool.{false≢true}
use Prim.Native.Nat.{zero, suc}
use native.Mathlib.Omega.{arith}
use Rattle.book.specs.Rules.{applied, after_action, after_new, after_delete}
use Rattle.board.specs.Board.{any_waiting, look}
use Rattle.board.specs.Count.{joining, hit, give, gives, count, number}
use Rattle.board.specs.Snapshot.{entries_of, run, after, take, snap}
use Rattle.board.specs.Feed.{feed}
use Rattle.board.specs.Calls.{mine}
use Rattle.board.specs.Demand.{NumberedFromOne, book_at, NeverBreaks}
use Rattle.board.specs.Ranges.{entry_fine, none_fine, update_fine, shown_fine, head_fine, message_fine}
use Rattle.board.specs.Sound.{distinct}
use Rattle.board.specs.Loss.{stream, received, Recovered}

numbers : NumberedFromOne stream
unfolding stream
numbers zero h = (_, _, refl)
numbers (suc zero) h = (_, _, refl)
numbers (suc (suc zero)) h = (_, _, refl)
numbers (suc (suc (suc zero))) h = (_, _, refl)
numbers (suc (suc (suc (suc k)))) h = absurd (omega arith)

never : NeverBreaks stream 7
unfolding stream book_at mine run applied after_action after_new after_delete
never zero h = (_, refl)
never (suc zero) h = (_, refl)
never (suc (suc zero)) h = (_, refl)
never (suc (suc (suc zero))) h = (_, refl)
never (suc (suc (suc (suc zero)))) h = (_, refl)
never (suc (suc (suc (suc (suc k))))) h = absurd (omega arith)

pub recovered : Recovered
unfolding stream received book_at mine run applied after_action after_new after_delete any_waiting look joining hit give gives count number entries_of after take snap feed distinct message_fine head_fine update_fine shown_fine entry_fine none_fine
recovered =
    record {
      numbers = numbers;
      never = never;
      right = (
        (λ _. (0, omega arith, refl)),
        (
          (λ _. (2, omega arith, refl)),
          (
            (λ e. absurd (false≢true e)),
            ((λ e. absurd (omega arith)), ((λ e. absurd (omega arith)), ((λ _ _. refl), ((λ _. (3, omega arith, refl)), tt)))),
          ),
        ),
      );
      followed = refl;
      fine = (refl, (refl, (refl, (refl, (refl, (refl, (refl, tt)))))));
      answered = refl;
      m11_base = refl;
      m11_last = refl;
      live = refl;
      book = refl;
      waits = refl;
      last = refl;
    }
