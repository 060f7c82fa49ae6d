-- The hut whose queue is let go recovers: each part computed. Assumes nothing.
use mathlib.Core.Path.{refl}
use mathlib.Core.List.{[], ◌∷◌}
use native.Mathlib.Omega.{arith}
use Rattle.book.specs.Rules.{applied, after_action, after_new, after_change, after_delete}
use Rattle.board.specs.Board.{any_waiting, look}
use Rattle.board.specs.Count.{joining, hit, give, gives, count, number}
use Rattle.board.specs.Snapshot.{entries_of, run, after, take, snap}
use Rattle.board.specs.Feed.{feed}
use Rattle.board.specs.Calls.{mine}
use Rattle.board.specs.Demand.{book_at}
use Rattle.board.specs.Ranges.{entry_fine, none_fine, update_fine, shown_fine, head_fine, message_fine}
use Rattle.board.specs.Sound.{distinct}
use Rattle.board.specs.Overflow.{level, stream, received, RecoversPastOverflow}
use Rattle.board.proofs.Streams.{numbered_from_one, never_breaks}

pub recovers_past_overflow : RecoversPastOverflow
unfolding stream received book_at mine run applied after_action after_new after_change after_delete any_waiting look joining hit give gives count number entries_of after take snap feed distinct message_fine head_fine update_fine shown_fine entry_fine none_fine
recovers_past_overflow =
    record {
      numbers = numbered_from_one stream refl;
      never = never_breaks stream 7 (record { bids = level 9 ∷ []; offers = level 10 ∷ [] }) refl;
      right = (
        (λ _. (0, omega arith, refl)),
        (
          (λ _ _. refl),
          (
            (λ _ e. absurd (omega (arith, e))),
            (
              (λ _. (1, omega arith, refl)),
              (
                (λ _. (2, omega arith, refl)),
                (
                  (λ _. (4, omega arith, refl)),
                  (
                    (λ _. (5, omega arith, refl)),
                    (
                      (λ _. (6, omega arith, refl)),
                      (
                        (λ _. (7, omega arith, refl)),
                        (
                          (λ _. (8, omega arith, refl)),
                          (
                            (λ e. absurd (omega (arith, e))),
                            (
                              (λ _. (9, omega arith, refl)),
                              ((λ _ _. refl), tt),
                            ),
                          ),
                        ),
                      ),
                    ),
                  ),
                ),
              ),
            ),
          ),
        ),
      );
      followed = refl;
      fine = (refl, (refl, (refl, (refl, (refl, (refl, (refl, (refl, (refl, (refl, (refl, (refl, (refl, tt)))))))))))));
      breaks = refl;
      answered = refl;
      base = refl;
      live = refl;
      book = refl;
      waits = refl;
      reason = refl;
      last = refl;
    }
