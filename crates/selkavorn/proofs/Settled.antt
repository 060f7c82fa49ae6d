-- Each exported function is settled. Assumes nothing.
use mathlib.Core.Path.{sym, ◌∙◌}
use Rattle.opening.proofs.Laws.{open_settled}
use Rattle.feed.proofs.Laws.{feed_settled}
use Rattle.ask.proofs.Laws.{quote_settled, state_settled}
use Rattle.summary.proofs.Laws.{summary_settled}
use Rattle.send.proofs.Laws.{write_settled}
use Rattle.lots.proofs.Laws.{lot_settled}
use Rattle.selkavorn.specs.Settled.{WalkSettled, AllSettled}

walk_settled : WalkSettled
walk_settled rec from room r s ys zs x y = (x.answer ∙ sym y.answer, x.out ∙ sym y.out)

pub all_settled : AllSettled
all_settled =
    record {
      opening = open_settled;
      feeding = feed_settled;
      quoting = quote_settled;
      writing = write_settled;
      stating = state_settled;
      summing = summary_settled;
      salvaging = walk_settled;
      dealing = lot_settled;
    }
