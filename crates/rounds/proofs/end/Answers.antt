-- `end` meets its contract: the instruments that are left, from the board as it is, give what is wanted.
use mathlib.Core.Path.{sym, ◌∙◌}
use native.Mathlib.Omega.{arith}
use Rattle.rounds.proofs.Ends.{named_turn, none_asked, read_turn, run_stays, all_through}
use Rattle.rounds.proofs.end.Goals as goal

pub loop-i-preserved-then-named_at : goal.loop-i-preserved-then-named_at
loop-i-preserved-then-named_at c =
    let i = c.loop-i.invariant in
    (named_turn _ _ _ _ i.0 c.loop-i-test.true (sym c.if-named_at.ensures), i.1)

pub feed_read-f-requires : goal.feed_read-f-requires
feed_read-f-requires c = (c.loop-i.invariant.0.canon, none_asked _ _ _ _ c.empty_for-r.ensures)

pub loop-i-preserved : goal.loop-i-preserved
loop-i-preserved c =
    let i = c.loop-i.invariant in
    let empty = c.empty_for-r.ensures in
    let fed = c.feed_read-f.ensures in (
      read_turn _ _ _ _ i.0 _ c.loop-i.run _ _ c.loop-i-test.true (sym c.if-named_at.ensures) empty fed.feeds,
      run_stays _ _ _ _ _ _ empty fed.aims ∙ i.1,
    )

pub returns-clause-ends : goal.returns-clause-ends
returns-clause-ends c = all_through _ _ _ _ c.loop-i.invariant.0 c.requires.1 c.loop-i-test.false (omega arith)
