-- `feed_reading` meets its contract: the entries are aimed, then each kind has its message.
use mathlib.Core.Path.{ap}
use Rattle.cells.specs.Runs.{updates_in}
use Rattle.message.specs.declared.Kind.{Kind}
use Rattle.message.specs.Message.{said_by}
use Rattle.channel.proofs.Board.{number_feeds, snapshot_feeds}
use Rattle.channel.proofs.feed_reading.Goals as goal

pub returns-in-Numbered-clause-feeds : goal.returns-in-Numbered-clause-feeds
returns-in-Numbered-clause-feeds c =
    let says = ap (λ (v : Kind). said_by v c.args.r (updates_in c.args.run.now c.args.r.count)) c.in-Numbered.is in
    number_feeds says c.requires.0 c.aim.ensures.entries c.number.ensures

pub returns-in-Snapshot-clause-feeds : goal.returns-in-Snapshot-clause-feeds
returns-in-Snapshot-clause-feeds c =
    let says = ap (λ (v : Kind). said_by v c.args.r (updates_in c.args.run.now c.args.r.count)) c.in-Snapshot.is in
    snapshot_feeds says c.requires.0 c.aim.ensures.entries (rw c.head.ensures at c.snapshot.ensures)
