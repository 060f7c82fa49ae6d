-- `give` meets its contract: the board takes the message, and behind a W the loop does.
use Rattle.rounds.proofs.Gives.{says_number, says_snapshot, says_refused, sound_behind, number_gives, snapshot_gives, refused_gives}
use Rattle.rounds.proofs.give.Goals as goal

pub looped-o-requires : goal.looped-o-requires
looped-o-requires c =
    let f = c.feed_read-f.ensures.feeds in
    (f.canon, sound_behind c.requires.0 f c.requires.1 c.requires.4, c.requires.2)

pub returns-in-Numbered-clause-gives : goal.returns-in-Numbered-clause-gives
returns-in-Numbered-clause-gives c =
    number_gives c.requires.0 c.feed_read-f.ensures.feeds _ _ _ _ (says_number c.in-Ok.is _ c.in-Numbered.is)

pub returns-in-Snapshot-clause-gives : goal.returns-in-Snapshot-clause-gives
returns-in-Snapshot-clause-gives c =
    snapshot_gives c.requires.0 c.feed_read-f.ensures.feeds _ _ _ _ _ (says_snapshot c.in-Ok.is _ c.in-Snapshot.is) c.looped-o.ensures.rounds

pub returns-in-Err-clause-gives : goal.returns-in-Err-clause-gives
returns-in-Err-clause-gives c = refused_gives c.requires.0 c.feed_read-f.ensures.feeds _ _ (says_refused c.in-Err.is _)
