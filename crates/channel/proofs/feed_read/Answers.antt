-- `feed_read` meets its contract: a message that was read is fed, and one that was not leaves all as it was.
use Rattle.channel.proofs.Board.{unread_feeds, unread_aims}
use Rattle.channel.proofs.feed_read.Goals as goal

pub returns-in-Err : goal.returns-in-Err
returns-in-Err c = record { feeds = unread_feeds c.in-Err.is _ c.requires.0 (rw c.unread.ensures.1) (rw c.unread.ensures.0); aims = unread_aims c.in-Err.is _ _ }
