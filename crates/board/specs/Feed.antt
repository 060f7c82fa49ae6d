-- One message on a board. 34 of a W is not compared with H.
use Rattle.std.specs.Prelude.{map}
use Rattle.message.specs.Message.{Message, numbered, snapshot, refused, answer_of}
use Rattle.board.specs.Board.{Board, Out, out}
use Rattle.board.specs.Count.{aimed, number}
use Rattle.board.specs.Snapshot.{shown, snap}

unfoldable pub feed : Message → Board → Out
feed (numbered n heard us) b = number n heard (map (aimed b.insts) us) b
feed (snapshot h us) b = snap h.id h.last (shown us) b
feed (refused why) b = out (answer_of why) b
