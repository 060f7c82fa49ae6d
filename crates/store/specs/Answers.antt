-- What a call answers, with the heading and the store that it leaves; and what that means.
use Rattle.std.specs.Prelude.{ℕ}
use Rattle.board.specs.Board.{Out, out}
use Rattle.store.specs.Meaning.{State, board_in}

pub record FedS : Type 0 where
  pub answer : ℕ
  pub state : State

abbrev pub fed : ℕ → State → FedS
fed a s = record { answer = a; state = s }

abbrev pub meant : FedS → Out
meant o = out o.answer (board_in o.state)
