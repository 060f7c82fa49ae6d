-- What a quote asks of a heading and a store: what every sound store has.
use Rattle.std.specs.Prelude.{◌≡◌, true, ◌≤◌, length}
use Rattle.board.specs.Sound.{heard_fine}
use Rattle.store.specs.Layout.{store_size}
use Rattle.store.specs.Meaning.{State}

pub record Ready (s : State) : Type 0 where
  pub long : store_size ≤ length s.store
  pub few : s.head.followed ≤ 16
  pub heard : heard_fine s.head.number s.head.heard ≡ true
