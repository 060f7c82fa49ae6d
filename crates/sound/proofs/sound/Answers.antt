-- `sound` meets its contract: the scan finds exactly the sound stores.
use mathlib.Core.Path.{◌∙◌}
use Rattle.sound.proofs.Laws.{scan_is_sound}
use Rattle.sound.proofs.sound.Goals as goal

pub returns : goal.returns
returns c = c.scan.ensures ∙ scan_is_sound _
