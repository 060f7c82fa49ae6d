-- An order id that is read. Assumes nothing.
use Rattle.std.specs.Option.{is_some}
use Rattle.writer.proofs.Names.{is_read}
use mathlib.Core.Path.{ap, ◌∙◌}
use Rattle.writer.proofs.id_bytes.Goals as goal

pub returns : goal.returns
returns c = c.is_some.ensures ∙ ap is_some c.read.ensures ∙ is_read c.args.text.now
