-- A difference of milliseconds. Assumes nothing.
use Rattle.moment.proofs.Aged.{since_lt, since_z, difference_fits, age_is}
use mathlib.Core.Path.{sym, ◌∙◌}
use mir.Facts.{to_z-of_z}
use Rattle.moment.proofs.age.Goals as goal

pub overflow_sub-result : goal.overflow_sub-result
overflow_sub-result c = rw (c.since_zero.ensures, c.since_zero-2.ensures, since_z _ c.requires.0, since_z _ c.requires.1) (difference_fits _ _ (since_lt _ c.requires.0) (since_lt _ c.requires.1))

pub returns : goal.returns
returns c = rw (c.since_zero.ensures, c.since_zero-2.ensures, since_z _ c.requires.0, since_z _ c.requires.1) (to_z-of_z (difference_fits _ _ (since_lt _ c.requires.0) (since_lt _ c.requires.1)) ∙ sym (age_is _ _))
