-- What is told is said. Assumes nothing.
use mathlib.Core.Path.{refl}
use native.Mathlib.Omega.{arith}
use Rattle.message.specs.Message.{numbered, snapshot, refused, told}
use Rattle.message.specs.Laws.{ToldIsSaid, ToldFits}

pub told_is_said : ToldIsSaid
unfolding told
told_is_said (numbered n heard us) f = refl
told_is_said (snapshot h us) f = refl
told_is_said (refused why) f = refl

pub told_fits : ToldFits
unfolding told
told_fits (numbered n heard us) f = f
told_fits (snapshot h us) f = f
told_fits (refused why) f = omega arith
