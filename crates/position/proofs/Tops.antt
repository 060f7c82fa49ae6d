-- What is not looked at in an X. Assumes nothing.
use Rattle.std.specs.Prelude.{Option, Some, None}
use mathlib.Core.Path.{◌≡◌, refl}
use borrow.Author.Tests.{eq-eqb}
use Rattle.book.specs.declared.Update.{Update}
use Rattle.values.specs.Values.{◌>>=◌}
use Rattle.position.specs.Positions.{at_next}
use Rattle.position.specs.declared.Next.{Next}
use Rattle.position.specs.declared.Top.{Top}

-- in an X no position is looked at
pub numbered_said : (t : Top) (next : Next) (o : Option (Option Update)) → t.first ≡ 279 → o >>= at_next t next ≡ o
unfolding at_next
numbered_said t next None q = refl
numbered_said t next (Some None) q = refl
numbered_said t next (Some (Some u)) q = rw (eq-eqb t.first 279 q)
