-- The entries of an X or a W as the code reads them, once what stands before them is known. Assumes nothing.
use Rattle.std.specs.Prelude.{Option, Some}
use Rattle.std.specs.Prelude.{ℕ, List, [], Bool, ◌&&◌, ◌||◌, eqb, length}
use Rattle.book.specs.declared.Update.{Update}
use Rattle.chain.specs.Fields.{Field}
use Rattle.tags.specs.Tags.{named_tags, tidy, all_tidy, up_to, parts}
use Rattle.tags.specs.Slots.{between}
use Rattle.values.specs.Values.{◌>>=◌, need}
use Rattle.position.specs.Positions.{firsts, entry_in}
use Rattle.position.specs.declared.Next.{Next}
use Rattle.position.specs.declared.Top.{Top}
use Rattle.group.specs.Groups.{each, running}

-- The updates of a group of n entries: the fields after 268.
unfoldable pub ordered : Top → Next → List Update → Bool
ordered t next us = eqb t.first 279 || running next us

unfoldable pub grouped : ℕ → Top → ℕ → List Field → Option (List Update)
grouped depth t n fs =
    need (eqb (length (parts t.first fs)) n
    && (tidy named_tags [] (up_to t.first fs) && all_tidy named_tags (between t.low 20) (parts t.first fs)))
    (each (entry_in depth t) (parts t.first fs) >>= λ us. need (ordered t firsts us) (Some us))
