-- The group of an X or a W (document 01, "Fields"): its entries, and in W their positions. Assumes nothing.
use Rattle.std.specs.Prelude.{Option, Some, None}
use Rattle.std.specs.Prelude.{ℕ, List, [], ◌∷◌, Bool, true, ◌&&◌, eqb, length}
use Rattle.book.specs.declared.Update.{Update}
use Rattle.chain.specs.Fields.{Field}
use Rattle.tags.specs.Tags.{named_tags, tidy, all_tidy, up_to, past, parts, lookup}
use Rattle.values.specs.Values.{◌>>=◌, need, Values, count_at}
use Rattle.position.specs.Positions.{next_on, next_after}
use Rattle.position.specs.declared.Next.{Next}

-- The group of X and W follows 268 and has exactly as many entries as 268 says, each beginning with the first tag; before
-- the first entry no tag named stands.
unfoldable pub group_of : ℕ → List ℕ → List Field → Option (List (List Field))
group_of first ours body =
    count_at (lookup body) >>= λ n.
    need (eqb (length (parts first (past 268 body))) n
    && (tidy named_tags [] (up_to first (past 268 body)) && all_tidy named_tags ours (parts first (past 268 body))))
    (Some (parts first (past 268 body)))

-- All entries, in order.
abbrev pub onto : Option Update → List Update → List Update
onto None us = us
onto (Some u) us = u ∷ us

unfoldable pub each : (Values → Option (Option Update)) → List (List Field) → Option (List Update)
each f [] = Some []
each f (e ∷ es) = f (lookup e) >>= λ u. each f es >>= λ us. Some (onto u us)

-- In W the positions on each side run 1, 2, 3 in the order written.
unfoldable pub running : Next → List Update → Bool
running next [] = true
running next (u ∷ us) = eqb u.place (next_on next u.what) && running (next_after next u.what) us
