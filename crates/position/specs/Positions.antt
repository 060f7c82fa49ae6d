-- An entry of the group of an X or a W, and in W its position (document 01, "Fields"). Assumes nothing.
use Rattle.std.specs.Prelude.{Option, Some, None}
use Rattle.std.specs.Prelude.{ℕ, ◌+◌, ◌≡◌, true, cond, ◌||◌, eqb}
use Rattle.book.specs.declared.Update.{Update}
use Rattle.tags.specs.Tags.{has}
use Rattle.tags.specs.Slots.{between, breaks}
use Rattle.values.specs.Values.{◌>>=◌, need, Values}
use Rattle.entries.specs.Entries.{entry_in_x, entry_in_w}
use Rattle.position.specs.declared.Next.{Next}
use Rattle.position.specs.declared.Top.{Top}

-- In W the positions on each side run 1, 2, 3 in the order written: the next position of a side (0 bids), and the next
-- ones after an entry of it.
abbrev pub next_on : Next → ℕ → ℕ
next_on next side = cond (eqb side 0) next.bid next.offer

abbrev pub next_after : Next → ℕ → Next
next_after next side =
    cond (eqb side 0) (record { bid = next.bid + 1; offer = next.offer }) (record { bid = next.bid; offer = next.offer + 1 })

abbrev pub firsts : Next
firsts = record { bid = 1; offer = 1 }

-- An entry of the group, in an X (279) or a W.
unfoldable pub entry_in : ℕ → Top → Values → Option (Option Update)
entry_in depth t v = cond (eqb t.first 279) (entry_in_x depth v) (entry_in_w depth t.id v)

-- In W an entry stands at the next position of its side.
unfoldable pub at_next : Top → Next → Option Update → Option (Option Update)
at_next t next None = Some None
at_next t next (Some u) = need (eqb t.first 279 || eqb u.place (next_on next u.what)) (Some (Some u))

unfoldable pub entry_next : ℕ → Top → Next → Values → Option (Option Update)
entry_next depth t next v = entry_in depth t v >>= at_next t next

-- The first tag of an entry may stand in it, and bytes that are no field may not.
abbrev pub Fair : Top → Type 0
Fair t = (has t.first (between t.low 20) ≡ true) × (breaks t.first 21 t.low 20 ≡ true)
