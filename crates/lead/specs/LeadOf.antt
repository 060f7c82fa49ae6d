-- What leads to the entries, to the last number. Assumes nothing.
use Rattle.std.specs.Prelude.{Option, Some}
use Rattle.std.specs.Prelude.{ℕ, ◌+◌, cond, List, eqb, length}
use Rattle.digits.specs.Digits.{ranged_of}
use Rattle.message.specs.declared.Kind.{Kind}
use Rattle.message.specs.declared.Kind.TheVariants.{Numbered, Snapshot}
use Rattle.chain.specs.Places.{part, field_at, left}
use Rattle.tags.specs.Slots.{no_marks, marked}
use Rattle.place.specs.Places.{passed}
use Rattle.place.specs.Walks.{walk_on}
use Rattle.values.specs.Values.{◌>>=◌}
use Rattle.position.specs.declared.Top.{Top}
use Rattle.lead.specs.Leads.{top_x, top_by, head_end}
use Rattle.lead.specs.declared.Lead.{Lead}

-- The group from 268 on: the field that stands there, and the number that it says.
unfoldable pub counted_lead : List ℕ → ℕ → Kind → Top → Option Lead
counted_lead s start kind t =
    field_at s start >>= λ f.
    ranged_of 2 0 64 (part f.from f.to s) >>= λ n.
    Some (record { kind = kind; top = t; at = f.to + 1; count = n })

-- X and W: the place before 268, what the type needs of it, then the group.
unfoldable pub group_lead : Kind → List ℕ → Option Lead
group_lead kind s =
    passed (walk_on 268 21 4 (head_end kind) 0 no_marks (left s 0)) >>= λ p.
    top_by kind (marked s p.marks) >>= λ t.
    counted_lead s p.at kind t

-- 0, f, y, B: the place before 268, the rest, then the number and the time. Without a group the entries start at the end,
-- and none is counted.
unfoldable pub other_lead : List ℕ → Option Lead
other_lead s =
    passed (walk_on 268 6 4 6 0 no_marks (left s 0)) >>= λ p.
    passed (walk_on 0 6 0 0 p.at no_marks (left s p.at)) >>= λ q.
    top_x (marked s p.marks) >>= λ t.
    Some (record { kind = Numbered; top = t; at = length s; count = 0 })

-- By the type: X (88), W (87), or another.
abbrev pub lead_of : ℕ → List ℕ → Option Lead
lead_of kind s = cond (eqb kind 88) (group_lead Numbered s) (cond (eqb kind 87) (group_lead Snapshot s) (other_lead s))
