-- What the methods of a heading leave.
use Rattle.std.specs.Prelude.{ℕ, ◌+◌, ◌-◌}
use Rattle.heading.specs.declared.Heading.{Heading}
use Rattle.heading.specs.Marks.{all_marks}

abbrev pub counted_to : Heading → ℕ → ℕ → Heading
counted_to h n heard =
    record { depth = h.depth; followed = h.followed; number = n; base = h.base; heard = heard; marks = h.marks; queued = h.queued }

abbrev pub let_go : Heading → Heading
let_go h =
    record { depth = h.depth; followed = h.followed; number = h.number; base = h.number; heard = h.heard; marks = h.marks; queued = 0 }

abbrev pub gap_at : Heading → ℕ → Heading
gap_at h n =
    record { depth = h.depth; followed = h.followed; number = h.number; base = n - 1; heard = h.heard; marks = all_marks h.followed; queued = 0 }

abbrev pub marks_now : Heading → ℕ → Heading
marks_now h m =
    record { depth = h.depth; followed = h.followed; number = h.number; base = h.base; heard = h.heard; marks = m; queued = h.queued }

abbrev pub queued_more : Heading → Heading
queued_more h =
    record { depth = h.depth; followed = h.followed; number = h.number; base = h.base; heard = h.heard; marks = h.marks; queued = h.queued + 1 }
