-- The record of a loop of snapshots (document 02, K1): well-formed W messages with 34 = 1, 2, up to 911 in a row, with one 911
-- throughout.
use Rattle.std.specs.Prelude.{Bool, cond, ◌&&◌, ℕ, ◌+◌, leb, ltb, eqb}
use Rattle.message.specs.Message.{Head}
use Rattle.heading.specs.Marks.{with_mark}
use Rattle.loops.specs.declared.Loop.{Loop}

-- The record of four numbers; where no loop runs they are zero.
abbrev pub loop_of : ℕ → ℕ → ℕ → ℕ → Loop
loop_of loops come low named = record { loops = loops; come = come; low = low; named = named }

abbrev pub no_loop : Loop
no_loop = loop_of 0 0 0 0

-- The names with the instrument at index i of n, for which the W is; one that is not followed has the index n, and adds no name.
unfoldable pub with_name : ℕ → ℕ → ℕ → ℕ
with_name n i named = cond (leb n i) named (with_mark named i)

unfoldable pub lower : ℕ → ℕ → ℕ
lower a b = cond (ltb a b) a b

-- A W with 34 = 1 begins a loop.
abbrev pub begun : Head → ℕ → ℕ → Loop
begun h n i = record { loops = h.loops; come = 1; low = h.last; named = with_name n i 0 }

-- The next of the row has the next 34 and the same 911.
abbrev pub is_next : Head → Loop → Bool
is_next h l = eqb h.number (l.come + 1) && eqb h.loops l.loops

abbrev pub grown : Head → ℕ → ℕ → Loop → Loop
grown h n i l = record { loops = l.loops; come = l.come + 1; low = lower l.low h.last; named = with_name n i l.named }

-- A W has come: any but the next drops the record, and begins a new one if its 34 is 1.
unfoldable pub in_row : Head → ℕ → ℕ → Loop → Loop
in_row h n i l = cond (eqb h.number 1) (begun h n i) (cond (is_next h l) (grown h n i l) no_loop)

-- As many have come as 911 says.
unfoldable pub is_whole : Loop → Bool
is_whole l = ltb 0 l.loops && eqb l.come l.loops
