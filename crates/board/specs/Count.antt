-- A message with a number, in document 01's order: old, gap, in order; the queue; Live instruments get their entries.
use Rattle.std.specs.Prelude.{Bool, true, false, cond, List, [], ◌∷◌, ◌++◌, map, ℕ, ◌+◌, ◌-◌, ltb, leb, length, get_or, set}
use Rattle.book.specs.Rules.{Lists, empty, Outcome, leaves, breach, is_for_all, for_all, applied}
use Rattle.book.specs.declared.Update.{Update}
use Rattle.board.specs.Board.{Inst, Queued, Board, Out, out, any_waiting, look, no_inst, with_insts, with_queue, broken, let_go, settled}

-- The queue holds at most 256.
abbrev pub most_queued : ℕ
most_queued = 256

-- The index that an entry has on a board: that of its instrument, and 0 where it is for all.
abbrev pub index_of : ℕ → ℕ → ℕ
index_of what i = cond (is_for_all what) 0 i

-- An entry with another index.
abbrev pub to : ℕ → Update → Update
to i u = record { who = index_of u.what i; what = u.what; action = u.action; place = u.place; entry = u.entry }

-- An entry of a message with the index of its instrument for the SecurityID.
abbrev pub aimed : List Inst → Update → Update
aimed xs u = to (look u.who xs) u

-- The entries for followed instruments, as they join the queue; k is how many instruments there are. One for all joins as one entry: its
-- who is 0, and there is an instrument.
unfoldable pub joining : ℕ → ℕ → List Update → List Queued
joining n k [] = []
joining n k (u ∷ us) = cond (ltb u.who k) (record { number = n; update = u } ∷ joining n k us) (joining n k us)

-- A Live instrument gets an entry; a breach breaks it, and as it is Waiting then, its other entries are passed over.
abbrev pub landed : Inst → Outcome Lists → Inst
landed x (leaves b) = record { id = x.id; waiting = x.waiting; reason = x.reason; book = b }
landed x (breach r) = broken x r

unfoldable pub hit : Update → Inst → Inst
hit u x = cond x.waiting x (landed x (applied x.book u))

-- An entry goes to the instrument that it names, one for all to each.
abbrev pub handed : Update → List Inst → List Inst
handed u xs = cond (for_all u) (map (hit u) xs) (set xs u.who (hit u (get_or xs u.who no_inst)))

-- Live instruments get their entries in order.
unfoldable pub give : Update → Board → Board
give u b = with_insts (handed u b.insts) b

unfoldable pub gives : List Update → Board → Board
gives [] b = b
gives (u ∷ us) b = gives us (give u b)

-- H and the heard time are taken.
abbrev pub counted : ℕ → ℕ → Board → Board
counted n heard b = record { depth = b.depth; H = n; B = b.B; heard = heard; insts = b.insts; queue = b.queue }

-- The message's entries join the queue; more than 256 let it go.
abbrev pub longer : ℕ → List Update → Board → List Queued
longer n us b = b.queue ++ joining n (length b.insts) us

abbrev pub overflows : ℕ → List Update → Board → Bool
overflows n us b = ltb most_queued (length (longer n us b))

abbrev pub joined : Bool → ℕ → List Update → Board → Board
joined true n us b = let_go b
joined false n us b = with_queue (longer n us b) b

-- In order. waited: one was Waiting before it; over: the queue would hold more than 256; a is the answer if not.
abbrev pub count_by : Bool → Bool → ℕ → ℕ → ℕ → List Update → Board → Out
count_by false over a n heard us b = out a (settled false (gives us (counted n heard b)))
count_by true over a n heard us b = out (cond over 3 a) (settled true (gives us (joined over n us (counted n heard b))))

unfoldable pub count : ℕ → ℕ → ℕ → List Update → Board → Out
count a n heard us b = count_by (any_waiting b.insts) (overflows n us b) a n heard us b

-- A gap: all Waiting with empty books, reasons kept, queue emptied, B becomes the number less one.
abbrev pub clear : Inst → Inst
clear x = record { id = x.id; waiting = true; reason = x.reason; book = empty }

abbrev pub cleared : ℕ → Board → Board
cleared n b = record { depth = b.depth; H = b.H; B = n - 1; heard = b.heard; insts = map clear b.insts; queue = [] }

-- A number at most H is old; more than H+1 is a gap, and then it is counted as in order.
abbrev pub number_by : Bool → Bool → ℕ → ℕ → List Update → Board → Out
number_by true next n heard us b = out 2 b
number_by false true n heard us b = count 0 n heard us b
number_by false false n heard us b = count 1 n heard us (cleared n b)

unfoldable pub number : ℕ → ℕ → List Update → Board → Out
number n heard us b = number_by (leb n b.H) (leb n (b.H + 1)) n heard us b
