-- The board, in document 01's words: instruments with their marks and books, H, B, the heard moment and the queue.
use Rattle.std.specs.Prelude.{Bool, true, false, cond, ◌||◌, List, [], ◌∷◌, map, ℕ, ◌+◌, eqb, get_or, set}
use Rattle.book.specs.Rules.{Lists, empty, is_for}
use Rattle.book.specs.declared.Update.{Update}

-- A followed instrument: its SecurityID, whether it is Waiting (else Live), why it last broke (0, 1 or 2), its book.
pub record Inst : Type 0 where
  pub id : ℕ
  pub waiting : Bool
  pub reason : ℕ
  pub book : Lists

-- A queued entry: the number of its message, and what it says; who is the instrument's index, and 0 where it is for all.
pub record Queued : Type 0 where
  pub number : ℕ
  pub update : Update

-- H is the last counted number, B the number after which the queue is complete; heard is the moment of the message H.
-- depth is 0 on an order-depth channel and 1 on a price-depth one.
pub record Board : Type 0 where
  pub depth : ℕ
  pub H : ℕ
  pub B : ℕ
  pub heard : ℕ
  pub insts : List Inst
  pub queue : List Queued

-- What a call answers, and the board it leaves.
pub record Out : Type 0 where
  pub answer : ℕ
  pub board : Board

abbrev pub out : ℕ → Board → Out
out a b = record { answer = a; board = b }

-- At opening: H and B are 0, all instruments Waiting with reason 0 and empty books.
abbrev pub fresh : ℕ → Inst
fresh d = record { id = d; waiting = true; reason = 0; book = empty }

abbrev pub opened : ℕ → List ℕ → Board
opened depth ids = record { depth = depth; H = 0; B = 0; heard = 0; insts = map fresh ids; queue = [] }

-- The SecurityIDs, in order.
abbrev pub ids_of : List Inst → List ℕ
ids_of xs = map (λ (x : Inst). x.id) xs

-- Whether any is Waiting, and how many.
unfoldable pub any_waiting : List Inst → Bool
any_waiting [] = false
any_waiting (x ∷ xs) = x.waiting || any_waiting xs

unfoldable pub waiting_in : List Inst → ℕ
waiting_in [] = 0
waiting_in (x ∷ xs) = cond x.waiting 1 0 + waiting_in xs

-- The index of the instrument with this SecurityID, or how many instruments there are.
unfoldable pub look : ℕ → List Inst → ℕ
look d [] = 0
look d (x ∷ xs) = cond (eqb x.id d) 0 (look d xs + 1)

-- An entry speaks of the instruments that it is for.
abbrev pub speaks_of : ℕ → Update → Bool
speaks_of d u = is_for d u.who u.what

-- The instrument at an index.
abbrev pub no_inst : Inst
no_inst = fresh 0

abbrev pub at : ℕ → Board → Inst
at i b = get_or b.insts i no_inst

abbrev pub with_insts : List Inst → Board → Board
with_insts xs b = record { depth = b.depth; H = b.H; B = b.B; heard = b.heard; insts = xs; queue = b.queue }

abbrev pub with_queue : List Queued → Board → Board
with_queue q b = record { depth = b.depth; H = b.H; B = b.B; heard = b.heard; insts = b.insts; queue = q }

abbrev pub put : ℕ → Inst → Board → Board
put i x b = with_insts (set b.insts i x) b

-- A breach breaks the instrument: both sides emptied, mark Waiting, the reason.
abbrev pub broken : Inst → ℕ → Inst
broken x r = record { id = x.id; waiting = true; reason = r; book = empty }

-- The queue is let go: it is emptied, and B becomes H.
abbrev pub let_go : Board → Board
let_go b = record { depth = b.depth; H = b.H; B = b.H; heard = b.heard; insts = b.insts; queue = [] }

-- Whenever none waits at the end of a call, and whenever none waited before a message in which one breaks, the queue is
-- empty and B equals H: it stays only where one waited before and one waits after.
abbrev pub settled : Bool → Board → Board
settled false b = let_go b
settled true b = cond (any_waiting b.insts) b (let_go b)
