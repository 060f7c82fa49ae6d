-- A writing (document 01, "Quote and writing"): what a snapshot of an instrument of a store answers, and the bytes that it leaves.
use Rattle.std.specs.Prelude.{Option, Some, None}
use Rattle.std.specs.Prelude.{◌≡◌, Bool, cond, ◌&&◌, List, ℕ, ◌+◌, ◌*◌, leb, length}
use Rattle.moment.specs.Moments.{moment_of}
use Rattle.orderid.specs.OrderIds.{is_id}
use Rattle.board.specs.Board.{Board, look, at}
use Rattle.board.specs.Ranges.{id_fine}
use Rattle.store.specs.Meaning.{board_at}
use Rattle.sound.specs.Sound.{sound}
use Rattle.snapshot.specs.Snapshot.{Letter, snapshot_bytes}
use Rattle.snapshot.specs.Writing.{letter}
use Rattle.writer.specs.Writing.{Written, written_of, out_after}

-- What a writing comes to before the output's room is looked at: a message, or the number of a refusal.
pub data Page : Type 0 where
  message : List ℕ → Page
  refusal : ℕ → Page

-- A loop has at most 16 messages.
abbrev pub most_loop : ℕ
most_loop = 16

-- An instrument's SecurityID, sender and target (1 to 16 bytes as in 37), k and m with 1 ≤ k ≤ m ≤ 16.
unfoldable pub arguments_fine : ℕ → List ℕ → List ℕ → ℕ → ℕ → Bool
arguments_fine id sender target k m = id_fine id && (is_id sender && (is_id target && (leb 1 k && (leb k m && leb m most_loop))))

-- The snapshot of the instrument at index i: 20 for none, 21 for one that is Waiting, else the book with 369 = H.
abbrev pub page_at : ℕ → Letter → ℕ → Board → Page
page_at i l id b =
    cond (leb (length b.insts) i) (refusal 20)
    (cond (at i b).waiting (refusal 21) (message (snapshot_bytes b.depth l id b.H (at i b).book)))

-- An argument outside its range is 18; the time is shaped as tag 52.
abbrev pub page_for : Option ℕ → ℕ → List ℕ → List ℕ → ℕ → ℕ → Board → Page
page_for None id sender target k m b = refusal 18
page_for (Some time) id sender target k m b =
    cond (arguments_fine id sender target k m) (page_at (look id b.insts) (letter sender target k m time) id b) (refusal 18)

-- 17 comes first.
unfoldable pub sent_page : ℕ → List ℕ → List ℕ → ℕ → ℕ → List ℕ → List ℕ → Page
sent_page id sender target k m time xs = cond (sound xs) (page_for (moment_of time) id sender target k m (board_at xs)) (refusal 17)

-- The answer and 256 times the length in one number; a refusal carries length 0.
abbrev pub written_number : Written → ℕ
written_number w = w.answer + 256 * w.bytes

abbrev pub page_answer : Page → List ℕ → ℕ
page_answer (message bytes) out = written_number (written_of bytes out)
page_answer (refusal n) out = n

-- The message first and later bytes unchanged; a refusal leaves all as it was.
abbrev pub page_out : Page → List ℕ → List ℕ
page_out (message bytes) out = out_after bytes out
page_out (refusal n) out = out

-- What a writing of the store xs into out answers, and the bytes that it leaves.
unfoldable pub send_answer : ℕ → List ℕ → List ℕ → ℕ → ℕ → List ℕ → List ℕ → List ℕ → ℕ
send_answer id sender target k m time out xs = page_answer (sent_page id sender target k m time xs) out

unfoldable pub send_out : ℕ → List ℕ → List ℕ → ℕ → ℕ → List ℕ → List ℕ → List ℕ → List ℕ
send_out id sender target k m time out xs = page_out (sent_page id sender target k m time xs) out

-- What a call answers, and what ys it leaves of the room.
pub record Sent (id : ℕ) (sender target : List ℕ) (k m : ℕ) (time room xs : List ℕ) (r : ℕ) (ys : List ℕ) : Type 0 where
  pub answer : r ≡ send_answer id sender target k m time room xs
  pub out : ys ≡ send_out id sender target k m time room xs
