-- A writing's tests as the code makes them, and the bound of its answer.
use Rattle.std.specs.Prelude.{Some, None}
use mathlib.Core.Path.{◌≡◌, sym, ap, ◌∙◌}
use mathlib.Core.Bool.{Bool, true, false, cond}
use mathlib.Core.List.{List}
use Prim.Native.Nat.{ℕ, ◌≤◌, ◌<◌}
use native.Mathlib.Omega.{arith}
use lib.Dec.{leb}
use lib.ListN.{length}
use lib.Seq.{length-take-le}
use borrow.Author.Tests.{le-leb, lt-leb}
use Rattle.moment.specs.Moments.{moment_of}
use Rattle.book.specs.declared.Side.{Side}
use Rattle.book.specs.declared.Book.{Book}
use Rattle.book.specs.Canonical.{Kept, held_in, lists_in}
use Rattle.heading.specs.Marks.{marked}
use Rattle.board.specs.Board.{Inst, look, at}
use Rattle.store.specs.Meaning.{State, book_at, inst_at, board_of, board_in, board_at}
use Rattle.store.proofs.Decode.{insts_length, at_board}
use Rattle.sound.specs.Sound.{sound}
use Rattle.snapshot.specs.Snapshot.{Letter}
use Rattle.snapshot.specs.Writing.{letter, Ready}
use Rattle.writer.specs.Writing.{Written, page_of, written_of}
use Rattle.send.specs.Send.{Page, message, refusal, arguments_fine, page_at, sent_page, page_answer, page_out, send_answer, send_out, Sent}
use Rattle.send.proofs.Lengths.{snapshot_most}

-- ---- the answer fits

length_held : (t : Side) → Kept t → length (held_in t) ≤ 20
length_held t k = let f = k.full in let r = k.room in omega (arith, length-take-le t.held t.places (omega arith))

pub page_most : (depth : ℕ) (l : Letter) (id H : ℕ) (b : Book) → Ready l id H b → length (page_of depth l id H b) ≤ 12000
page_most depth l id H b r =
    snapshot_most depth l id H (lists_in b) r.sender r.target (length_held b.bids r.kept.bids) (length_held b.offers r.kept.offers)

pub written_most : (msg out : List ℕ) (w : Written) → w ≡ written_of msg out → length msg ≤ 12000 → (w.answer ≤ 25) × (w.bytes ≤ 12000)
unfolding written_of
written_most msg out w e h = go (leb (length msg) (length out)) e
  where
    go : (t : Bool) → w ≡ cond {A = Written} t (record { answer = 0; bytes = length msg }) (record { answer = 25; bytes = 0 }) → (w.answer ≤ 25) × (w.bytes ≤ 12000)
    go true e = rw e (omega arith, h)
    go false e = rw e (omega arith, omega arith)

-- ---- the instrument

module _ (s : State) (i : ℕ) (l : Letter) (id : ℕ) where
  pub not_followed : s.head.followed ≤ i → page_at i l id (board_in s) ≡ refusal 20
  not_followed h = let e : leb (length (board_in s).insts) i ≡ true = rw (insts_length s) (le-leb s.head.followed i h) in rw e

  followed_by : i < s.head.followed → leb (length (board_in s).insts) i ≡ false
  followed_by h = rw (insts_length s) (lt-leb s.head.followed i h)

  waits_at : i < s.head.followed → (at i (board_in s)).waiting ≡ marked s.head.marks i
  unfolding inst_at
  waits_at h = ap (λ (x : Inst). x.waiting) (at_board i s h)

  pub is_waiting : i < s.head.followed → marked s.head.marks i ≡ true → page_at i l id (board_in s) ≡ refusal 21
  is_waiting h w = let e : (at i (board_in s)).waiting ≡ true = waits_at h ∙ w in rw (followed_by h, e)

  pub is_live : i < s.head.followed → marked s.head.marks i ≡ false
      → page_at i l id (board_in s) ≡ message (page_of s.head.depth l id s.head.number (book_at s.store i))
  unfolding board_of inst_at
  is_live h w =
      let e : (at i (board_in s)).waiting ≡ false = waits_at h ∙ w in
      rw (followed_by h, e, at_board i s h)

-- ---- a call, test by test

module _ (id : ℕ) (sender target : List ℕ) (k m : ℕ) (time room xs : List ℕ) where
  -- what is said of the page is said of the call
  pub sent : (p : Page) → sent_page id sender target k m time xs ≡ p → Sent id sender target k m time room xs (page_answer p room) (page_out p room)
  unfolding send_answer send_out
  sent p e = record { answer = sym (ap (λ (q : Page). page_answer q room) e); out = sym (ap (λ (q : Page). page_out q room) e) }

  pub unsound : sound xs ≡ false → Sent id sender target k m time room xs 17 room
  unfolding sent_page
  unsound s = sent (refusal 17) (rw s)

  pub no_time : sound xs ≡ true → moment_of time ≡ None → Sent id sender target k m time room xs 18 room
  unfolding sent_page
  no_time s e = sent (refusal 18) (rw (s, e))

  pub bad : (t : ℕ) → sound xs ≡ true → moment_of time ≡ Some t → arguments_fine id sender target k m ≡ false → Sent id sender target k m time room xs 18 room
  unfolding sent_page
  bad t s read e = sent (refusal 18) (rw (s, read, e))

  pub good : (t : ℕ) → sound xs ≡ true → moment_of time ≡ Some t → arguments_fine id sender target k m ≡ true
      → (let p = page_at (look id (board_at xs).insts) (letter sender target k m t) id (board_at xs) in Sent id sender target k m time room xs (page_answer p room) (page_out p room))
  unfolding sent_page
  good t s read e = sent (page_at (look id (board_at xs).insts) (letter sender target k m t) id (board_at xs)) (rw (s, read, e))
