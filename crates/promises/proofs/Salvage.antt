-- What the walk of a recording promises of the other calls. Assumes nothing.
use Rattle.std.specs.Prelude.{Option, Some, None, Result, Ok, Err}
use mathlib.Core.Path.{◌≡◌, refl, sym, ap, ◌∙◌}
use mathlib.Core.Bool.{Bool, true, false, cond, not, false≢true}
use mathlib.Core.List.{List, [], ◌∷◌}
use Prim.Native.Nat.{ℕ, ◌+◌, ◌*◌, ◌≤◌, ◌<◌}
use native.Mathlib.Omega.{arith}
use native.Mathlib.Nat.{mod-eq_of_lt, add-mul-mod_self_left}
use borrow.Author.Tests.{leb-true, ne_eqb}
use lib.Dec.{leb}
use lib.ListN.{take, drop}
use Rattle.digits.proofs.Width.{both}
use Rattle.frame.specs.Frames.{frame_of, body_of}
use Rattle.frame.specs.declared.Framed.{Framed}
use Rattle.frame.specs.declared.FrameError.{FrameError}
use Rattle.message.specs.Message.{Message, numbered, snapshot, refused}
use Rattle.board.specs.Board.{Board, waiting_in}
use Rattle.board.specs.Feed.{feed}
use Rattle.board.proofs.Answers.{answers_in_table}
use Rattle.lead.specs.Messages.{typed_as, or_bad_fields}
use Rattle.fields.specs.Messages.{framed_as, message_in}
use Rattle.fields.proofs.Unbroken.{is_read, typed_well}
use Rattle.stretch.specs.Stretches.{passes}
use Rattle.salvage.specs.Pieces.{Piece, message, passed, pieces, Messages}
use Rattle.salvage.proofs.Laws.{walk_is_whole, whole_taken}
use Rattle.loops.proofs.Laws.{answer_is_own}
use Rattle.store.specs.Meaning.{board_at, channel_at}
use Rattle.sound.specs.Sound.{sound}
use Rattle.feed.specs.Feeding.{fed, feed_answer}
use Rattle.send.specs.Send.{send_answer, send_out}
use Rattle.promises.specs.Salvage.{refused_by, Stands, SalvagePromises}
use Rattle.promises.proofs.RoundTrip.{round_trip}

-- ---- the number that a message is answered
small : (a : ℕ) → a ≤ 10 → refused_by a ≡ false
small a l =
    let h : a < 256 = omega arith in
    rw (mod-eq_of_lt h, ne_eqb a 11 (λ e. omega (arith, e)), ne_eqb a 12 (λ e. omega (arith, e)))

read_small : (m : Message) (b : Board) → is_read m ≡ true → refused_by (feed m b).answer ≡ false
read_small (numbered n heard us) b h =
    let a = (feed (numbered n heard us) b).answer in
    small a (omega (arith, leb-true a 3 (answers_in_table (numbered n heard us) b)))
read_small (snapshot s us) b h =
    let a = (feed (snapshot s us) b).answer in
    small a (leb-true a 10 (both (leb 4 a) (leb a 10) (answers_in_table (snapshot s us) b)).1)
read_small (refused why) b h = absurd (false≢true h)

framed_alike : (depth : ℕ) (s : List ℕ) (f : Result Framed FrameError) (b : Board) → passes f ≡ not (refused_by (feed (framed_as depth s f) b).answer)
unfolding feed or_bad_fields
framed_alike depth s (Err FrameError.BadFrame) b = refl
framed_alike depth s (Err FrameError.BadSum) b = refl
framed_alike depth s (Err FrameError.BadType) b = refl
framed_alike depth s (Ok f) b = body (typed_as depth f.kind (body_of s)) refl
  where
    body : (o : Option Message) → typed_as depth f.kind (body_of s) ≡ o → true ≡ not (refused_by (feed (or_bad_fields o) b).answer)
    body None e = refl
    body (Some m) e = rw (read_small m b (typed_well (body_of s) depth f.kind e).read)

passing : (bytes xs : List ℕ) → sound xs ≡ true → passes (frame_of bytes) ≡ not (refused_by (feed_answer bytes xs))
unfolding feed_answer fed message_in
passing bytes xs h =
    let b = board_at xs in
    let o = fed bytes (channel_at xs) in
    rw (h, add-mul-mod_self_left o.answer 256 (waiting_in o.channel.board.insts), answer_is_own (framed_as b.depth bytes (frame_of bytes)) (channel_at xs))
    (framed_alike b.depth bytes (frame_of bytes) b)

-- ---- the messages of a walk
never : (bytes xs : List ℕ) → passes (frame_of bytes) ≡ true → refused_by (feed_answer bytes xs) ≡ false
unfolding feed_answer
never bytes xs h = go (sound xs) refl
  where
    off : (z : Bool) → true ≡ not z → z ≡ false
    off true e = absurd (false≢true (sym e))
    off false e = refl

    go : (z : Bool) → sound xs ≡ z → refused_by (cond z ((fed bytes (channel_at xs)).answer + 256 * waiting_in (fed bytes (channel_at xs)).channel.board.insts) 17) ≡ false
    go true q = off (refused_by ((fed bytes (channel_at xs)).answer + 256 * waiting_in (fed bytes (channel_at xs)).channel.board.insts)) (sym h ∙ rw q at (passing bytes xs q))
    go false q = refl

each_message : (rec : List ℕ) (ps : List Piece) → Messages (λ p n. passes (frame_of (take n (drop p rec))) ≡ true) ps
    → Messages (λ p n. (xs : List ℕ) → refused_by (feed_answer (take n (drop p rec)) xs) ≡ false) ps
each_message rec [] h = tt
each_message rec (message p n ∷ ps) h = (λ xs. never (take n (drop p rec)) xs h.0, each_message rec ps h.1)
each_message rec (passed p n ∷ ps) h = each_message rec ps h

-- ---- what we write
read_passes : (depth : ℕ) (s : List ℕ) (f : Result Framed FrameError) → is_read (framed_as depth s f) ≡ true → passes f ≡ true
read_passes depth s (Err FrameError.BadFrame) h = absurd (false≢true h)
read_passes depth s (Err FrameError.BadSum) h = absurd (false≢true h)
read_passes depth s (Err FrameError.BadType) h = refl
read_passes depth s (Ok f) h = refl

written_stands : (xs : List ℕ) (id : ℕ) (sender target : List ℕ) (k m : ℕ) (time out : List ℕ) (n : ℕ) (rest : List ℕ)
    → send_answer id sender target k m time out xs ≡ 256 * n
    → Stands (take n (send_out id sender target k m time out xs)) rest
unfolding message_in
written_stands xs id sender target k m time out n rest e =
    let bytes = take n (send_out id sender target k m time out xs) in
    let x = round_trip xs id sender target k m time out n e in
    whole_taken bytes rest (read_passes (board_at xs).depth bytes (frame_of bytes) (ap is_read x.message))

pub salvage_promises : SalvagePromises
salvage_promises =
    record {
      passing = passing;
      feeding = λ rec from l. each_message rec (pieces rec from) (walk_is_whole rec from l).good;
      writing = written_stands;
    }
