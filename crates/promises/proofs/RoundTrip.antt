-- A book we write as a snapshot reads back as the same book. Assumes nothing.
use Rattle.std.specs.Prelude.{Option, Some, None}
use mathlib.Core.Path.{◌≡◌, refl, sym, ap, ◌∙◌, subst}
use mathlib.Core.Bool.{Bool, true, false, cond, ◌&&◌}
use mathlib.Core.List.{List}
use Prim.Native.Nat.{ℕ, ◌*◌, ◌≤◌, ◌<◌}
use native.Mathlib.Omega.{arith}
use borrow.Author.Tests.{leb-true, leb-false}
use lib.Dec.{leb}
use lib.ListN.{length, take}
use Rattle.digits.proofs.Width.{both}
use Rattle.moment.specs.Moments.{moment_of}
use Rattle.moment.proofs.Bounds.{moment_lt}
use Rattle.orderid.specs.OrderIds.{is_id}
use Rattle.book.specs.Rules.{Lists}
use Rattle.book.specs.declared.Update.{Update}
use Rattle.board.specs.Board.{Inst, Board, out, look, at, no_inst}
use Rattle.message.specs.Message.{Message, Head, snapshot}
use Rattle.board.specs.Feed.{feed}
use Rattle.board.specs.Ranges.{id_fine}
use Rattle.board.specs.Sound.{SoundInst}
use Rattle.board.proofs.Each.{each_at}
use Rattle.board.proofs.Staying.{same_feed}
use Rattle.loops.specs.Channel.{Channel, given}
use Rattle.loops.proofs.Laws.{own_stays}
use Rattle.fields.specs.Messages.{message_in}
use Rattle.store.specs.Meaning.{board_at, channel_at}
use Rattle.sound.specs.Sound.{sound}
use Rattle.sound.proofs.Laws.{sound_is_canon}
use Rattle.snapshot.specs.Snapshot.{snapshot_bytes}
use Rattle.snapshot.specs.Writing.{letter}
use Rattle.writer.specs.Writing.{written_of, out_after}
use Rattle.writer.proofs.Promise.{starts}
use Rattle.feed.specs.Feeding.{fed}
use Rattle.feed.proofs.Laws.{feed_is_channel}
use Rattle.send.specs.Send.{message, refusal, most_loop, arguments_fine, page_at, page_for, sent_page, written_number, page_answer, page_out, send_answer, send_out}
use Rattle.roundtrip.specs.ReadBack.{InRange}
use Rattle.roundtrip.specs.TakenBack.{Taken}
use Rattle.roundtrip.proofs.Lengths.{page_sized}
use Rattle.roundtrip.proofs.RoundTrip.{read_back}
use Rattle.roundtrip.proofs.TakenBack.{taken_back}
use Rattle.promises.specs.RoundTrip.{SameBook, RoundTrip}
use Rattle.book.specs.Ids.{most_id}

-- ---- what is taken stays taken at the end of a loop

taken_looped : (book : Lists) (h : Head) (us : List Update) (c : Channel) → length c.board.insts ≤ 16
    → Taken h.id book (feed (snapshot h us) c.board)
    → Taken h.id book (out (given (snapshot h us) c).answer (given (snapshot h us) c).channel.board)
unfolding given
taken_looped book h us c few t =
    let o = own_stays h c.loop c.board (feed (snapshot h us) c.board).board (same_feed (snapshot h us) c.board) few in
    record {
      answer = t.answer;
      live = ap (λ (x : Inst). x.waiting) o ∙ t.live;
      book = ap (λ (x : Inst). x.book) o ∙ t.book;
    }

-- ---- a page that is a message
module _ (id : ℕ) (sender target : List ℕ) (k m : ℕ) (time xs : List ℕ) where
  abbrev b : Board
  b = board_at xs

  abbrev i : ℕ
  i = look id b.insts

  -- what its arguments and the store are
  pub record Paged (bytes : List ℕ) : Type 0 where
    pub store : sound xs ≡ true
    pub sent : ℕ
    pub read : moment_of time ≡ Some sent
    pub fine : arguments_fine id sender target k m ≡ true
    pub followed : leb (length b.insts) i ≡ false
    pub same : snapshot_bytes b.depth (letter sender target k m sent) id b.H (at i b).book ≡ bytes

  in_range : (bytes : List ℕ) (p : Paged bytes) → InRange b.depth (letter sender target k m p.sent) id b.H (at i b).book
  unfolding arguments_fine
  in_range bytes p =
      let s = (sound_is_canon xs p.store).1 in
      let x = each_at (SoundInst b.depth) b.insts i no_inst s.each (leb-false (length b.insts) i p.followed) in
      let a = both (id_fine id) (is_id sender && (is_id target && (leb 1 k && (leb k m && leb m most_loop)))) p.fine in
      let c = both (is_id sender) (is_id target && (leb 1 k && (leb k m && leb m most_loop))) a.1 in
      let d = both (is_id target) (leb 1 k && (leb k m && leb m most_loop)) c.1 in
      let e = both (leb 1 k) (leb k m && leb m most_loop) d.1 in
      let f = both (leb k m) (leb m most_loop) e.1 in
      let w = both (leb 1 id) (leb id most_id) a.0 in
      record {
        sender = c.0;
        target = d.0;
        k_low = leb-true 1 k e.0;
        k_high = leb-true k m f.0;
        m_high = leb-true m most_loop f.1;
        time = moment_lt time p.read;
        id_low = leb-true 1 id w.0;
        id_high = leb-true id most_id w.1;
        last = s.last;
        bids = x.bids;
        offers = x.offers;
      }

  same_book : (bytes : List ℕ) → Paged bytes → SameBook xs id k m time bytes
  unfolding fed
  same_book bytes p =
      let l = letter sender target k m p.sent in
      let r = in_range bytes p in
      let t = read_back b.depth l id b.H (at i b).book r in
      record {
        sent = p.sent;
        at_time = p.read;
        message = ap (message_in b.depth) (sym p.same) ∙ t.message;
        entries = t.book;
        sized = rw (sym p.same) (page_sized b.depth l id b.H (at i b).book r);
        taken = λ ys q kind w.
            let e : message_in (board_at ys).depth bytes ≡ message_in b.depth (snapshot_bytes b.depth l id b.H (at i b).book) =
            ap (λ (d : ℕ). message_in d bytes) kind ∙ ap (message_in b.depth) (sym p.same) in
            record {
              taken = subst (λ (x : Message). Taken id (at i b).book (out (given x (channel_at ys)).answer (given x (channel_at ys)).channel.board)) (sym (e ∙ t.message))
                  (taken_looped (at i b).book _ _ (channel_at ys) (sound_is_canon ys q).1.few
                  (subst (λ (x : Message). Taken id (at i b).book (feed x (board_at ys))) t.message (taken_back b.depth l id b.H (at i b).book r (board_at ys) w)));
              after = feed_is_channel bytes ys q;
            };
      }

  -- ---- an answer 0 with a length is a message
  from_message : (bytes out : List ℕ) (n : ℕ) → Paged bytes → page_answer (message bytes) out ≡ 256 * n
      → SameBook xs id k m time (take n (page_out (message bytes) out))
  unfolding written_of
  from_message bytes out n p = go (leb (length bytes) (length out)) refl
    where
      go : (z : Bool) → leb (length bytes) (length out) ≡ z
          → written_number (cond z (record { answer = 0; bytes = length bytes }) (record { answer = 25; bytes = 0 })) ≡ 256 * n
          → SameBook xs id k m time (take n (page_out (message bytes) out))
      go true q e =
          let l : length bytes ≡ n = omega (arith, e) in
          let s : take n (out_after bytes out) ≡ bytes = rw (sym l) (starts bytes out (leb-true (length bytes) (length out) q)) in
          rw s (same_book bytes p)
      go false q e = absurd (omega (arith, e))

  no_message : {A : Type 0} (r n : ℕ) → 0 < r → r < 256 → r ≡ 256 * n → A
  no_message r n p q e = absurd (omega (arith, p, q, e))

  at_page : (out : List ℕ) (n : ℕ) → page_answer (sent_page id sender target k m time xs) out ≡ 256 * n
      → SameBook xs id k m time (take n (page_out (sent_page id sender target k m time xs) out))
  unfolding sent_page
  at_page out n = go (sound xs) (moment_of time) refl refl
    where
      live : (t : ℕ) → sound xs ≡ true → moment_of time ≡ Some t → arguments_fine id sender target k m ≡ true → leb (length b.insts) i ≡ false
          → (w : Bool) → page_answer (cond w (refusal 21) (message (snapshot_bytes b.depth (letter sender target k m t) id b.H (at i b).book))) out ≡ 256 * n
          → SameBook xs id k m time (take n (page_out (cond w (refusal 21) (message (snapshot_bytes b.depth (letter sender target k m t) id b.H (at i b).book))) out))
      live t s r f l true e = no_message 21 n (omega arith) (omega arith) e
      live t s r f l false e =
          from_message (snapshot_bytes b.depth (letter sender target k m t) id b.H (at i b).book) out n
          (record { store = s; sent = t; read = r; fine = f; followed = l; same = refl }) e

      there : (t : ℕ) → sound xs ≡ true → moment_of time ≡ Some t → arguments_fine id sender target k m ≡ true → (z : Bool) → leb (length b.insts) i ≡ z
          → page_answer (cond z (refusal 20) (cond (at i b).waiting (refusal 21) (message (snapshot_bytes b.depth (letter sender target k m t) id b.H (at i b).book)))) out ≡ 256 * n
          → SameBook xs id k m time (take n (page_out (cond z (refusal 20) (cond (at i b).waiting (refusal 21) (message (snapshot_bytes b.depth (letter sender target k m t) id b.H (at i b).book)))) out))
      there t s r f true l e = no_message 20 n (omega arith) (omega arith) e
      there t s r f false l e = live t s r f l (at i b).waiting e

      fine : (t : ℕ) → sound xs ≡ true → moment_of time ≡ Some t → (z : Bool) → arguments_fine id sender target k m ≡ z
          → page_answer (cond z (page_at i (letter sender target k m t) id b) (refusal 18)) out ≡ 256 * n
          → SameBook xs id k m time (take n (page_out (cond z (page_at i (letter sender target k m t) id b) (refusal 18)) out))
      fine t s r true f e = there t s r f (leb (length b.insts) i) refl e
      fine t s r false f e = no_message 18 n (omega arith) (omega arith) e

      go : (s : Bool) (t : Option ℕ) → sound xs ≡ s → moment_of time ≡ t → page_answer (cond s (page_for t id sender target k m b) (refusal 17)) out ≡ 256 * n
          → SameBook xs id k m time (take n (page_out (cond s (page_for t id sender target k m b) (refusal 17)) out))
      go false t s r e = no_message 17 n (omega arith) (omega arith) e
      go true None s r e = no_message 18 n (omega arith) (omega arith) e
      go true (Some t) s r e = fine t s r (arguments_fine id sender target k m) refl e

pub round_trip : RoundTrip
unfolding send_answer send_out
round_trip xs id sender target k m time out n e = at_page id sender target k m time xs out n e
