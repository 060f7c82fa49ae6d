-- What is shown of a message on a store. Assumes nothing.
use mathlib.Core.Path.{◌≡◌, refl, sym, ap, ◌∙◌}
use mathlib.Core.Bool.{Bool, true, false, cond, false≢true}
use mathlib.Core.List.{List, ◌++◌}
use Prim.Native.Nat.{ℕ, ◌+◌, ◌*◌, ◌%◌, ◌≤◌}
use native.Mathlib.Nat.{mod-eq_of_lt, add-mul-mod_self_left}
use native.Mathlib.Omega.{arith}
use borrow.Author.Tests.{leb-true, ltb-true, ltb-false, le-leb, lt-leb, ne_eqb}
use lib.Dec.{leb, ltb}
use lib.ListN.{length, drop, length-append, length-drop, take-append-drop}
use lib.Seq.{drop-append_seam}
use Rattle.book.specs.declared.Update.{Update}
use Rattle.message.specs.Message.{Message, Head, numbered, snapshot, refused}
use Rattle.board.specs.Board.{Board, waiting_in}
use Rattle.board.specs.Feed.{feed}
use Rattle.board.specs.Laws.{answers_to}
use Rattle.board.specs.Ranges.{within}
use Rattle.board.proofs.Answers.{answers_in_table}
use Rattle.board.proofs.Tested.{both, within_true}
use Rattle.loops.specs.Channel.{Reply, joined_by, rounded, given}
use Rattle.loops.specs.Laws.{touches}
use Rattle.loops.specs.Sound.{sound_channel}
use Rattle.loops.proofs.Laws as loops
use Rattle.loops.proofs.Laws.{keeps_sound, answer_is_own, refused_rounds}
use Rattle.loops.proofs.Sounding.{channel_tested}
use Rattle.fields.specs.Messages.{message_in}
use Rattle.inrange.proofs.Read.{read_in_range}
use Rattle.store.specs.Layout.{store_size}
use Rattle.store.specs.Meaning.{board_at, loop_at, channel_at, written}
use Rattle.sound.specs.Sound.{sound}
use Rattle.sound.proofs.Laws.{parts, sound_is_written, written_length, written_reads_back, written_is_sound}
use Rattle.feed.specs.Feeding.{fed, feed_answer, feed_store}
use Rattle.feed.specs.Laws.{FeedKeepsSound, FeedIsChannel, RefusedStays, Looped, RefusedLoops, BeyondStays, FeedSettled}

long_of : (xs : List ℕ) → sound xs ≡ true → store_size ≤ length xs
long_of xs h = (parts xs h).long

after_sound : (bytes xs : List ℕ) → sound xs ≡ true → sound_channel (fed bytes (channel_at xs)).channel ≡ true
unfolding fed
after_sound bytes xs h =
    channel_tested (fed bytes (channel_at xs)).channel
    (keeps_sound (message_in (board_at xs).depth bytes) (channel_at xs) (parts xs h).channel (read_in_range (board_at xs).depth bytes))

pub feed_keeps_sound : FeedKeepsSound
unfolding feed_store
feed_keeps_sound bytes xs h = rw h (written_is_sound (fed bytes (channel_at xs)).channel (drop store_size xs) (after_sound bytes xs h))

pub feed_is_channel : FeedIsChannel
unfolding feed_store
feed_is_channel bytes xs h = rw h (written_reads_back (fed bytes (channel_at xs)).channel (drop store_size xs) (after_sound bytes xs h))

-- the numbers that change the store are below 256
low : (a : ℕ) → touches (a % 256) ≡ false → touches a ≡ false
low a h = go (ltb a 256) refl
  where
    go : (z : Bool) → ltb a 256 ≡ z → touches a ≡ false
    go true q = rw (mod-eq_of_lt (ltb-true a 256 q)) at h
    go false q =
        let l : 256 ≤ a = ltb-false a 256 q in
        rw (ne_eqb a 0 (λ e. omega (arith, e)), ne_eqb a 1 (λ e. omega (arith, e)), ne_eqb a 3 (λ e. omega (arith, e)), le-leb 4 a (omega arith), lt-leb a 10 (omega arith))

-- the number below the count
below : (a n : ℕ) → a ≤ 25 → (a + 256 * n) % 256 ≡ a
below a n l = add-mul-mod_self_left a 256 n ∙ mod-eq_of_lt (omega arith)

pub refused_stays : RefusedStays
unfolding feed_answer feed_store fed
refused_stays bytes xs = go (sound xs) refl
  where
    o : Reply
    o = fed bytes (channel_at xs)

    go : (z : Bool) → sound xs ≡ z → touches (cond z (o.answer + 256 * waiting_in o.channel.board.insts) 17 % 256) ≡ false
        → cond z (written o.channel ++ drop store_size xs) xs ≡ xs
    go true q h =
        let n : touches o.answer ≡ false = low o.answer (rw (add-mul-mod_self_left o.answer 256 (waiting_in o.channel.board.insts)) at h) in
        rw (loops.refused_stays (message_in (board_at xs).depth bytes) (channel_at xs) n, sym (sound_is_written xs q)) (take-append-drop store_size xs)
    go false q h = refl

-- 01's table ends at 14 for a message
pub in_table : (m : Message) (b : Board) → (feed m b).answer ≤ 25
in_table m b = go m (answers_in_table m b)
  where
    go : (k : Message) {n : ℕ} → answers_to k n ≡ true → n ≤ 25
    go (numbered j heard us) {n} q = omega (arith, leb-true n 3 q)
    go (snapshot j us) {n} q = omega (arith, leb-true n 10 (both (leb 4 n) (leb n 10) q).1)
    go (refused why) {n} q = omega (arith, leb-true n 14 (both (leb 11 n) (leb n 14) q).1)

-- only a W answers 5 to 9
by_five : (m : Message) (a : ℕ) (P : Type 0) → answers_to m a ≡ true → within 5 9 a ≡ true → ((h : Head) (us : List Update) → m ≡ snapshot h us → P) → P
by_five (numbered n heard us) a P t w f = absurd (omega (arith, leb-true a 3 t, (within_true 5 9 a w).0))
by_five (snapshot h us) a P t w f = f h us refl
by_five (refused why) a P t w f = absurd (omega (arith, (within_true 11 14 a t).0, (within_true 5 9 a w).1))

pub refused_loops : RefusedLoops
unfolding feed_answer feed_store fed
refused_loops bytes xs = go (sound xs) refl
  where
    m : Message
    m = message_in (board_at xs).depth bytes

    o : Reply
    o = given m (channel_at xs)

    go : (z : Bool) → sound xs ≡ z → within 5 9 (cond z (o.answer + 256 * waiting_in o.channel.board.insts) 17 % 256) ≡ true
        → Looped bytes xs (cond z (written o.channel ++ drop store_size xs) xs)
    go false q h = absurd (false≢true h)
    go true q h =
        let e = answer_is_own m (channel_at xs) in
        let n : within 5 9 o.answer ≡ true = rw (below o.answer (waiting_in o.channel.board.insts) (rw e (in_table m (board_at xs)))) at h in
        by_five m (feed m (board_at xs)).answer (Looped bytes xs (written o.channel ++ drop store_size xs)) (answers_in_table m (board_at xs)) (rw e at n) (λ k us s.
        let r : o.channel ≡ rounded (joined_by k (board_at xs) (loop_at xs)) (board_at xs) = rw s (refused_rounds k us (channel_at xs) (rw s at n)) in
        record { head = k; entries = us; message = s; store = rw r })

drop_front : (a b : List ℕ) (n : ℕ) → length a ≡ n → drop n (a ++ b) ≡ b
drop_front a b n h = ap (λ (k : ℕ). drop k (a ++ b)) (sym h) ∙ drop-append_seam a b

pub beyond_stays : BeyondStays
unfolding feed_store
beyond_stays bytes xs = go (sound xs) refl
  where
    go : (z : Bool) → sound xs ≡ z
        → (drop store_size (cond z (written (fed bytes (channel_at xs)).channel ++ drop store_size xs) xs) ≡ drop store_size xs)
        × (length (cond z (written (fed bytes (channel_at xs)).channel ++ drop store_size xs) xs) ≡ length xs)
    go true q =
        let c = (fed bytes (channel_at xs)).channel in (
          drop_front (written c) (drop store_size xs) store_size (written_length c),
          omega (arith, length-append (written c) (drop store_size xs), length-drop store_size xs, written_length c, long_of xs q),
        )
    go false q = (refl, refl)

pub feed_settled : FeedSettled
feed_settled bytes xs r s ys zs a b = (a.answer ∙ sym b.answer, a.store ∙ sym b.store)
