-- A refused call changes neither store nor output. Assumes nothing.
use mathlib.Core.Path.{◌≡◌, refl, sym, ap, ◌∙◌}
use mathlib.Core.Bool.{Bool, true, false, cond, true≢false}
use mathlib.Core.List.{List, ◌∷◌, ◌++◌}
use Prim.Native.Nat.{ℕ, ◌%◌}
use native.Mathlib.Nat.{add-mul-mod_self_left}
use lib.Dec.{leb, eqb}
use lib.ListN.{length, drop}
use lib.Seq.{sets}
use borrow.Author.Tests.{eqb-true}
use Rattle.board.specs.Board.{look, at}
use Rattle.board.specs.Ranges.{within}
use Rattle.board.specs.Sound.{opens}
use Rattle.loops.specs.Calls.{opened_channel}
use Rattle.loops.specs.Laws.{touches}
use Rattle.store.specs.Layout.{store_size}
use Rattle.store.specs.Meaning.{board_at, written}
use Rattle.opening.specs.Opening.{open_answer, open_store}
use Rattle.feed.proofs.Laws.{refused_stays, refused_loops}
use Rattle.writer.specs.Writing.{written_of, out_after}
use Rattle.quote.specs.Quotes.{quote_of}
use Rattle.ask.specs.Ask.{room_after, quote_values, quote_answer, quote_out, state_words, state_answer, state_out}
use Rattle.ask.proofs.Laws.{refused_carries_zeros}
use Rattle.summary.specs.Summary.{summary_words, summary_answer, summary_out}
use Rattle.send.specs.Send.{Page, message, refusal, sent_page, written_number, page_answer, page_out, send_answer, send_out}
use Rattle.salvage.specs.Rooms.{given, go_on, cells, refused, walk_answer, walk_out}
use Rattle.lots.specs.Lots.{lotted_of}
use Rattle.lots.specs.Rooms.{lot_words, lot_answer, lot_out}
use Rattle.promises.specs.Refusals.{is_done, RefusalsStay}

-- what is said of the answer is said of what the contract makes it
of_answer : (changing : ℕ → Bool) (r a : ℕ) → r ≡ a → changing (r % 256) ≡ false → changing (a % 256) ≡ false
of_answer changing r a e h = ap (λ (n : ℕ). changing (n % 256)) (sym e) ∙ h

open_stays : (depth : ℕ) (ids xs : List ℕ) → is_done (open_answer depth ids xs % 256) ≡ false → open_store depth ids xs ≡ xs
unfolding open_answer open_store
open_stays depth ids xs = go (leb store_size (length xs)) (opens depth ids)
  where
    go : (s t : Bool) → is_done (cond s (cond t 0 18) 17 % 256) ≡ false → cond s (cond t (written (opened_channel depth ids) ++ drop store_size xs) xs) xs ≡ xs
    go true true h = absurd (true≢false h)
    go true false h = refl
    go false t h = refl

room_stays : (a : ℕ) (values room : List ℕ) → is_done (a % 256) ≡ false → room_after a values room ≡ room
room_stays a values room h = go (eqb a 0) refl
  where
    go : (z : Bool) → eqb a 0 ≡ z → cond z (sets room 0 values) room ≡ room
    go true q = absurd (true≢false (of_answer is_done a 0 (eqb-true a 0 q) h))
    go false q = refl

page_stays : (p : Page) (room : List ℕ) → is_done (page_answer p room % 256) ≡ false → page_out p room ≡ room
unfolding written_of out_after
page_stays (message bytes) room h = go (leb (length bytes) (length room)) h
  where
    go : (z : Bool) → is_done (written_number (cond z (record { answer = 0; bytes = length bytes }) (record { answer = 25; bytes = 0 })) % 256) ≡ false
        → cond z (sets room 0 bytes) room ≡ room
    go true h = absurd (true≢false (sym (ap is_done (add-mul-mod_self_left 0 256 (length bytes))) ∙ h))
    go false h = refl
page_stays (refusal n) room h = refl

quote_stays : (id : ℕ) (now : List ℕ) (limit : ℕ) (room xs : List ℕ) → is_done (quote_answer id now limit room xs % 256) ≡ false
    → quote_out id now limit room xs ≡ room
unfolding quote_out
quote_stays id now limit room xs =
    room_stays (quote_answer id now limit room xs) (quote_values (board_at xs).depth (quote_of id now limit (board_at xs))) room

state_stays : (id : ℕ) (room xs : List ℕ) → is_done (state_answer id room xs % 256) ≡ false → state_out id room xs ≡ room
unfolding state_out
state_stays id room xs = room_stays (state_answer id room xs) (state_words (at (look id (board_at xs).insts) (board_at xs))) room

summary_stays : (room xs : List ℕ) → is_done (summary_answer room xs % 256) ≡ false → summary_out room xs ≡ room
unfolding summary_out
summary_stays room xs = room_stays (summary_answer room xs) (summary_words (board_at xs)) room

write_stays : (id : ℕ) (sender target : List ℕ) (k m : ℕ) (time room xs : List ℕ) → is_done (send_answer id sender target k m time room xs % 256) ≡ false
    → send_out id sender target k m time room xs ≡ room
unfolding send_answer send_out
write_stays id sender target k m time room xs = page_stays (sent_page id sender target k m time xs) room

walk_stays : (rec : List ℕ) (from : ℕ) (room : List ℕ) → is_done (walk_answer rec from room % 256) ≡ false → walk_out rec from room ≡ room
unfolding walk_answer walk_out
walk_stays rec from room = go (refused rec from (length room))
  where
    go : (z : Bool) → is_done (cond z 18 0 % 256) ≡ false
        → cond z room (sets room 0 (go_on rec from (length room) ∷ length (given rec from (length room)) ∷ cells (given rec from (length room)))) ≡ room
    go true h = refl
    go false h = absurd (true≢false h)

lot_stays : (buying : Bool) (id n : ℕ) (now : List ℕ) (limit : ℕ) (room xs : List ℕ) → is_done (lot_answer buying id n now limit room xs % 256) ≡ false
    → lot_out buying id n now limit room xs ≡ room
unfolding lot_out
lot_stays buying id n now limit room xs = room_stays (lot_answer buying id n now limit room xs) (lot_words (lotted_of buying id n now limit xs)) room

pub refusals_stay : RefusalsStay
refusals_stay =
    record {
      opening = λ depth ids xs r ys o h. o.store ∙ open_stays depth ids xs (of_answer is_done r _ o.answer h);
      feeding = λ bytes xs r ys o h. o.store ∙ refused_stays bytes xs (of_answer touches r _ o.answer h);
      looping = λ bytes xs r ys o h. rw o.store (refused_loops bytes xs (ap (λ (n : ℕ). within 5 9 (n % 256)) (sym o.answer) ∙ h));
      quoting = λ id now limit room xs r ys o h. o.out ∙ quote_stays id now limit room xs (of_answer is_done r _ o.answer h);
      writing = λ id sender target k m time room xs r ys o h. o.out ∙ write_stays id sender target k m time room xs (of_answer is_done r _ o.answer h);
      stating = λ id room xs r ys o h. o.out ∙ state_stays id room xs (of_answer is_done r _ o.answer h);
      summing = λ room xs r ys o h. o.out ∙ summary_stays room xs (of_answer is_done r _ o.answer h);
      salvaging = λ rec from room r ys o h. o.out ∙ walk_stays rec from room (of_answer is_done r _ o.answer h);
      dealing = λ buying id n now limit room xs r ys o h. o.out ∙ lot_stays buying id n now limit room xs (of_answer is_done r _ o.answer h);
      zeros = refused_carries_zeros;
    }
