-- An unsound store, and so an older one, is 17 to every call that reads it. Assumes nothing.
use mathlib.Core.Path.{◌≡◌, refl, ap, ◌∙◌}
use mathlib.Core.Bool.{Bool, true, false}
use mathlib.Core.List.{List}
use Prim.Native.Nat.{ℕ, ◌%◌, ◌≤◌}
use lib.ListN.{length}
use borrow.Author.Tests.{le-leb}
use Rattle.board.specs.Sound.{opens}
use Rattle.store.specs.Layout.{store_size}
use Rattle.sound.specs.Sound.{sound}
use Rattle.sound.specs.Settled.{Allowed}
use Rattle.sound.proofs.Laws.{earlier_is_unsound}
use Rattle.opening.specs.Opening.{open_answer}
use Rattle.opening.proofs.Laws.{opened_is_sound}
use Rattle.loops.specs.Laws.{touches}
use Rattle.feed.specs.Feeding.{feed_answer}
use Rattle.ask.specs.Ask.{quote_answer, state_answer}
use Rattle.summary.specs.Summary.{summary_answer}
use Rattle.send.specs.Send.{sent_page, send_answer}
use Rattle.backing.specs.Backing.{quoted_of, behind}
use Rattle.lots.specs.Lots.{lotted_of}
use Rattle.lots.specs.Rooms.{lot_answer}
use Rattle.promises.specs.Refusals.{Stays, is_done}
use Rattle.promises.specs.Unsound.{Refuses, Refused, UnsoundIsRefused, OlderIsRefused}
use Rattle.promises.proofs.Refusals.{refusals_stay}

-- 17 changes nothing
stays : (changing : ℕ → Bool) (allows : Allowed) (lent : List ℕ) → changing 17 ≡ false → Stays changing allows lent
    → ((r : ℕ) (ys : List ℕ) → allows r ys → r ≡ 17) → Refuses allows lent
stays changing allows lent c s e r ys o = (e r ys o, s r ys o (ap (λ (n : ℕ). changing (n % 256)) (e r ys o) ∙ c))

module _ (xs : List ℕ) (h : sound xs ≡ false) where
  feed_17 : (bytes : List ℕ) → feed_answer bytes xs ≡ 17
  unfolding feed_answer
  feed_17 bytes = rw h

  quote_17 : (id : ℕ) (now : List ℕ) (limit : ℕ) (room : List ℕ) → quote_answer id now limit room xs ≡ 17
  unfolding quote_answer
  quote_17 id now limit room = rw h

  write_17 : (id : ℕ) (sender target : List ℕ) (k m : ℕ) (time room : List ℕ) → send_answer id sender target k m time room xs ≡ 17
  unfolding send_answer sent_page
  write_17 id sender target k m time room = rw h

  state_17 : (id : ℕ) (room : List ℕ) → state_answer id room xs ≡ 17
  unfolding state_answer
  state_17 id room = rw h

  summary_17 : (room : List ℕ) → summary_answer room xs ≡ 17
  unfolding summary_answer
  summary_17 room = rw h

  lot_17 : (buying : Bool) (id n : ℕ) (now : List ℕ) (limit : ℕ) (room : List ℕ) → lot_answer buying id n now limit room xs ≡ 17
  unfolding lot_answer lotted_of quoted_of behind
  lot_17 buying id n now limit room = rw h

  open_0 : store_size ≤ length xs → (depth : ℕ) (ids : List ℕ) → opens depth ids ≡ true → open_answer depth ids xs ≡ 0
  unfolding open_answer
  open_0 l depth ids e = rw (le-leb store_size (length xs) l, e)

  refused : Refused xs
  refused =
      record {
        feeding = λ bytes. stays touches _ _ refl (refusals_stay.feeding bytes xs) (λ r ys o. o.answer ∙ feed_17 bytes);
        quoting = λ id now limit room. stays is_done _ _ refl (refusals_stay.quoting id now limit room xs) (λ r ys o. o.answer ∙ quote_17 id now limit room);
        writing = λ id sender target k m time room. stays is_done _ _ refl (refusals_stay.writing id sender target k m time room xs) (λ r ys o. o.answer ∙ write_17 id sender target k m time room);
        stating = λ id room. stays is_done _ _ refl (refusals_stay.stating id room xs) (λ r ys o. o.answer ∙ state_17 id room);
        summing = λ room. stays is_done _ _ refl (refusals_stay.summing room xs) (λ r ys o. o.answer ∙ summary_17 room);
        dealing = λ buying id n now limit room. stays is_done _ _ refl (refusals_stay.dealing buying id n now limit room xs) (λ r ys o. o.answer ∙ lot_17 buying id n now limit room);
        opening = λ l depth ids e r ys o. (o.answer ∙ open_0 l depth ids e, rw o.store (opened_is_sound depth ids xs (open_0 l depth ids e)));
      }

pub unsound_is_refused : UnsoundIsRefused
unsound_is_refused xs h = refused xs h

pub older_is_refused : OlderIsRefused
older_is_refused xs e = refused xs (earlier_is_unsound xs e)
