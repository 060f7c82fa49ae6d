-- What a message leaves is settled: the numbers from the records on are those of the board, and all others are as they were.
use mathlib.Core.Path.{◌≡◌, sym, ap, subst, ◌∙◌}
use mathlib.Core.Logic.{inr}
use mathlib.Core.List.{List}
use Prim.Native.Nat.{ℕ, ◌+◌, ◌-◌, ◌≤◌, ◌<◌}
use native.Mathlib.Omega.{arith}
use lib.ListN.{length, get_or, drop, length-drop}
use lib.Seq.{ext_get_or, get_or-take, get_or-drop}
use Rattle.cells.proofs.Stores.{below_or}
use Rattle.board.specs.Board.{Board}
use Rattle.loops.specs.Loops.{no_loop}
use Rattle.loops.specs.Channel.{channel, Reply}
use Rattle.store.specs.Layout.{store_size, heading_size}
use Rattle.store.specs.Meaning.{State, heading_of, board_in, channel_at, saved, with_loop, written}
use Rattle.store.specs.Canon.{Canon}
use Rattle.store.proofs.Decode.{insts_length, queue_length}
use Rattle.store.proofs.States.{state_by}
use Rattle.store.proofs.Saved.{saved_agree, saved_heading, saved_board, saved_canon, loop_agree, loop_saved, loop_heading, loop_board, loop_formed}
use Rattle.sound.proofs.Back.{Holds, heading_back}
use Rattle.sound.proofs.Whole.{whole}
use Rattle.channel.specs.Feeds.{Around}
use Rattle.rounds.specs.Laws.{GivesOnce}

-- ---- a store that a call may leave, by its board

module _ (t : State) (k : Canon t) where
  -- with its heading saved, and no loop
  abbrev ys : List ℕ
  ys = with_loop no_loop (saved t)

  holds : Holds ys (channel (board_in t) no_loop)
  holds =
      let b = loop_board no_loop (saved t) ∙ saved_board t k.formed.long in
      let r = loop_saved no_loop (saved t) (saved_canon t k).formed.long in
      let e : channel_at ys ≡ channel (board_in t) no_loop = rw (b, r) in
      subst (Holds ys) e (whole ys (loop_formed no_loop (saved t) (saved_canon t k).formed))

  head_is : t.head ≡ heading_of (board_in t)
  head_is =
      sym (saved_heading t k.formed.long) ∙ sym (loop_heading no_loop (saved t))
      ∙ heading_back ys (channel (board_in t) no_loop) holds (rw (insts_length t) k.formed.few) (rw (queue_length t) k.formed.room)

  number_is : (j : ℕ) → heading_size ≤ j → j < store_size → get_or t.store j 0 ≡ get_or (written (channel (board_in t) no_loop)) j 0
  number_is j h l =
      sym ((saved_agree t).outside j (inr (omega arith))) ∙ sym ((loop_agree no_loop (saved t)).outside j (inr (omega arith))) ∙ holds j l

-- ---- two that are left of one

module _ (s t u : State) (k : Canon t) (l : Canon u) (v : Around s t) (w : Around s u) (e : board_in t ≡ board_in u) where
  in_front : (j : ℕ) → j < heading_size → get_or t.store j 0 ≡ get_or u.store j 0
  in_front j h =
      sym (get_or-take heading_size t.store j 0 h) ∙ ap (λ (xs : List ℕ). get_or xs j 0) (v.front ∙ sym w.front) ∙ get_or-take heading_size u.store j 0 h

  between : (j : ℕ) → heading_size ≤ j → j < store_size → get_or t.store j 0 ≡ get_or u.store j 0
  between j h g =
      number_is t k j h g ∙ ap (λ (b : Board). get_or (written (channel b no_loop)) j 0) e ∙ sym (number_is u l j h g)

  behind : (j : ℕ) → store_size ≤ j → get_or t.store j 0 ≡ get_or u.store j 0
  behind j h =
      let i : store_size + (j - store_size) ≡ j = omega arith in
      rw i at (sym (get_or-drop store_size t.store (j - store_size) 0) ∙ ap (λ (xs : List ℕ). get_or xs (j - store_size) 0) (v.beyond ∙ sym w.beyond)
      ∙ get_or-drop store_size u.store (j - store_size) 0)

  as_long : length t.store ≡ length u.store
  as_long =
      let n : length (drop store_size t.store) ≡ length (drop store_size u.store) = ap length (v.beyond ∙ sym w.beyond) in
      omega (arith, n, length-drop store_size t.store, length-drop store_size u.store, k.formed.long, l.formed.long)

  same_store : t.store ≡ u.store
  same_store =
      ext_get_or 0 t.store u.store as_long (λ j _.
      below_or j heading_size (in_front j) (λ h. below_or j store_size (between j h) (behind j)))

  same_state : t ≡ u
  same_state = state_by (head_is t k ∙ ap heading_of e ∙ sym (head_is u l)) same_store

pub gives_once : GivesOnce
gives_once m l s a b row other t u g f =
    let q = g.means ∙ sym f.means in (
      ap (λ (r : Reply). r.answer) q,
      ap (λ (r : Reply). r.channel.loop) q,
      same_state s t u g.canon f.canon g.around f.around (ap (λ (r : Reply). r.channel.board) q),
    )
