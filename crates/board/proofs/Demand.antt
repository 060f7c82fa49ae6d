-- Demand 3, from the stronger statement: of an instrument that the stream never breaks, the stream's book is the true one.
use mathlib.Core.Path.{◌≡◌, refl, ◌∙◌, ap, sym, subst}
use mathlib.Core.Bool.{Bool, true, false}
use mathlib.Core.List.{List, [], ◌∷◌}
use Prim.Native.Nat.{ℕ, zero, suc, ◌≤◌, ◌<◌}
use native.Mathlib.Omega.{arith}
use lib.Dec.{leb}
use lib.ListN.{length, get_or-eq_default}
use borrow.Author.Tests.{leb-true, leb-false}
use Rattle.book.specs.Rules.{Lists, Outcome, leaves}
use Rattle.book.specs.declared.Update.{Update}
use Rattle.message.specs.Message.{Message, numbered, snapshot, refused}
use Rattle.board.specs.Board.{Board, opened}
use Rattle.board.specs.Snapshot.{and_then, run}
use Rattle.board.specs.Calls.{Call, fed, aside, called, calls, Throughout, mine}
use Rattle.board.specs.Demand.{nothing, message_at, NumberedFromOne, entries_in, entries_at, book_at, NeverBreaks, Right, Truth, Fair, Demand3}
use Rattle.board.proofs.Running.{then_leaves}
use Rattle.board.proofs.Recovery.{recovers}

module _ (ms : List Message) (d : ℕ) where
  -- past its end the stream says nothing
  entries_past : (k : ℕ) → length ms ≤ k → entries_at ms d (suc k) ≡ []
  unfolding mine
  entries_past k h = ap (λ (m : Message). mine d (entries_in m)) (get_or-eq_default ms nothing h)

  book_past : (k : ℕ) → length ms ≤ k → book_at ms d (suc k) ≡ book_at ms d k
  unfolding book_at run
  book_past k h = ap (λ (v : List Update). and_then (book_at ms d k) (run v)) (entries_past k h) ∙ then_leaves (book_at ms d k)

  unbroken : NeverBreaks ms d → (n : ℕ) → (b : Lists) × (book_at ms d n ≡ leaves b)
  unbroken never zero = never zero (omega arith)
  unbroken never (suc k) = go (leb (suc k) (length ms)) refl (unbroken never k)
    where
      go : (t : Bool) → leb (suc k) (length ms) ≡ t → ((b : Lists) × (book_at ms d k ≡ leaves b)) → (b : Lists) × (book_at ms d (suc k) ≡ leaves b)
      go true e r = never (suc k) (leb-true (suc k) (length ms) e)
      go false e (b, q) = let l = leb-false (suc k) (length ms) e in (b, book_past k (omega arith) ∙ q)

  module _ (numbers : NumberedFromOne ms) (never : NeverBreaks ms d) where
    -- the stream's book after message n
    stream_book : ℕ → Lists
    stream_book n = (unbroken never n).0

    stream_true : Truth (entries_at ms d) stream_book
    unfolding stream_book book_at
    stream_true n b r =
        let (c, e) = unbroken never n in
        let (f, g) = unbroken never (suc n) in
        let q : ◌≡◌ {A = Outcome Lists} (leaves b) (leaves f) = sym r ∙ ap (λ (o : Outcome Lists). and_then o (run (entries_at ms d (suc n)))) (sym e) ∙ g in
        cc

    fair : (c : Call) (b : Board) → Right ms d c b → Fair d (entries_at ms d) stream_book c b
    unfolding stream_book
    fair (fed (numbered n heard us)) b right = λ a. of (right a)
      where
        of : ((k : ℕ) × (k < length ms) × (message_at ms k ≡ numbered n heard us)) → mine d us ≡ entries_at ms d n
        of (k, l, e) =
            let (at, vs, q) = numbers k l in
            let z : numbered n heard us ≡ numbered (suc k) at vs = sym e ∙ q in
            let p : n ≡ suc k = cc in
            subst (λ (m : ℕ). mine d us ≡ entries_at ms d m) (sym p) (ap (λ (m : Message). mine d (entries_in m)) (sym e))
    fair (fed (snapshot h us)) b right = λ a j.
        let q = sym (right a j) ∙ (unbroken never h.last).1 in
        cc
    fair (fed (refused why)) b right = tt
    fair (aside a) b right = tt

    all_fair_lem : (cs : List Call) (b : Board) → Throughout (Right ms d) cs b → Throughout (Fair d (entries_at ms d) stream_book) cs b
    all_fair_lem [] b r = tt
    all_fair_lem (c ∷ cs) b r = (fair c b r.0, all_fair_lem cs (called c b).board r.1)

    shown_book : (n : ℕ) (b : Lists) → b ≡ stream_book n → book_at ms d n ≡ leaves b
    unfolding stream_book
    shown_book n b e = (unbroken never n).1 ∙ ap leaves (sym e)

pub demand3 : Demand3
demand3 ms numbers d never depth ids cs right l =
    shown_book ms d numbers never (calls cs (opened depth ids)).H _
    (recovers d (entries_at ms d) (stream_book ms d numbers never) (stream_true ms d numbers never) depth ids cs
    (all_fair_lem ms d numbers never cs (opened depth ids) right) l)
