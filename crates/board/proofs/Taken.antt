-- A snapshot that is taken makes its instrument Live with reason 0; one whose replay broke leaves it Waiting. None dates the board.
use mathlib.Core.Path.{◌≡◌, refl, ◌∙◌, ap}
use mathlib.Core.Bool.{Bool, true, false}
use mathlib.Core.List.{List}
use Prim.Native.Nat.{ℕ, ◌<◌}
use native.Mathlib.Omega.{arith}
use lib.Dec.{ltb}
use lib.ListN.{length}
use borrow.Author.Tests.{ltb-true}
use Rattle.book.specs.Rules.{Lists}
use Rattle.book.specs.declared.Update.{Update}
use Rattle.book.proofs.Tests.{by_test}
use Rattle.message.specs.Message.{Head, snapshot}
use Rattle.board.specs.Board.{Inst, Board, Out, any_waiting, look, at, put, broken, settled}
use Rattle.board.specs.Snapshot.{shown, live, take, too_wide, snap_by, snap}
use Rattle.board.specs.Feed.{feed}
use Rattle.board.specs.Calls.{inst}
use Rattle.board.specs.Laws.{TakenIsLive, BrokeIsWaiting, SnapshotKeepsDate}
use Rattle.board.proofs.Cases.{snap_by_lem, snap_is, take_is}
use Rattle.board.proofs.Giving.{at_put_same}
use Rattle.board.proofs.Others.{at_settled}
use Rattle.board.proofs.Staying.{same_feed, same_look}

-- what an answer says of the instrument at index i
pub record Own (i : ℕ) (o : Out) : Type 0 where
  pub taken : o.answer ≡ 4 → ((at i o.board).waiting ≡ false) × ((at i o.board).reason ≡ 0)
  pub broke : o.answer ≡ 10 → (at i o.board).waiting ≡ true

module _ (i : ℕ) (b : Board) (l : i < length b.insts) where
  put_own : (x : Inst) → at i (settled true (put i x b)) ≡ x
  put_own x = at_settled i true (put i x b) (put i x b) refl ∙ at_put_same i x b l

  take_own : (S : ℕ) (s : Lists) → Own i (take i S s b)
  take_own S s =
      take_is (Own i) i S s b
      (λ c _.
      let e = put_own (live (at i b) c) in
      record { taken = λ _. (ap (λ (x : Inst). x.waiting) e, ap (λ (x : Inst). x.reason) e); broke = λ q. absurd (omega arith) })
      (λ r _. record { taken = λ q. absurd (omega arith); broke = λ _. ap (λ (x : Inst). x.waiting) (put_own (broken (at i b) r)) })

snap_own : (d S : ℕ) (s : Lists) (b : Board) → Own (look d b.insts) (snap d S s b)
snap_own d S s b = snap_by_lem (Own i) d S s b go
  where
    i : ℕ
    i = look d b.insts

    go : (f w below above wide : Bool) → ltb i (length b.insts) ≡ f → ltb S b.B ≡ below → ltb b.H S ≡ above → too_wide s ≡ wide
        → Own i (snap_by f w below above wide i S s b)
    go false w below above wide _ _ _ _ = record { taken = λ q. absurd (omega arith); broke = λ q. absurd (omega arith) }
    go true false below above wide _ _ _ _ = record { taken = λ q. absurd (omega arith); broke = λ q. absurd (omega arith) }
    go true true true above wide _ _ _ _ = record { taken = λ q. absurd (omega arith); broke = λ q. absurd (omega arith) }
    go true true false true wide _ _ _ _ = record { taken = λ q. absurd (omega arith); broke = λ q. absurd (omega arith) }
    go true true false false true _ _ _ _ = record { taken = λ q. absurd (omega arith); broke = λ q. absurd (omega arith) }
    go true true false false false e _ _ _ = take_own i b (ltb-true i (length b.insts) e) S s

module _ (h : Head) (us : List Update) (b : Board) where
  own : Own (look h.id b.insts) (feed (snapshot h us) b)
  unfolding feed
  own = snap_own h.id h.last (shown us) b

  own_inst : inst h.id (feed (snapshot h us) b).board ≡ at (look h.id b.insts) (feed (snapshot h us) b).board
  own_inst =
      ap (λ (i : ℕ). at i (feed (snapshot h us) b).board) (same_look h.id (feed (snapshot h us) b).board b (same_feed (snapshot h us) b))

pub taken_is_live : TakenIsLive
taken_is_live h us b e =
    let o = (own h us b).taken e in
    (ap (λ (x : Inst). x.waiting) (own_inst h us b) ∙ o.0, ap (λ (x : Inst). x.reason) (own_inst h us b) ∙ o.1)

pub broke_is_waiting : BrokeIsWaiting
broke_is_waiting h us b e = ap (λ (x : Inst). x.waiting) (own_inst h us b) ∙ (own h us b).broke e

pub snapshot_keeps_date : SnapshotKeepsDate
unfolding feed
snapshot_keeps_date h us b =
    snap_is (λ o. Dated o.board) h.id h.last (shown us) b (λ _ _ _. (refl, refl))
    (take_is (λ o. Dated o.board) (look h.id b.insts) h.last (shown us) b (λ c _. put_dated _ _) (λ r _. put_dated _ _))
  where
    Dated : Board → Type 0
    Dated c = (c.H ≡ b.H) × (c.heard ≡ b.heard)

    put_dated : (i : ℕ) (x : Inst) → Dated (settled true (put i x b))
    put_dated i x = by_test Dated (any_waiting (put i x b).insts) (λ _. (refl, refl)) (λ _. (refl, refl))
