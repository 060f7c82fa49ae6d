-- A call case by case: what holds of each outcome, in the case that leads to it, holds of the call.
use mathlib.Core.Path.{◌≡◌, refl}
use mathlib.Core.Bool.{Bool, true, false}
use mathlib.Core.List.{List}
use Prim.Native.Nat.{ℕ, suc, ◌+◌, ◌≤◌, ◌<◌}
use native.Mathlib.Omega.{arith}
use lib.Dec.{ltb, leb}
use lib.ListN.{length}
use borrow.Author.Tests.{leb-true, leb-false}
use Rattle.book.specs.Rules.{Lists, Outcome, leaves, breach}
use Rattle.book.specs.declared.Update.{Update}
use Rattle.board.specs.Board.{Board, Out, out, any_waiting, look, at}
use Rattle.board.specs.Count.{overflows, count_by, count, number_by, number}
use Rattle.board.specs.Snapshot.{run, after, replayed, take, too_wide, snap_by, snap}

module _ (P : Out → Type 0) where
  -- none waited, or the message joins the queue or lets it go
  pub count_is : (a n heard : ℕ) (us : List Update) (b : Board) → ((over : Bool) → P (count_by false over a n heard us b))
      → ((over : Bool) → overflows n us b ≡ over → P (count_by true over a n heard us b)) → P (count a n heard us b)
  unfolding count
  count_is a n heard us b none one = go (any_waiting b.insts)
    where
      go : (w : Bool) → P (count_by w (overflows n us b) a n heard us b)
      go false = none (overflows n us b)
      go true = one (overflows n us b) refl

  -- old, in order, or a gap
  pub number_is : (n heard : ℕ) (us : List Update) (b : Board) → ((next : Bool) → n ≤ b.H → P (number_by true next n heard us b))
      → (n ≡ suc b.H → P (number_by false true n heard us b)) → (suc b.H < n → P (number_by false false n heard us b)) → P (number n heard us b)
  unfolding number
  number_is n heard us b old next gap = go (leb n b.H) (leb n (b.H + 1)) refl refl
    where
      go : (o e : Bool) → leb n b.H ≡ o → leb n (b.H + 1) ≡ e → P (number_by o e n heard us b)
      go true e p q = old e (leb-true n b.H p)
      go false true p q = next (omega (arith, leb-false n b.H p, leb-true n (b.H + 1) q))
      go false false p q = gap (omega (arith, leb-false n (b.H + 1) q))

  -- the five tests of a snapshot
  pub snap_by_lem : (d S : ℕ) (l : Lists) (b : Board)
      → ((f w below above wide : Bool) → ltb (look d b.insts) (length b.insts) ≡ f → ltb S b.B ≡ below → ltb b.H S ≡ above → too_wide l ≡ wide
      → P (snap_by f w below above wide (look d b.insts) S l b))
      → P (snap d S l b)
  unfolding snap
  snap_by_lem d S l b h =
      h (ltb (look d b.insts) (length b.insts)) (at (look d b.insts) b).waiting (ltb S b.B) (ltb b.H S) (too_wide l) refl refl refl refl

  -- refused, or taken
  pub snap_is : (d S : ℕ) (l : Lists) (b : Board) → ((a : ℕ) → 5 ≤ a → a ≤ 9 → P (out a b)) → P (take (look d b.insts) S l b) → P (snap d S l b)
  snap_is d S l b refuses taken = snap_by_lem d S l b go
    where
      go : (f w below above wide : Bool) → ltb (look d b.insts) (length b.insts) ≡ f → ltb S b.B ≡ below → ltb b.H S ≡ above → too_wide l ≡ wide
          → P (snap_by f w below above wide (look d b.insts) S l b)
      go false w below above wide _ _ _ _ = refuses 5 (omega arith) (omega arith)
      go true false below above wide _ _ _ _ = refuses 6 (omega arith) (omega arith)
      go true true true above wide _ _ _ _ = refuses 7 (omega arith) (omega arith)
      go true true false true wide _ _ _ _ = refuses 8 (omega arith) (omega arith)
      go true true false false true _ _ _ _ = refuses 9 (omega arith) (omega arith)
      go true true false false false _ _ _ _ = taken

  -- the replay left a book, or broke
  pub take_is : (i S : ℕ) (l : Lists) (b : Board) → ((c : Lists) → run (after i S b.queue) l ≡ leaves c → P (replayed i (leaves c) b))
      → ((r : ℕ) → run (after i S b.queue) l ≡ breach r → P (replayed i (breach r) b)) → P (take i S l b)
  unfolding take
  take_is i S l b left broke = go (run (after i S b.queue) l) refl
    where
      go : (o : Outcome Lists) → run (after i S b.queue) l ≡ o → P (replayed i o b)
      go (leaves c) e = left c e
      go (breach r) e = broke r e
