-- The stream's entries of the messages after S, up to h: replayed on the true book at S they leave the true book at h.
use mathlib.Core.Path.{◌≡◌, refl, ◌∙◌, ap, ap₂, sym, subst}
use mathlib.Core.Bool.{Bool, true, false}
use mathlib.Core.List.{List, [], ◌++◌}
use Prim.Native.Nat.{ℕ, zero, suc, ◌≤◌, ◌<◌}
use native.Mathlib.Omega.{arith}
use lib.Arith.{le-zero}
use lib.Dec.{ltb}
use borrow.Author.Tests.{ltb-true, ltb-false}
use Rattle.book.specs.Rules.{Lists, Outcome, leaves, breach}
use Rattle.book.specs.declared.Update.{Update}
use Rattle.board.specs.Snapshot.{and_then, run}
use Rattle.board.specs.Demand.{Truth}
use Rattle.board.proofs.Running.{run_append}
use Rattle.board.proofs.Queueing.{above, above_none, above_all}

unfoldable pub pending : (ℕ → List Update) → ℕ → ℕ → List Update
pending s S zero = []
pending s S (suc h) = pending s S h ++ above S (suc h) (s (suc h))

pub pending_none : (s : ℕ → List Update) (S h : ℕ) → h ≤ S → pending s S h ≡ []
unfolding pending
pending_none s S zero l = refl
pending_none s S (suc h) l = ap₂ ◌++◌ (pending_none s S h (omega arith)) (above_none S (suc h) (s (suc h)) l)

pub replay_true : (s : ℕ → List Update) (t : ℕ → Lists) → Truth s t → (S h : ℕ) → S ≤ h → (c : Lists) → run (pending s S h) (t S) ≡ leaves c → c ≡ t h
unfolding pending run
replay_true s t truth S zero l c r = let q : t S ≡ c = cc in sym q ∙ ap t (le-zero l)
replay_true s t truth S (suc h) l c r = go (ltb S (suc h)) refl (replay_true s t truth S h)
  where
    -- message h+1 on what the earlier ones left
    last : (o : Outcome Lists) → run (pending s S h) (t S) ≡ o → ((d : Lists) → run (pending s S h) (t S) ≡ leaves d → d ≡ t h)
        → and_then o (run (s (suc h))) ≡ leaves c → c ≡ t (suc h)
    last (leaves d) o ih r = truth h c (subst (λ (z : Lists). run (s (suc h)) z ≡ leaves c) (ih d o) r)
    last (breach k) o ih r = cc

    go : (k : Bool) → ltb S (suc h) ≡ k → (S ≤ h → (c : Lists) → run (pending s S h) (t S) ≡ leaves c → c ≡ t h) → c ≡ t (suc h)
    go true e ih =
        let lt : S < suc h = ltb-true S (suc h) e in
        let k : S ≤ h = omega arith in
        last (run (pending s S h) (t S)) refl (ih k)
        (sym (run_append (pending s S h) (s (suc h)) (t S))
        ∙ (subst (λ (v : List Update). run (pending s S h ++ v) (t S) ≡ leaves c) (above_all S (suc h) (s (suc h)) lt) r))
    go false e ih =
        let ge : suc h ≤ S = ltb-false S (suc h) e in
        let eq : S ≡ suc h = omega arith in
        let r' : ◌≡◌ {A = Outcome Lists} (leaves (t S)) (leaves c) = subst (λ (v : List Update). run v (t S) ≡ leaves c) (pending_none s S (suc h) ge) r in
        let q : t S ≡ c = cc in
        sym q ∙ ap t eq
