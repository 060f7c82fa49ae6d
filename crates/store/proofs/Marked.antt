-- The Waiting instruments of a board are the marks: how many, and whether any.
use mathlib.Core.Path.{◌≡◌, refl, sym, ◌∙◌}
use mathlib.Core.Bool.{Bool, true, false, cond, not, ◌||◌}
use mathlib.Core.List.{List, [], ◌∷◌, ◌++◌}
use Prim.Native.Nat.{ℕ, zero, suc, ◌+◌, ◌≤◌, ◌<◌, ◌^◌}
use native.Mathlib.Nat.{zero-add, add-zero, add_assoc, lt_of_lt_of_le}
use native.Mathlib.Omega.{arith}
use lib.Dec.{eqb}
use lib.Pow.{pow_mono}
use Rattle.cells.specs.Cells.{tab}
use Rattle.heading.specs.Marks.{marked, marked_in}
use Rattle.heading.proofs.Bits.{ones_marked, below_top, not_zero}
use Rattle.board.specs.Board.{Inst, waiting_in, any_waiting}
use Rattle.store.specs.Meaning.{inst_at, board_of, State, board_in}

waiting_append : (a b : List Inst) → waiting_in (a ++ b) ≡ waiting_in a + waiting_in b
unfolding waiting_in
waiting_append [] b = sym (zero-add (waiting_in b))
waiting_append (x ∷ a) b = rw (waiting_append a b) (sym (add_assoc (cond x.waiting 1 0) (waiting_in a) (waiting_in b)))

marked_waiting : (m : ℕ) (xs : List ℕ) (k : ℕ) → marked_in m k ≡ waiting_in (tab (inst_at m xs) k)
unfolding marked_in waiting_in tab inst_at
marked_waiting m xs zero = refl
marked_waiting m xs (suc k) =
    rw (marked_waiting m xs k, ← add-zero (cond (marked m k) 1 0)) (sym (waiting_append (tab (inst_at m xs) k) (inst_at m xs k ∷ [])))

-- how many are marked of 16 is how many wait
pub waiting_board : (s : State) → s.head.followed ≤ 16 → s.head.marks < 2 ^ s.head.followed → marked_in s.head.marks 16 ≡ waiting_in (board_in s).insts
unfolding board_of
waiting_board s h l =
    sym (ones_marked 16 s.head.marks (lt_of_lt_of_le l (pow_mono h))) ∙ ones_marked s.head.followed s.head.marks l
    ∙ marked_waiting s.head.marks s.store s.head.followed

any_append : (a b : List Inst) → any_waiting (a ++ b) ≡ any_waiting a || any_waiting b
unfolding any_waiting
any_append [] b = refl
any_append (x ∷ a) b = rw (any_append a b) (sym (or_assoc x.waiting (any_waiting a) (any_waiting b)))
  where
    or_assoc : (p q r : Bool) → (p || q) || r ≡ p || (q || r)
    or_assoc true q r = refl
    or_assoc false q r = refl

any_marks : (m : ℕ) (xs : List ℕ) (k : ℕ) → m < 2 ^ k → any_waiting (tab (inst_at m xs) k) ≡ not (eqb m 0)
unfolding any_waiting tab inst_at
any_marks m xs zero h = let e : m ≡ 0 = omega arith in rw e
any_marks m xs (suc k) h =
    any_append (tab (inst_at m xs) k) (inst_at m xs k ∷ []) ∙ go (marked m k) refl (λ e. any_marks m xs k (below_top m k h e))
  where
    or_true : (p : Bool) → p || (true || false) ≡ true
    or_true true = refl
    or_true false = refl

    or_false : (p : Bool) → p || (false || false) ≡ p
    or_false true = refl
    or_false false = refl

    go : (b : Bool) → marked m k ≡ b → (marked m k ≡ false → any_waiting (tab (inst_at m xs) k) ≡ not (eqb m 0))
        → any_waiting (tab (inst_at m xs) k) || (marked m k || false) ≡ not (eqb m 0)
    go true e ih = rw (e, not_zero m k e) (or_true (any_waiting (tab (inst_at m xs) k)))
    go false e ih = rw e (or_false (any_waiting (tab (inst_at m xs) k)) ∙ ih e)

-- any waits where the marks are not 0
pub any_board : (s : State) → s.head.marks < 2 ^ s.head.followed → any_waiting (board_in s).insts ≡ not (eqb s.head.marks 0)
unfolding board_of
any_board s h = any_marks s.head.marks s.store s.head.followed h
