-- The marks that are written of instruments say of each whether it waits, and no mark stands above them.
use mathlib.Core.Path.{◌≡◌, refl, sym, ap, ◌∙◌}
use mathlib.Core.Bool.{Bool, true, false, cond}
use mathlib.Core.List.{List, [], ◌∷◌}
use Prim.Native.Nat.{ℕ, zero, suc, ◌+◌, ◌*◌, ◌/◌, ◌%◌, ◌^◌, ◌<◌}
use native.Mathlib.Nat.{add_comm, pow-suc, div-one, le_of_suc-le-suc}
use native.Mathlib.Numerals.{add-one}
use native.Mathlib.Omega.{arith}
use lib.Dec.{eqb}
use lib.ListN.{length, get_or}
use lib.Pow.{shr-shr}
use Rattle.cells.specs.Cells.{tab}
use Rattle.cells.proofs.Tables.{length_tab, get_d_tab}
use Rattle.heading.specs.Marks.{bit, marked}
use Rattle.heading.proofs.Bits.{marks_ext}
use Rattle.board.specs.Board.{Inst, no_inst}
use Rattle.store.specs.Meaning.{inst_at, marks_of}

-- from the next index on, twice as much
marks_twice : (i : ℕ) (l : List Inst) → marks_of (suc i) l ≡ marks_of i l * 2
unfolding marks_of
marks_twice i [] = refl
marks_twice i (x ∷ l) = go x.waiting (marks_twice (suc i) l)
  where
    go : (w : Bool) → marks_of (suc (suc i)) l ≡ marks_of (suc i) l * 2 → cond w (2 ^ suc i) 0 + marks_of (suc (suc i)) l ≡ (cond w (2 ^ i) 0 + marks_of (suc i) l) * 2
    go true e = omega (arith, pow-suc 2 i)
    go false e = omega arith

-- the first mark is the lowest bit, and the others are its half
first : (x : Inst) (l : List Inst) → marks_of 0 (x ∷ l) ≡ marks_of 0 l * 2 + cond x.waiting 1 0
unfolding marks_of
first x l = rw (marks_twice 0 l) (add_comm (cond x.waiting 1 0) (marks_of 0 l * 2))

one : (w : Bool) → cond w 1 0 < 2
one true = omega arith
one false = omega arith

first_half : (m : ℕ) (w : Bool) → (m * 2 + cond w 1 0) / 2 ≡ m
first_half m w = let h = one w in omega arith

lowest : (m : ℕ) (w : Bool) → (m * 2 + cond w 1 0) % 2 ≡ cond w 1 0
lowest m w = let h = one w in omega arith

next_bit : (m i : ℕ) → bit m (suc i) ≡ bit (m / 2) i
next_bit m i = ap (λ (x : ℕ). x % 2) (ap (λ (k : ℕ). m / 2 ^ k) (sym (add_comm 1 i ∙ add-one i)) ∙ sym (shr-shr m 1 i))

is_one : (w : Bool) → eqb (cond w 1 0) 1 ≡ w
is_one true = refl
is_one false = refl

pub marked_waits : (l : List Inst) (i : ℕ) → i < length l → marked (marks_of 0 l) i ≡ (get_or l i no_inst).waiting
unfolding marked
marked_waits [] i h = absurd (omega arith)
marked_waits (x ∷ l) zero h =
    ap (λ (m : ℕ). eqb (bit m 0) 1) (first x l)
    ∙ ap (λ (m : ℕ). eqb (m % 2) 1) (div-one (marks_of 0 l * 2 + cond x.waiting 1 0))
    ∙ ap (λ (m : ℕ). eqb m 1) (lowest (marks_of 0 l) x.waiting)
    ∙ is_one x.waiting
marked_waits (x ∷ l) (suc i) h =
    ap (λ (m : ℕ). eqb m 1) (next_bit (marks_of 0 (x ∷ l)) i
    ∙ ap (λ (m : ℕ). bit m i) (ap (λ (m : ℕ). m / 2) (first x l) ∙ first_half (marks_of 0 l) x.waiting))
    ∙ marked_waits l i (le_of_suc-le-suc h)

pub marks_lt : (l : List Inst) → marks_of 0 l < 2 ^ length l
unfolding marks_of
marks_lt [] = omega arith
marks_lt (x ∷ l) = omega (arith, first x l, one x.waiting, marks_lt l, pow-suc 2 (length l))

-- the marks of the instruments that are read are the marks that they were read with
pub marks_back : (m : ℕ) (xs : List ℕ) (n : ℕ) → m < 2 ^ n → marks_of 0 (tab (inst_at m xs) n) ≡ m
unfolding inst_at
marks_back m xs n h =
    marks_ext (marks_of 0 l) m n (rw (length_tab (inst_at m xs) n) at (marks_lt l)) h (λ i q.
    marked_waits l i (rw (length_tab (inst_at m xs) n) q) ∙ ap (λ (x : Inst). x.waiting) (get_d_tab no_inst (inst_at m xs) n i q))
  where
    l : List Inst
    l = tab (inst_at m xs) n
