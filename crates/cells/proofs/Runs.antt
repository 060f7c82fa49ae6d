-- Laws of a message's entries as a run of numbers: none stand in it at the start, one more is written behind the others; what is left of them from a place on.
use mathlib.Core.Path.{◌≡◌, refl, ◌∙◌}
use mathlib.Core.List.{List, [], ◌∷◌, ◌++◌}
use Prim.Native.Nat.{ℕ, ◌+◌, ◌*◌, ◌≤◌, ◌<◌}
use native.Mathlib.Omega.{arith}
use lib.ListN.{length, drop}
use lib.Seq.{sets}
use Rattle.book.specs.declared.Update.{Update}
use Rattle.cells.specs.Cells.{tab, update_words, update_at}
use Rattle.cells.specs.Runs.{updates_in}
use Rattle.cells.proofs.Tables.{tab_ext, tab_snoc, tab_turn, tab_end}
use Rattle.cells.proofs.Windows.{same_before, update_ext, update_own}

-- none at the start
pub no_updates : (run : List ℕ) → updates_in run 0 ≡ []
unfolding tab
no_updates run = refl

-- one more, written behind the first i
pub one_more : (run : List ℕ) (i : ℕ) (u : Update) → i * 9 + 9 ≤ length run
    → updates_in (sets run (i * 9) (update_words u)) (i + 1) ≡ updates_in run i ++ (u ∷ [])
one_more run i u l =
    let ys = sets run (i * 9) (update_words u) in
    let f : ℕ → Update = λ (k : ℕ). update_at ys (k * 9) in
    let b : tab f i ≡ updates_in run i =
    tab_ext f _ i (λ k q. update_ext ys (k * 9) run (k * 9) (same_before 9 run (i * 9) (update_words u) (k * 9) (omega arith))) in
    tab_snoc f i ∙ rw (b, update_own run (i * 9) u l)

-- what is left from the place k on
pub next_left : (run : List ℕ) (n k : ℕ) → k < n → drop k (updates_in run n) ≡ update_at run (k * 9) ∷ drop (k + 1) (updates_in run n)
next_left run n k h = tab_turn (λ (i : ℕ). update_at run (i * 9)) n k h

-- behind the last none is left
pub none_left : (run : List ℕ) (n k : ℕ) → n ≤ k → drop k (updates_in run n) ≡ []
none_left run n k h = tab_end (λ (i : ℕ). update_at run (i * 9)) n k h
