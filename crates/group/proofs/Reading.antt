-- What a reader leaves of the run: what no entry may fill. Assumes nothing.
use mathlib.Core.Path.{◌≡◌, refl, ◌∙◌}
use mathlib.Core.List.{List}
use Prim.Native.Nat.{ℕ, ◌*◌, ◌<◌}
use native.Mathlib.Omega.{arith}
use lib.Seq.{sets, length-sets}
use Rattle.book.specs.declared.Update.{Update}
use Rattle.cells.specs.Cells.{update_words}
use Rattle.cells.proofs.Stores.{behind_sets}
use Rattle.group.specs.Reads.{Spared}

pub spared_all : (xs : List ℕ) → Spared xs xs
spared_all xs = record { size = refl; behind = λ k l. refl }

-- one of 64 entries is written
pub spared_more : {xs ys zs : List ℕ} (n : ℕ) (u : Update) → n < 64 → zs ≡ sets ys (n * 9) (update_words u) → Spared xs ys → Spared xs zs
spared_more {ys = ys} n u l e h =
    let ws = update_words u in
    rw e (record { size = length-sets ys (n * 9) ws ∙ h.size; behind = λ k g. behind_sets 0 ys (n * 9) ws k (omega arith) ∙ h.behind k g })
