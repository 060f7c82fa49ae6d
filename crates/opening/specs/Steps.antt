-- What the functions of this crate leave of a store.
use Rattle.std.specs.Prelude.{List, [], ◌∷◌, ℕ, suc, length, set}
use Rattle.std.proofs.lemmas.List.Edits.{sets}
use Rattle.cells.specs.Cells.{zeros}
use Rattle.heading.specs.declared.Heading.{Heading}
use Rattle.heading.specs.Marks.{all_marks}
use Rattle.store.specs.Layout.{store_size, layout_number, at_layout, at_depth, id_of}
use Rattle.store.specs.Meaning.{head_words}

-- The heading at opening: H and B are 0, nothing is heard or queued, all n are Waiting.
abbrev pub fresh_heading : ℕ → ℕ → Heading
fresh_heading depth n = record { depth = depth; followed = n; number = 0; base = 0; heard = 0; marks = all_marks n; queued = 0 }

-- The SecurityIDs in their records, from record i on.
abbrev pub ids_in : List ℕ → ℕ → List ℕ → List ℕ
ids_in xs i [] = xs
ids_in xs i (d ∷ ds) = ids_in (set xs (id_of i) d) (suc i) ds

-- Zeros, the layout's number, the heading, the SecurityIDs.
abbrev pub headed_store : ℕ → ℕ → List ℕ → List ℕ
headed_store depth n xs = sets (set (sets xs 0 (zeros store_size)) at_layout layout_number) at_depth (head_words (fresh_heading depth n))

abbrev pub opened_store : ℕ → List ℕ → List ℕ → List ℕ
opened_store depth ids xs = ids_in (headed_store depth (length ids) xs) 0 ids
