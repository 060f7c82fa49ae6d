-- Entries run on a book: one after another, and whoever they are aimed at.
use mathlib.Core.Path.{◌≡◌, refl, ◌∙◌, ap}
use mathlib.Core.List.{List, [], ◌∷◌, ◌++◌, map}
use Prim.Native.Nat.{ℕ}
use Rattle.book.specs.Rules.{Lists, Outcome, leaves, breach, applied}
use Rattle.book.specs.declared.Update.{Update}
use Rattle.board.specs.Count.{to}
use Rattle.board.specs.Snapshot.{and_then, run}

-- what two do on each book they do after any outcome
pub then_same : (f g : Lists → Outcome Lists) → ((b : Lists) → f b ≡ g b) → (o : Outcome Lists) → and_then o f ≡ and_then o g
then_same f g h (leaves b) = h b
then_same f g h (breach r) = refl

pub then_leaves : (o : Outcome Lists) → and_then o leaves ≡ o
then_leaves (leaves b) = refl
then_leaves (breach r) = refl

then_then : (o : Outcome Lists) (f g : Lists → Outcome Lists) → and_then o (λ b. and_then (f b) g) ≡ and_then (and_then o f) g
then_then (leaves b) f g = refl
then_then (breach r) f g = refl

pub run_append : (us vs : List Update) (b : Lists) → run (us ++ vs) b ≡ and_then (run us b) (run vs)
unfolding run
run_append [] vs b = refl
run_append (u ∷ us) vs b =
    then_same (run (us ++ vs)) (λ c. and_then (run us c) (run vs)) (run_append us vs) (applied b u) ∙ then_then (applied b u) (run us) (run vs)

-- who an entry is for plays no part on a book
applied_to : (i : ℕ) (b : Lists) (u : Update) → applied b (to i u) ≡ applied b u
unfolding applied
applied_to i b u = refl

pub run_to : (i : ℕ) (us : List Update) (b : Lists) → run (map (to i) us) b ≡ run us b
unfolding run
run_to i [] b = refl
run_to i (u ∷ us) b =
    ap (λ (o : Outcome Lists). and_then o (run (map (to i) us))) (applied_to i b u)
    ∙ then_same (run (map (to i) us)) (run us) (run_to i us) (applied b u)
