-- The five numbers as the store has them. Assumes nothing.
use mathlib.Core.Path.{◌≡◌, refl, sym, ap, ◌∙◌}
use mathlib.Core.Bool.{Bool, true, false, cond}
use mathlib.Core.List.{List, [], ◌∷◌, ◌++◌}
use Prim.Native.Nat.{ℕ}
use lib.Dec.{eqb}
use lib.ListN.{get_or, set}
use lib.Seq.{sets}
use Rattle.board.specs.Sound.{heard_fine}
use Rattle.store.specs.Layout.{at_number, at_base, at_heard, at_marks}
use Rattle.store.specs.Meaning.{board_of, board_at}
use Rattle.sound.specs.Sound.{sound}
use Rattle.sound.proofs.Marks.{marks_back}
use Rattle.sound.proofs.Readers.{formed, board}
use Rattle.ask.specs.Ask.{moment_words}
use Rattle.summary.specs.Summary.{heard_words, summary_words}

-- one number, two, two
parts : (l : List ℕ) (H heard B marks : ℕ)
    → set (set (sets (set l 0 H) 1 (heard_words H heard)) 3 B) 4 marks ≡ sets l 0 (H ∷ heard_words H heard ++ (B ∷ marks ∷ []))
parts l H heard B marks = go (eqb H 0)
  where
    go : (t : Bool)
        → set (set (sets (set l 0 H) 1 (cond t (0 ∷ 0 ∷ []) (moment_words heard))) 3 B) 4 marks
        ≡ sets l 0 (H ∷ cond t (0 ∷ 0 ∷ []) (moment_words heard) ++ (B ∷ marks ∷ []))
    go true = refl
    go false = refl

-- the board's numbers are the store's
pub put_is : (l xs : List ℕ) → sound xs ≡ true
    → set (set (sets (set l 0 (get_or xs at_number 0)) 1 (heard_words (get_or xs at_number 0) (get_or xs at_heard 0))) 3 (get_or xs at_base 0)) 4 (get_or xs at_marks 0)
    ≡ sets l 0 (summary_words (board_at xs))
unfolding board_of
put_is l xs s =
    let H = get_or xs at_number 0 in
    let heard = get_or xs at_heard 0 in
    let B = get_or xs at_base 0 in
    let back = marks_back (get_or xs at_marks 0) xs _ (formed xs s).marks in
    parts l H heard B (get_or xs at_marks 0) ∙ ap (λ (m : ℕ). sets l 0 (H ∷ heard_words H heard ++ (B ∷ m ∷ []))) (sym back)

-- the heard moment is one, where anything is heard
pub heard : (xs : List ℕ) → sound xs ≡ true → heard_fine (get_or xs at_number 0) (get_or xs at_heard 0) ≡ true
unfolding board_of
heard xs s = (board xs s).heard
