-- Numbers that rise don't repeat.
use mathlib.Core.Path.{◌≡◌, refl}
use mathlib.Core.Bool.{Bool, true, false, ◌&&◌}
use mathlib.Core.List.{List, [], ◌∷◌}
use Prim.Native.Nat.{ℕ, ◌≤◌, ◌<◌}
use native.Mathlib.Omega.{arith}
use lib.Dec.{ltb}
use borrow.Author.Tests.{ltb-true, lt-ltb, ne_eqb}
use Rattle.board.specs.Sound.{among, distinct}
use Rattle.board.proofs.Tested.{both}

-- each is above the one before it, the first above `last`
unfoldable pub ascends : ℕ → List ℕ → Bool
ascends last [] = true
ascends last (d ∷ ds) = ltb last d && ascends d ds

pub ascends_end : (last : ℕ) → ascends last [] ≡ true
unfolding ascends
ascends_end last = refl

pub ascends_turn : (last d : ℕ) (ds : List ℕ) → last < d → ascends d ds ≡ true → ascends last (d ∷ ds) ≡ true
unfolding ascends
ascends_turn last d ds h e = rw (lt-ltb last d h, e)

-- none of them is one that isn't above `last`
above : (last d : ℕ) (es : List ℕ) → d ≤ last → ascends last es ≡ true → among d es ≡ false
unfolding ascends
above last d [] h e = refl
above last d (x ∷ es) h e =
    let p = both (ltb last x) (ascends x es) e in
    let l = ltb-true last x p.0 in
    rw (ne_eqb x d (λ q. absurd (omega (arith, q, l, h))), above x d es (omega (arith, l, h)) p.1)

pub ascends_distinct : (last : ℕ) (es : List ℕ) → ascends last es ≡ true → distinct es ≡ true
unfolding ascends distinct
ascends_distinct last [] e = refl
ascends_distinct last (x ∷ es) e =
    let p = both (ltb last x) (ascends x es) e in
    rw (above x x es (omega arith) p.1, ascends_distinct x es p.1)
