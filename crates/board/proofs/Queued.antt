-- What the queue keeps: numbers that rise from B+1 to H, entries in range for instruments that are followed.
use mathlib.Core.Path.{◌≡◌, refl}
use mathlib.Core.Bool.{Bool, true, false, cond, ◌&&◌}
use mathlib.Core.List.{List, [], ◌∷◌, ◌++◌}
use Prim.Native.Nat.{ℕ, ◌≤◌}
use native.Mathlib.Omega.{arith}
use lib.Dec.{ltb}
use borrow.Author.Tests.{ltb-true}
use Rattle.book.specs.declared.Update.{Update}
use Rattle.board.specs.Board.{Queued, speaks_of}
use Rattle.board.specs.Count.{joining}
use Rattle.board.specs.Snapshot.{after}
use Rattle.board.specs.Sound.{Each, Rising, SoundQueued}
use Rattle.board.proofs.Books.{Fine}

rising_joining : (from n k : ℕ) (us : List Update) → from ≤ n → Rising from n (joining n k us)
unfolding joining
rising_joining from n k [] h = tt
rising_joining from n k (u ∷ us) h = go (ltb u.who k) (rising_joining from n k us h) (rising_joining n n k us (omega arith))
  where
    go : (t : Bool) → Rising from n (joining n k us) → Rising n n (joining n k us)
        → Rising from n (cond t (record { number = n; update = u } ∷ joining n k us) (joining n k us))
    go true p q = (h, omega arith, q)
    go false p q = p

pub rising_longer : (from h n k : ℕ) (qs : List Queued) (us : List Update) → Rising from h qs → from ≤ n → h ≤ n → Rising from n (qs ++ joining n k us)
rising_longer from h n k [] us r l m = rising_joining from n k us l
rising_longer from h n k (q ∷ qs) us r l m =
    (r.0, omega (arith, r.1), rising_longer q.number h n k qs us r.2 (omega (arith, r.1)) m)

pub rising_more : (from h n : ℕ) (qs : List Queued) → Rising from h qs → h ≤ n → Rising from n qs
rising_more from h n [] r m = tt
rising_more from h n (q ∷ qs) r m = (r.0, omega (arith, r.1), rising_more q.number h n qs r.2 m)

pub joining_each : (depth n k : ℕ) (us : List Update) → Each (Fine depth) us → Each (SoundQueued depth k) (joining n k us)
unfolding joining
joining_each depth n k [] f = tt
joining_each depth n k (u ∷ us) f = go (ltb u.who k) refl (joining_each depth n k us f.1)
  where
    go : (t : Bool) → ltb u.who k ≡ t → Each (SoundQueued depth k) (joining n k us)
        → Each (SoundQueued depth k) (cond t (record { number = n; update = u } ∷ joining n k us) (joining n k us))
    go true e r = (record { who = ltb-true u.who k e; update = f.0 }, r)
    go false e r = r

pub after_each : (depth k i S : ℕ) (qs : List Queued) → Each (SoundQueued depth k) qs → Each (Fine depth) (after i S qs)
unfolding after
after_each depth k i S [] e = tt
after_each depth k i S (q ∷ qs) e = go (speaks_of i q.update && ltb S q.number) (after_each depth k i S qs e.1)
  where
    go : (t : Bool) → Each (Fine depth) (after i S qs) → Each (Fine depth) (cond t (q.update ∷ after i S qs) (after i S qs))
    go true r = (e.0.update, r)
    go false r = r
