-- What is shown of the stretches that 11 and 12 do not refuse. Assumes nothing.
use mathlib.Core.Path.{◌≡◌, refl, sym, ap, ◌∙◌}
use mathlib.Core.List.{List, [], ◌∷◌, ◌++◌}
use mathlib.Core.Bool.{Bool, true, false, not, ◌&&◌, ◌||◌, true≢false, false≢true}
use Prim.Native.Nat.{ℕ, ◌+◌, ◌≤◌, ◌<◌}
use native.Mathlib.Omega.{arith}
use borrow.Author.Tests.{leb-true, leb-false, lt-leb}
use lib.Dec.{leb, eqb}
use lib.ListN.{length, drop, length-append, length-drop, drop_of_length-le}
use lib.Seq.{take-append-le, drop-append-le}
use Rattle.stretch.specs.Stretches.{Taken, longest, stretch_of, stretch_at}
use Rattle.stretch.specs.Windows.{beginning, agrees, decided}
use Rattle.stretch.specs.Laws.{OneStretch, FoundIsTaken, Kept, MoreKeeps}
use Rattle.stretch.proofs.Stretching.{taken_named, one_stretch, taken_stretch, stretch_taken, none_taken, too_short}

pub only_one : OneStretch
only_one s n t =
    let b = taken_named s t in
    record { named = b.name; low = b.low; high = b.high; others = λ m u. one_stretch s u t; found = taken_stretch s n t }

pub found_is_taken : FoundIsTaken
found_is_taken = stretch_taken

-- ---- more bytes behind
more_taken : (s rest : List ℕ) (n : ℕ) → Taken s n → Taken (s ++ rest) n
more_taken s rest n t = record { inside = omega (arith, t.inside, length-append s rest); good = rw (take-append-le n s rest t.inside) t.good }

more_far : (s rest : List ℕ) → longest ≤ length s → stretch_of (s ++ rest) ≡ stretch_of s
more_far s rest l = go (leb 1 (stretch_of (s ++ rest))) refl
  where
    go : (b : Bool) → leb 1 (stretch_of (s ++ rest)) ≡ b → stretch_of (s ++ rest) ≡ stretch_of s
    go true e =
        let n = stretch_of (s ++ rest) in
        let t = stretch_taken (s ++ rest) (leb-true 1 n e) in
        let i : n ≤ length s = omega (arith, (taken_named (s ++ rest) t).high) in
        sym (taken_stretch s n (record { inside = i; good = rw (take-append-le n s rest i) at t.good }))
    go false e =
        let z : stretch_of (s ++ rest) ≡ 0 = omega (arith, leb-false 1 (stretch_of (s ++ rest)) e) in
        z ∙ sym (none_taken s (λ n t. omega (arith, taken_stretch (s ++ rest) n (more_taken s rest n t), (taken_named s t).low)))

more_stays : (s rest : List ℕ) → 1 ≤ stretch_of s → stretch_of (s ++ rest) ≡ stretch_of s
more_stays s rest h = taken_stretch (s ++ rest) (stretch_of s) (more_taken s rest (stretch_of s) (stretch_taken s h))

agrees_more : (s rest ys : List ℕ) → agrees s ys ≡ false → agrees (s ++ rest) ys ≡ false
agrees_more [] rest ys h = absurd (true≢false h)
agrees_more (x ∷ s) rest [] h = absurd (true≢false h)
agrees_more (x ∷ s) rest (y ∷ ys) h = go (eqb x y) h (agrees_more s rest ys)
  where
    go : (b : Bool) → b && agrees s ys ≡ false → (agrees s ys ≡ false → agrees (s ++ rest) ys ≡ false) → b && agrees (s ++ rest) ys ≡ false
    go true h i = i h
    go false h i = refl

agrees_nil : (s : List ℕ) → agrees s [] ≡ true
agrees_nil [] = refl
agrees_nil (x ∷ s) = refl

-- what does not begin as a message does is none
unlike : (s : List ℕ) → agrees s beginning ≡ false → stretch_of s ≡ 0
unlike s h =
    none_taken s (λ n t. let b = taken_named s t in true≢false (sym (agrees_nil b.rest) ∙ sym (ap (λ (l : List ℕ). agrees l beginning) b.begins) ∙ h))

more_unlike : (s rest : List ℕ) → agrees s beginning ≡ false → stretch_of (s ++ rest) ≡ stretch_of s
more_unlike s rest h = unlike (s ++ rest) (agrees_more s rest beginning h) ∙ sym (unlike s h)

-- ---- at a place of a window
module _ (w rest : List ℕ) (p : ℕ) where
  more_decides : p ≤ length w → decided w p ≡ true → stretch_at (w ++ rest) p ≡ stretch_at w p
  more_decides l = go (leb (p + longest) (length w)) (agrees (drop p w) beginning) refl refl
    where
      go : (a b : Bool) → leb (p + longest) (length w) ≡ a → agrees (drop p w) beginning ≡ b → a || not b ≡ true → stretch_at (w ++ rest) p ≡ stretch_at w p
      go true b e f h = rw (drop-append-le p w rest l) (more_far (drop p w) rest (rw length-drop (omega (arith, leb-true (p + longest) (length w) e))))
      go false true e f h = absurd (false≢true h)
      go false false e f h = rw (drop-append-le p w rest l) (more_unlike (drop p w) rest f)

  -- past its end nothing is decided, and nothing is found
  open_past : length w < p → decided w p ≡ false
  open_past l = rw (drop_of_length-le w {i = p} (omega arith), lt-leb (p + longest) (length w) (omega arith))

  none_past : length w < p → stretch_at w p ≡ 0
  none_past l = too_short (drop p w) (rw length-drop (omega arith))

pub more_keeps : MoreKeeps
more_keeps w rest p = go (leb p (length w)) refl
  where
    go : (b : Bool) → leb p (length w) ≡ b → Kept w rest p
    go true e =
        let l = leb-true p (length w) e in
        record { decides = more_decides w rest p l; stays = λ h. rw (drop-append-le p w rest l) (more_stays (drop p w) rest h) }
    go false e =
        let l = leb-false p (length w) e in
        record { decides = λ h. absurd (false≢true (sym (open_past w rest p l) ∙ h)); stays = λ h. absurd (omega (arith, none_past w rest p l)) }
