-- A tag read in the loop that finds its '=': what the bytes before '=' say, by digits' laws. Assumes nothing.
use Rattle.std.specs.Prelude.{Some, None}
use mathlib.Core.Path.{◌≡◌, refl, sym, ap, ◌∙◌}
use mathlib.Core.List.{List}
use mathlib.Core.Bool.{Bool, true, false, cond, ◌&&◌}
use Prim.Native.Nat.{ℕ, ◌+◌, ◌-◌, ◌*◌, ◌^◌, ◌≤◌, ◌<◌}
use native.Mathlib.Nat.{add-zero}
use native.Mathlib.Omega.{arith}
use borrow.Author.Tests.{leb-true, leb-false}
use lib.Bits.{bit_xor}
use lib.Dec.{leb, eqb}
use lib.ListN.{length, get_or, drop, length-take, length-drop}
use lib.Seq.{get_or-take, get_or-drop}
use Rattle.digits.specs.Digits.{digits_of, whole_of, ranged_of, within}
use Rattle.digits.proofs.Steps.{rest, none, long, fit, short, zeroed, unzeroed, more, one, other, done}
use Rattle.digits.proofs.Ranges.{ranged_back}
use Rattle.digits.proofs.Width.{push, whole_below}
use Rattle.digits.proofs.Words.{is_digit_lem}
use Rattle.chain.specs.Places.{part, first_of, field_at}
use Rattle.chain.proofs.Ahead.{ahead_le}
use Rattle.chain.proofs.Scan.{found, passed, unfound}
use Rattle.chain.proofs.Reading.{no_equals, no_tag}

-- ---- digits that are no tag
unread : (t : List ℕ) → digits_of 5 t ≡ None → ranged_of 5 1 99999 t ≡ None
unfolding ranged_of whole_of
unread t e = rw e (go (leb 2 (length t)) (eqb (get_or t 0 0) 48))
  where
    go : (a b : Bool) → within 1 99999 (cond (a && b) None None) ≡ None
    go true true = refl
    go true false = refl
    go false b = refl

zero_unread : (t : List ℕ) → digits_of 5 t ≡ Some 0 → ranged_of 5 1 99999 t ≡ None
unfolding ranged_of whole_of
zero_unread t e = rw e (go (leb 2 (length t)) (eqb (get_or t 0 0) 48))
  where
    go : (a b : Bool) → within 1 99999 (cond (a && b) None (Some 0)) ≡ None
    go true true = refl
    go true false = refl
    go false b = refl

zeroed_unread : (t : List ℕ) → whole_of 5 t ≡ None → ranged_of 5 1 99999 t ≡ None
unfolding ranged_of
zeroed_unread t e = rw e

-- what the bytes give is what digits give, where there are 1 to 5
stopped : (t : List ℕ) → rest 0 t ≡ None → digits_of 5 t ≡ None
stopped t e = go (leb 1 (length t)) (leb (length t) 5) refl refl
  where
    go : (a b : Bool) → leb 1 (length t) ≡ a → leb (length t) 5 ≡ b → digits_of 5 t ≡ None
    go false b p q = let l = leb-false 1 (length t) p in none t 5 (omega arith)
    go true false p q = long t 5 (leb-true 1 (length t) p) (leb-false (length t) 5 q)
    go true true p q = fit t 5 (leb-true 1 (length t) p) (leb-true (length t) 5 q) (omega arith) ∙ e

-- ---- the bytes before '='
module _ (s : List ℕ) (at : ℕ) where
  abbrev bytes : List ℕ
  bytes = part at (first_of 61 s at) s

  size : length bytes ≡ first_of 61 s at - at
  size = let a = ahead_le 61 (drop at s) in rw length-take (omega (arith, a, length-drop at s))

  pub record Reads (i v : ℕ) : Type 0 where
    pub after : at ≤ i
    pub few : i - at ≤ 5
    pub same : first_of 61 s i ≡ first_of 61 s at
    pub big : v < 10 ^ (i - at)
    pub left : rest 0 bytes ≡ rest v (drop (i - at) bytes)

  pub starts : Reads at 0
  starts =
      let z : at - at ≡ 0 = omega arith in
      record { after = omega arith; few = omega arith; same = refl; big = rw z (omega arith); left = rw z }

  module _ (i v : ℕ) (w : Reads i v) where
    -- no '=' is found
    pub ends : length s ≤ i → field_at s at ≡ None
    ends l = no_equals s at i (sym (unfound s i 61 l) ∙ w.same) l

    module _ (l : i < length s) where
      -- '=' is found
      module _ (q : get_or s i 0 ≡ 61) where
        pub here : i ≡ first_of 61 s at
        here = sym (found s i 61 l q) ∙ w.same

        all : rest 0 bytes ≡ Some v
        all = w.left ∙ done bytes (i - at) v (omega (arith, size, here))

        first_byte : at < i → get_or bytes 0 0 ≡ get_or s at 0
        first_byte g = get_or-take (first_of 61 s at - at) (drop at s) 0 0 (omega (arith, here)) ∙ get_or-drop at s 0 0 ∙ ap (λ (k : ℕ). get_or s k 0) (add-zero at)

        no : ranged_of 5 1 99999 bytes ≡ None → field_at s at ≡ None
        no r = no_tag s at (first_of 61 s at) refl r

        five : length bytes ≤ 5
        five = omega (arith, size, here, w.few)

        -- there is no digit, or there are zeros only
        pub at_zero : v ≡ 0 → field_at s at ≡ None
        at_zero z = no (go (leb 1 (length bytes)) refl)
          where
            go : (a : Bool) → leb 1 (length bytes) ≡ a → ranged_of 5 1 99999 bytes ≡ None
            go false p = let g = leb-false 1 (length bytes) p in unread bytes (none bytes 5 (omega arith))
            go true p = zero_unread bytes (fit bytes 5 (leb-true 1 (length bytes) p) five (omega arith) ∙ all ∙ ap Some z)

        -- the first is a zero
        pub at_leading : (v ≡ 0 → ⊥) → get_or s at 0 ≡ 48 → field_at s at ≡ None
        at_leading n e = no (go (leb 2 (length bytes)) refl)
          where
            only : length bytes ≤ 1 → rest 0 bytes ≡ Some 0
            only h = go' (leb 1 (length bytes)) refl
              where
                go' : (a : Bool) → leb 1 (length bytes) ≡ a → rest 0 bytes ≡ Some 0
                go' false p = let g = leb-false 1 (length bytes) p in done bytes 0 0 (omega arith)
                go' true p =
                    let g = leb-true 1 (length bytes) p in
                    let b : get_or bytes 0 0 ≡ 48 = first_byte (omega (arith, size, here)) ∙ e in
                    more bytes 0 0 (omega arith) (omega arith) (omega arith) ∙ done bytes 1 (0 * 10 + (get_or bytes 0 0 - 48)) h ∙ ap Some (omega arith)

            is_zero : length bytes ≤ 1 → v ≡ 0
            is_zero h = let f : Some v ≡ Some 0 = sym all ∙ only h in cc

            go : (a : Bool) → leb 2 (length bytes) ≡ a → ranged_of 5 1 99999 bytes ≡ None
            go false p = let g = leb-false 2 (length bytes) p in absurd (n (is_zero (omega arith)))
            go true p =
                let g = leb-true 2 (length bytes) p in
                zeroed_unread bytes (zeroed bytes 5 g (first_byte (omega (arith, size, here)) ∙ e))

        -- a tag
        pub at_tag : (v ≡ 0 → ⊥) → (get_or s at 0 ≡ 48 → ⊥) → ranged_of 5 1 99999 (part at i s) ≡ Some v
        at_tag n e = ap (λ (m : ℕ). ranged_of 5 1 99999 (part at m s)) here ∙ ranged_back 5 1 99999 bytes is_whole (omega arith) (let b : v < 100000 = whole_below 5 bytes is_whole in omega arith)
          where
            some : 1 ≤ length bytes
            some = go' (leb 1 (length bytes)) refl
              where
                go' : (a : Bool) → leb 1 (length bytes) ≡ a → 1 ≤ length bytes
                go' false p =
                    let g = leb-false 1 (length bytes) p in
                    let f : Some v ≡ Some 0 = sym all ∙ done bytes 0 0 (omega arith) in
                    let z : v ≡ 0 = cc in
                    absurd (n z)
                go' true p = leb-true 1 (length bytes) p

            is_whole : whole_of 5 bytes ≡ Some v
            is_whole = go (leb 2 (length bytes)) refl ∙ fit bytes 5 some five (omega arith) ∙ all
              where
                go : (a : Bool) → leb 2 (length bytes) ≡ a → whole_of 5 bytes ≡ digits_of 5 bytes
                go false p = let g = leb-false 2 (length bytes) p in short bytes 5 (omega arith)
                go true p =
                    let g = leb-true 2 (length bytes) p in
                    unzeroed bytes 5 g (λ z. e (sym (first_byte (omega (arith, size, here))) ∙ z))

      -- another byte
      module _ (q : get_or s i 0 ≡ 61 → ⊥) where
        later : i + 1 ≤ first_of 61 s at
        later = omega (arith, passed s i 61 l q, w.same)

        inside : i - at < length bytes
        inside = omega (arith, size, later, w.after)

        byte : get_or bytes (i - at) 0 ≡ get_or s i 0
        byte =
            let k : at + (i - at) ≡ i = omega (arith, w.after) in
            get_or-take (first_of 61 s at - at) (drop at s) (i - at) 0 (omega (arith, later, w.after)) ∙ get_or-drop at s (i - at) 0
            ∙ ap (λ (k : ℕ). get_or s k 0) k

        too_many : 5 ≤ i - at → field_at s at ≡ None
        too_many h = no_tag s at (first_of 61 s at) refl (unread bytes (long bytes 5 (omega (arith, inside)) (omega (arith, inside))))

        -- x is what the byte is worth
        module _ (x : ℕ) (e : x ≡ bit_xor (get_or s i 0) 48) where
          worth : x ≡ bit_xor (get_or bytes (i - at) 0) 48
          worth = e ∙ ap (λ (b : ℕ). bit_xor b 48) (sym byte)

          pub no_digit : 9 < x → field_at s at ≡ None
          no_digit h = no_tag s at (first_of 61 s at) refl (unread bytes (stopped bytes (w.left ∙ other bytes (i - at) v x worth inside h)))

          one_more : x ≤ 9 → i - at < 5 → Reads (i + 1) (v * 10 + x)
          one_more d h =
              let z : i + 1 - at ≡ i - at + 1 = omega (arith, w.after) in
              record {
                after = omega (arith, w.after);
                few = omega (arith, w.after);
                same = passed s i 61 l q ∙ w.same;
                big = rw z (push (i - at) w.big (omega arith));
                left = rw z (w.left ∙ one bytes (i - at) v x worth inside d);
              }

      -- a digit, which is not '='
      module _ (x : ℕ) (e : x ≡ bit_xor (get_or s i 0) 48) (d : x ≤ 9) where
        unlike : get_or s i 0 ≡ 61 → ⊥
        unlike z = let b = is_digit_lem (get_or s i 0) (omega arith) in absurd (omega arith)

        pub too_long : 5 ≤ i - at → field_at s at ≡ None
        too_long h = too_many unlike h

        pub goes_on_lem : i - at < 5 → Reads (i + 1) (v * 10 + x)
        goes_on_lem h = one_more unlike x e d h
