-- What the shifts of the places make: an entry put in, some taken out, the rest unused, and one replaced.
use mathlib.Core.Path.{◌≡◌, sym, ap, ◌∙◌}
use mathlib.Core.List.{List, [], ◌∷◌, ◌++◌, append-nil, append_assoc}
use Prim.Native.Nat.{ℕ, suc, ◌+◌, ◌-◌, ◌≤◌, ◌<◌}
use native.Mathlib.Numerals.{add-one}
use native.Mathlib.Omega.{arith}
use lib.ListN.{length, length-set, length-append, length-take, length-drop, set, take, drop, replicate, drop_of_length-le, take-append-drop}
use lib.Seq.{paste, take_all, set_split, length-take-le}
use borrow.Rule.Slice.PartMut.{put_mid, mid_of}
use Rattle.std.proofs.lemmas.List.{drop_at, take-take, take-append-le}
use Rattle.book.specs.declared.Entry.{Entry}
use Rattle.book.specs.Sides.{no_entry, pad}
use Rattle.book.proofs.Padding.{pad_all, pad_whole, pad_append}

module _ (n : ℕ) (b : List Entry) (i : ℕ) (full : length b ≡ n) where
  -- past the end nothing changes
  pub past : (l : List Entry) → n ≤ i → b ≡ pad n (take i b ++ l)
  past l h = rw (take_all i b (omega arith)) (sym (pad_all n b l full))

  pub kept_past : n ≤ i → b ≡ pad n (take i b)
  kept_past h = rw (take_all i b (omega arith)) (sym (pad_whole n b full))

  -- the places from i on moved down by one, and e put at i
  pub pushed : (e : Entry) → i < n → set (paste b (i + 1) (drop i b) (n - 1 - i)) i e ≡ pad n (take i b ++ e ∷ drop i b)
  pushed e h =
      let k = n - 1 - i in
      let t = take k (drop i b) in
      let p = take (i + 1) b in
      let none : drop (i + 1 + k) b ≡ [] = drop_of_length-le b (omega arith) in
      let long : length p ≡ suc i = length-take-le (i + 1) b (omega arith) ∙ add-one i in
      let moved : paste b (i + 1) (drop i b) k ≡ p ++ t = rw (none, append-nil) in
      let small : length t ≡ k = length-take-le k (drop i b) (simp length-drop (omega arith)) in
      let q : set (p ++ t) i e ≡ take i b ++ e ∷ t =
      set_split (p ++ t) i e (simp length-append (omega arith))
      ∙ rw (drop_at p t (suc i) long, take-append-le i p t (omega arith), take-take i (i + 1) b (omega arith)) in
      let r : (take i b ++ e ∷ t) ++ drop k (drop i b) ≡ take i b ++ e ∷ drop i b =
      append_assoc (take i b) (e ∷ t) (drop k (drop i b)) ∙ ap (λ (l : List Entry). take i b ++ e ∷ l) (take-append-drop k (drop i b)) in
      ap (λ (l : List Entry). set l i e) moved
      ∙ q
      ∙ sym (pad_all n (take i b ++ e ∷ t) (drop k (drop i b)) (simp length-append (omega (arith, small, length-take-le i b))))
      ∙ ap (pad n) r

  -- the places from i on unused
  pub cleared : (k : ℕ) (ws : List Entry) (e : Entry) → i < n → k ≡ n - i → ws ≡ replicate (length (mid_of i k b)) e → e ≡ no_entry
      → put_mid i k b ws ≡ pad n (take i b)
  cleared k ws e h g w z =
      let none : drop k (drop i b) ≡ [] = drop_of_length-le (drop i b) (simp length-drop (omega arith)) in
      let long : length (take i b) ≡ i = length-take-le i b (omega arith) in
      let some : length (mid_of i k b) ≡ n - i = simp (length-take, length-drop) (omega arith) in
      let p = pad_append n (take i b) (omega arith) in
      rw (none, append-nil, w, some, z) (rw long at (sym p))

  -- the place at i replaced
  pub replaced : (e : Entry) → i < n → set b i e ≡ pad n (take i b ++ e ∷ drop (i + 1) b)
  replaced e h = rw (add-one, ← set_split b i e (omega arith)) (sym (pad_whole n (set b i e) (rw length-set full)))
