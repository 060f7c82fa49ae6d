-- Laws of `tab`, `zeros` and `flat`, and what one turn of the loops that read and write them leaves.
use mathlib.Core.Path.{◌≡◌, refl, sym, ap, ◌∙◌}
use mathlib.Core.List.{List, [], ◌∷◌, ◌++◌, map, append_assoc}
use Prim.Native.Nat.{ℕ, zero, suc, ◌+◌, ◌*◌, ◌-◌, ◌≤◌, ◌<◌}
use native.Mathlib.Nat.{zero-mul, zero-add}
use native.Mathlib.Numerals.{add-one}
use native.Mathlib.Omega.{arith}
use lib.ListN.{length, take, drop, get_or, set, replicate, length-append, length-set, length-drop, get_or-append, drop_of_length-le}
use lib.Seq.{sets, drop-cons, take-suc, take-suc-set, length-take-le, get_or_at, get_or-append-add, ext_get_or, get_or-set_same, get_or-set_other}
use borrow.Rule.Slice.PartMut.{put_mid, mid_of}
use Rattle.std.proofs.lemmas.List.{replicate-append-replicate, drop-drop}
use Rattle.std.proofs.lemmas.List.Edits.{sets-eq}
use Rattle.book.specs.declared.Entry.{Entry}
use Rattle.cells.specs.Cells.{tab, zeros, flat, words}
use Rattle.cells.proofs.Stores.{below_or, sets_append, in_sets}

module _ {A : Type 0} where
  pub length_tab : (f : ℕ → A) (n : ℕ) → length (tab f n) ≡ n
  unfolding tab
  length_tab f zero = refl
  length_tab f (suc n) = rw length-append (omega (arith, length_tab f n))

  pub get_d_tab : (d : A) (f : ℕ → A) (n k : ℕ) → k < n → get_or (tab f n) k d ≡ f k
  unfolding tab
  get_d_tab d f zero k h = absurd (omega arith)
  get_d_tab d f (suc n) k h =
      below_or k n (λ l. get_or-append (tab f n) (f n ∷ []) d k (omega (arith, length_tab f n)) ∙ get_d_tab d f n k l)
      (λ l. let e : k ≡ n = omega arith in rw e (get_or_at (tab f n) (f n) [] d n (length_tab f n)))

  pub tab_ext : (f g : ℕ → A) (n : ℕ) → ((k : ℕ) → k < n → f k ≡ g k) → tab f n ≡ tab g n
  unfolding tab
  tab_ext f g zero h = refl
  tab_ext f g (suc n) h = rw (tab_ext f g n (λ k l. h k (omega arith)), h n (omega arith))

  -- one more
  pub tab_snoc : (f : ℕ → A) (n : ℕ) → tab f (n + 1) ≡ tab f n ++ (f n ∷ [])
  unfolding tab
  tab_snoc f n = rw add-one

  -- a turn of a loop that fills an array by a function of the index
  pub fill_turn : (f : ℕ → A) (p : List A) (i : ℕ) (v : A) → i < length p → take i p ≡ tab f i → v ≡ f i → take (i + 1) (set p i v) ≡ tab f (i + 1)
  fill_turn f p i v h e w = rw (tab_snoc f i, add-one, take-suc-set p i v h, e, w)

  -- a turn of a loop that goes over a table, and its end
  pub tab_turn : (f : ℕ → A) (n k : ℕ) → k < n → drop k (tab f n) ≡ f k ∷ drop (k + 1) (tab f n)
  tab_turn f n k h = rw (add-one, drop-cons (tab f n) k (f k) (rw (length_tab f n) h), get_d_tab (f k) f n k h)

  pub tab_end : (f : ℕ → A) (n k : ℕ) → n ≤ k → drop k (tab f n) ≡ []
  tab_end f n k h = drop_of_length-le (tab f n) {i = k} (rw (length_tab f n) h)

  -- one of a table's values replaced
  pub set_tab : (d : A) (f g : ℕ → A) (n i : ℕ) (v : A) → i < n → g i ≡ v → ((j : ℕ) → j < n → (j ≡ i → ⊥) → g j ≡ f j) → set (tab f n) i v ≡ tab g n
  set_tab d f g n i v h e o =
      ext_get_or d (set (tab f n) i v) (tab g n) (length-set (tab f n) i v ∙ length_tab f n ∙ sym (length_tab g n)) (λ j l.
      let m : j < n = omega (arith, length-set (tab f n) i v, length_tab f n) in
      below_or j i (λ p. other j m (λ z. omega arith)) (λ p. below_or i j (λ q. other j m (λ z. omega arith)) (λ q. own j (omega arith))))
    where
      other : (j : ℕ) → j < n → (j ≡ i → ⊥) → get_or (set (tab f n) i v) j d ≡ get_or (tab g n) j d
      other j m q = get_or-set_other (tab f n) i j v d q ∙ get_d_tab d f n j m ∙ sym (o j m q) ∙ sym (get_d_tab d g n j m)

      own : (j : ℕ) → j ≡ i → get_or (set (tab f n) i v) j d ≡ get_or (tab g n) j d
      own j z = rw z (get_or-set_same (tab f n) i v d (omega (arith, length_tab f n)) ∙ sym e ∙ sym (get_d_tab d g n i h))

module _ {A B : Type 0} where
  pub map_append : (f : A → B) (a b : List A) → map f (a ++ b) ≡ map f a ++ map f b
  map_append f [] b = refl
  map_append f (x ∷ a) b = rw (map_append f a b)

  pub map_tab : (f : A → B) (g : ℕ → A) (n : ℕ) → map f (tab g n) ≡ tab (λ (i : ℕ). f (g i)) n
  unfolding tab
  map_tab f g zero = refl
  map_tab f g (suc n) = rw (map_append f (tab g n) (g n ∷ []), map_tab f g n)

-- ---- zeros

pub length_zeros : (n : ℕ) → length (zeros n) ≡ n
unfolding zeros
length_zeros zero = refl
length_zeros (suc n) = rw length-append (omega (arith, length_zeros n))

pub get_d_zeros : (n k : ℕ) → get_or (zeros n) k 0 ≡ 0
unfolding zeros
get_d_zeros zero k = refl
get_d_zeros (suc n) k =
    below_or k n (λ l. get_or-append (zeros n) (0 ∷ []) 0 k (omega (arith, length_zeros n)) ∙ get_d_zeros n k)
    (λ l. let e : length (zeros n) + (k - n) ≡ k = omega (arith, length_zeros n) in rw e at (get_or-append-add (zeros n) (0 ∷ []) (k - n) 0 ∙ last (k - n)))
  where
    last : (j : ℕ) → get_or {A = ℕ} (0 ∷ []) j 0 ≡ 0
    last zero = refl
    last (suc j) = refl

-- filling a part with zeros writes them
zeros_are : (n : ℕ) → replicate n 0 ≡ zeros n
unfolding zeros
zeros_are zero = refl
zeros_are (suc n) =
    let e : replicate n 0 ++ (0 ∷ []) ≡ replicate (n + 1) 0 = replicate-append-replicate n 1 0 in
    ap (λ (k : ℕ). replicate k 0) (sym (add-one n)) ∙ sym e ∙ ap (λ (l : List ℕ). l ++ (0 ∷ [])) (zeros_are n)

pub filled : (l : List ℕ) (a k n : ℕ) (ws : List ℕ) → a + n ≤ length l → k ≡ n → ws ≡ replicate (length (mid_of a k l)) 0 → put_mid a k l ws ≡ sets l a (zeros n)
filled l a k n ws h e w =
    let m : length (mid_of a k l) ≡ n = rw e (length-take-le n (drop a l) (simp length-drop (omega arith))) in
    let z : ws ≡ zeros n = w ∙ ap (λ (i : ℕ). replicate i 0) m ∙ zeros_are n in
    rw (z, e, drop-drop n a l) (sym (append_assoc (take a l) (zeros n) (drop (a + n) l)) ∙ rw (length_zeros n) at (sym (sets-eq (zeros n) l a (omega (arith, length_zeros n)))))

-- a number in a run of zeros that was written
pub in_zeros : (xs : List ℕ) (a n k : ℕ) → a ≤ k → k < a + n → a + n ≤ length xs → get_or (sets xs a (zeros n)) k 0 ≡ 0
in_zeros xs a n k h l b =
    let e : a + (k - a) ≡ k = omega arith in
    rw e at (in_sets 0 xs a (zeros n) (k - a) (omega (arith, length_zeros n)) (omega (arith, length_zeros n)) ∙ get_d_zeros n (k - a))

-- ---- entries, one after the other

pub flat_append : (a b : List Entry) → flat (a ++ b) ≡ flat a ++ flat b
unfolding flat
flat_append [] b = refl
flat_append (e ∷ a) b = rw (flat_append a b) (sym (append_assoc (words e) (flat a) (flat b)))

pub length_flat : (es : List Entry) → length (flat es) ≡ length es * 5
unfolding flat
length_flat [] = refl
length_flat (e ∷ es) = omega (arith, length_flat es)

pub flat_at : (es : List Entry) (i j : ℕ) (z : Entry) → i < length es → j < 5 → get_or (flat es) (i * 5 + j) 0 ≡ get_or (words (get_or es i z)) j 0
unfolding flat
flat_at [] i j z h l = absurd (omega arith)
flat_at (e ∷ es) zero j z h l = rw (zero-mul, zero-add) (get_or-append (words e) (flat es) 0 j l)
flat_at (e ∷ es) (suc i) j z h l =
    let n : suc i * 5 + j ≡ 5 + (i * 5 + j) = omega arith in
    rw n (get_or-append-add (words e) (flat es) (i * 5 + j) 0 ∙ flat_at es i j z (omega arith) l)

-- a turn of the loop that writes the entries of es from a on
pub save_turn : (l : List ℕ) (a i o : ℕ) (es : List Entry) (z : Entry) → i < length es → o ≡ a + i * 5
    → sets (sets l a (flat (take i es))) o (words (get_or es i z)) ≡ sets l a (flat (take (i + 1) es))
unfolding flat
save_turn l a i o es z h e =
    let n : length (flat (take i es)) ≡ i * 5 = length_flat (take i es) ∙ ap (λ (k : ℕ). k * 5) (length-take-le i es (omega arith)) in
    let m : flat (take (i + 1) es) ≡ flat (take i es) ++ words (get_or es i z) =
    rw (add-one, take-suc es i z h) (flat_append (take i es) (get_or es i z ∷ [])) in
    rw (m, sets_append, n, e)
