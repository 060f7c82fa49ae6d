-- Words and their bytes determine each other. Assumes nothing.
use mathlib.Core.Path.{◌≡◌, refl, sym}
use mathlib.Core.Bool.{Bool, true, false, cond, ◌&&◌, false≢true}
use mathlib.Core.List.{List, [], ◌∷◌, ◌++◌, append_assoc}
use Prim.Native.Nat.{ℕ, zero, suc, ◌+◌, ◌-◌, ◌*◌, ◌/◌, ◌%◌, ◌≤◌, ◌<◌}
use native.Mathlib.Nat.{add-suc, suc-add, add-zero, zero-add}
use native.Mathlib.Omega.{arith}
use borrow.Author.Tests.{eqb-true, eqb-false, leb-true, le-leb, ne_eqb}
use lib.Dec.{leb, eqb}
use lib.ListN.{length, length-append}
use Rattle.orderid.specs.OrderIds.{id_byte, id_bytes, word_from, word_text, top}

pub both : (a b : Bool) → a && b ≡ true → (a ≡ true) × (b ≡ true)
both true b h = (refl, h)
both false b h = absurd (false≢true h)

-- the first byte of an id, and the rest
pub id_byte_lem : (b : ℕ) (bs : List ℕ) → id_bytes (b ∷ bs) ≡ true → ((33 ≤ b) × (b ≤ 126)) × (id_bytes bs ≡ true)
id_byte_lem b bs h =
    let a = both (id_byte b) (id_bytes bs) h in
    let c = both (leb 33 b) (leb b 126) a.0 in
    ((leb-true _ _ c.0, leb-true _ _ c.1), a.1)

pub bytes_append : (a b : List ℕ) → id_bytes (a ++ b) ≡ id_bytes a && id_bytes b
bytes_append [] b = refl
bytes_append (x ∷ a) b = go (id_byte x) (bytes_append a b)
  where
    go : (t : Bool) → id_bytes (a ++ b) ≡ id_bytes a && id_bytes b → t && id_bytes (a ++ b) ≡ (t && id_bytes a) && id_bytes b
    go true e = e
    go false e = refl

-- ---- words of n bytes
-- the greatest; those of n + 1 bytes follow it
unfoldable pub top_of : ℕ → ℕ
top_of zero = 0
top_of (suc n) = top_of n * 94 + 94

pub top_step : (n : ℕ) {v d : ℕ} → v ≤ top_of n → d ≤ 94 → v * 94 + d ≤ top_of (suc n)
unfolding top_of
top_step n h k = omega arith

top_up : (j n : ℕ) → top_of n ≤ top_of (j + n)
unfolding top_of
top_up zero n = rw zero-add (omega arith)
top_up (suc j) n = rw suc-add (omega (arith, top_up j n))

-- words of up to 8 bytes fit 64 bits with one byte more
pub top_small : (n : ℕ) → n ≤ 8 → top_of n ≤ top
unfolding top_of
top_small n h = let z : 8 - n + n ≡ 8 = omega arith in rw z at (top_up (8 - n) n)

-- ---- the bytes of a number
pub text_zero : (k : ℕ) → word_text k 0 ≡ []
unfolding word_text
text_zero zero = refl
text_zero (suc k) = refl

pub text_more : (k n : ℕ) → (n ≡ 0 → ⊥) → word_text (suc k) n ≡ word_text k ((n - 1) / 94) ++ ((33 + (n - 1) % 94) ∷ [])
unfolding word_text
text_more k n h = rw (ne_eqb n 0 h)

pub text_most : (k n : ℕ) → length (word_text k n) ≤ k
unfolding word_text
text_most zero n = omega arith
text_most (suc k) n = go (eqb n 0) (text_most k ((n - 1) / 94))
  where
    go : (t : Bool) → length (word_text k ((n - 1) / 94)) ≤ k → length (cond t [] (word_text k ((n - 1) / 94) ++ ((33 + (n - 1) % 94) ∷ []))) ≤ suc k
    go true h = omega arith
    go false h = rw length-append (omega arith)

pub text_bytes : (k n : ℕ) → id_bytes (word_text k n) ≡ true
unfolding word_text
text_bytes zero n = refl
text_bytes (suc k) n = go (eqb n 0) (text_bytes k ((n - 1) / 94))
  where
    go : (t : Bool) → id_bytes (word_text k ((n - 1) / 94)) ≡ true → id_bytes (cond t [] (word_text k ((n - 1) / 94) ++ ((33 + (n - 1) % 94) ∷ []))) ≡ true
    go true h = refl
    go false h = rw (bytes_append, h, le-leb 33 (33 + (n - 1) % 94) (omega arith), le-leb (33 + (n - 1) % 94) 126 (omega arith))

-- a word above those of k bytes has more
pub text_full : (k n : ℕ) → top_of k < n → length (word_text (suc k) n) ≡ suc k
unfolding top_of
text_full zero n h = rw (text_more zero n (λ e. omega arith), length-append) (omega (arith, text_most 0 ((n - 1) / 94)))
text_full (suc k) n h = rw (text_more (suc k) n (λ e. omega arith), length-append) (omega (arith, text_full k ((n - 1) / 94) (omega arith)))

-- ---- from a number to its bytes and back
word_append : (v : ℕ) (a : List ℕ) (b : ℕ) → word_from v (a ++ (b ∷ [])) ≡ word_from v a * 94 + (b - 32)
word_append v [] b = refl
word_append v (x ∷ a) b = word_append (v * 94 + (x - 32)) a b

pub word_back : (k n : ℕ) → n ≤ top_of k → word_from 0 (word_text k n) ≡ n
unfolding top_of word_text
word_back zero n h = omega arith
word_back (suc k) n h = go (eqb n 0) refl (λ l. word_back k ((n - 1) / 94) l)
  where
    go : (t : Bool) → eqb n 0 ≡ t → ((n - 1) / 94 ≤ top_of k → word_from 0 (word_text k ((n - 1) / 94)) ≡ (n - 1) / 94) → word_from 0 (cond t [] (word_text k ((n - 1) / 94) ++ ((33 + (n - 1) % 94) ∷ []))) ≡ n
    go true e r = sym (eqb-true n 0 e)
    go false e r =
        rw (word_append 0 (word_text k ((n - 1) / 94)) (33 + (n - 1) % 94), r (omega arith))
        (omega (arith, eqb-false n 0 e))

-- ---- from bytes to their number and back
pub bytes_back : (bs : List ℕ) (k v : ℕ) → id_bytes bs ≡ true → word_text (k + length bs) (word_from v bs) ≡ word_text k v ++ bs
bytes_back [] k v h = rw (add-zero, mathlib.Core.List.append-nil)
bytes_back (b ∷ bs) k v h =
    let i = id_byte_lem b bs h in
    let n = v * 94 + (b - 32) in
    let q : (n - 1) / 94 ≡ v = omega (arith, i.0) in
    let r : 33 + (n - 1) % 94 ≡ b = omega (arith, i.0) in
    rw (add-suc, ← suc-add, bytes_back bs (suc k) n i.1, text_more k n (λ e. omega (arith, i.0)), q, r, append_assoc)

-- ---- the range of a word
pub word_top : (bs : List ℕ) (k v : ℕ) → id_bytes bs ≡ true → v ≤ top_of k → word_from v bs ≤ top_of (k + length bs)
word_top [] k v h l = rw add-zero l
word_top (b ∷ bs) k v h l =
    let i = id_byte_lem b bs h in
    rw (add-suc, ← suc-add) (word_top bs (suc k) (v * 94 + (b - 32)) i.1 (top_step k l (omega (arith, i.0))))

low_step : (k : ℕ) {v d : ℕ} → top_of k < v → 1 ≤ d → top_of (suc k) < v * 94 + d
unfolding top_of
low_step k h l = omega arith

pub word_low : (bs : List ℕ) (k v : ℕ) → id_bytes bs ≡ true → top_of k < v → top_of (k + length bs) < word_from v bs
word_low [] k v h l = rw add-zero l
word_low (b ∷ bs) k v h l =
    let i = id_byte_lem b bs h in
    rw (add-suc, ← suc-add) (word_low bs (suc k) (v * 94 + (b - 32)) i.1 (low_step k l (omega (arith, i.0))))
