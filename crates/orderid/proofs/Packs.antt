-- A word's bytes in one number, from the last to the first, and out again. Assumes nothing.
use mathlib.Core.Path.{◌≡◌, refl, ap}
use mathlib.Core.Bool.{true}
use mathlib.Core.List.{List, [], ◌∷◌, ◌++◌}
use Prim.Native.Nat.{ℕ, zero, suc, ◌+◌, ◌-◌, ◌*◌, ◌/◌, ◌%◌, ◌^◌, ◌≤◌, ◌<◌}
use native.Mathlib.Nat.{pow-suc, pow-le-pow_right}
use native.Mathlib.Numerals.{add-one}
use native.Mathlib.Omega.{arith}
use borrow.Author.Tests.{ne_eqb}
use lib.ListN.{length}
use Rattle.orderid.specs.OrderIds.{id_bytes, word_text, packs, packed_of}
use Rattle.orderid.specs.Words.{bytes_in}
use Rattle.orderid.proofs.Words.{id_byte_lem, text_zero, text_more, text_most, text_bytes}

-- the bytes below those that v packs
abbrev pub onto : List ℕ → ℕ → ℕ
onto [] v = v
onto (b ∷ bs) v = b + 256 * onto bs v

onto_zero : (bs : List ℕ) → onto bs 0 ≡ packs bs
onto_zero [] = refl
onto_zero (b ∷ bs) = rw (onto_zero bs)

onto_append : (bs : List ℕ) (b v : ℕ) → onto (bs ++ (b ∷ [])) v ≡ onto bs (b + 256 * v)
onto_append [] b v = refl
onto_append (x ∷ bs) b v = rw (onto_append bs b v)

pub pack_all : (n : ℕ) → onto (word_text 8 n) 0 ≡ packed_of n
unfolding packed_of
pack_all n = onto_zero (word_text 8 n)

pub pack_none : (k v : ℕ) → onto (word_text k 0) v ≡ v
pack_none k v = rw text_zero

pub pack_over : (n v : ℕ) → onto (word_text 0 n) v ≡ v
unfolding word_text
pack_over n v = refl

pub pack_more : (k n v : ℕ) → (n ≡ 0 → ⊥) → k < 8 → onto (word_text (8 - k) n) v ≡ onto (word_text (8 - (k + 1)) ((n - 1) / 94)) (v * 256 + (33 + (n - 1) % 94))
pack_more k n v h l =
    let z : 8 - k ≡ suc (8 - (k + 1)) = omega arith in
    let w : 33 + (n - 1) % 94 + 256 * v ≡ v * 256 + (33 + (n - 1) % 94) = omega arith in
    rw (ap (λ (j : ℕ). onto (word_text j n) v) z, text_more (8 - (k + 1)) n h, onto_append, w)

-- one byte more
pub pack_lt : (k : ℕ) {v b : ℕ} → v < 256 ^ k → b < 256 → v * 256 + b < 256 ^ (k + 1)
pack_lt k l r = rw (add-one, pow-suc) (omega arith)

pub pack_small : (k : ℕ) {v : ℕ} → k < 8 → v < 256 ^ k → v < 72057594037927936
pack_small k {v} h l = let q : k ≤ 7 = omega arith in let p : 256 ^ k ≤ 256 ^ 7 = pow-le-pow_right (omega arith) q in omega arith

-- ---- out again
bytes_zero : (k : ℕ) → bytes_in k 0 ≡ []
unfolding bytes_in
bytes_zero zero = refl
bytes_zero (suc k) = refl

unpack : (k : ℕ) (t : List ℕ) → length t ≤ k → id_bytes t ≡ true → bytes_in k (packs t) ≡ t
unfolding bytes_in
unpack k [] l h = bytes_zero k
unpack zero (b ∷ t) l h = absurd (omega arith)
unpack (suc k) (b ∷ t) l h =
    let i = id_byte_lem b t h in
    let m : (b + 256 * packs t) % 256 ≡ b = omega (arith, i.0) in
    let d : (b + 256 * packs t) / 256 ≡ packs t = omega (arith, i.0) in
    rw (ne_eqb (b + 256 * packs t) 0 (λ e. omega (arith, i.0)), m, d, unpack k t (omega arith) i.1)

-- a packed word has its bytes
pub packed_bytes : (n : ℕ) → bytes_in 8 (packed_of n) ≡ word_text 8 n
unfolding packed_of
packed_bytes n = unpack 8 (word_text 8 n) (text_most 8 n) (text_bytes 8 n)

-- ---- the bytes of a number, one by one
pub bytes_none : (k v : ℕ) → v ≡ 0 → bytes_in k v ≡ []
bytes_none k v h = rw h (bytes_zero k)

pub bytes_any : (k v : ℕ) → (v ≡ 0 → ⊥) → v < 256 ^ k → 0 < k
bytes_any zero v h l = absurd (h (omega arith))
bytes_any (suc k) v h l = omega arith

pub bytes_more : (k j v : ℕ) → (v ≡ 0 → ⊥) → k ≡ j + 1 → bytes_in k v ≡ v % 256 ∷ bytes_in j (v / 256)
unfolding bytes_in
bytes_more zero j v h q = absurd (omega arith)
bytes_more (suc k) j v h q = let z : k ≡ j = omega arith in rw (ne_eqb v 0 h, z)

pub bytes_less : (k j v : ℕ) → k ≡ j + 1 → v < 256 ^ k → v / 256 < 256 ^ j
bytes_less zero j v q l = absurd (omega arith)
bytes_less (suc k) j v q l =
    let z : k ≡ j = omega arith in
    let m : v < 256 ^ k * 256 = rw pow-suc at l in
    rw (← z) (omega arith)
