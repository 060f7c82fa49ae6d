-- An order id read is sound and written as it was; a sound one written is read as it was. Assumes nothing.
use Rattle.std.specs.Prelude.{Some, None}
use Rattle.orderid.specs.OrderIds.{order_id}
use Rattle.orderid.specs.declared.OrderId.{OrderId}
use mathlib.Core.Path.{◌≡◌, refl, sym, ap, ◌∙◌}
use mathlib.Core.Bool.{Bool, true, false, cond, ◌&&◌, ◌||◌, or-true, false≢true}
use mathlib.Core.List.{List, [], ◌∷◌, ◌++◌, append-nil}
use Prim.Native.Nat.{ℕ, suc, ◌+◌, ◌-◌, ◌*◌, ◌≤◌, ◌<◌}
use native.Mathlib.Omega.{arith}
use borrow.Author.Tests.{eqb-true, eqb-false, leb-true, leb-false, le-leb, ne_eqb}
use lib.Dec.{leb, eqb}
use lib.ListN.{length, take, drop, length-append, length-take, length-drop, take-append-drop, drop_of_length-le}
use lib.Seq.{take_all, take_at, drop_at}
use Rattle.text.specs.Text.{free}
use Rattle.orderid.specs.OrderIds.{id_bytes, is_id, word_from, id_of, word_text, id_text, top, full, id_sound}
use Rattle.orderid.proofs.Words.{top_of, both, id_byte_lem, bytes_append, text_zero, text_more, text_most, text_bytes, text_full, word_back, bytes_back, word_top, word_low}

-- the words of 8 bytes are those from full to top
top_is : top_of 8 ≡ top
unfolding top_of
top_is = refl

no_bytes : top_of 0 ≡ 0
unfolding top_of
no_bytes = refl

full_is : suc (top_of 7) ≡ full
unfolding top_of
full_is = refl

-- ---- what is read
pub record Read (t : List ℕ) (a b : ℕ) : Type 0 where
  pub some : 1 ≤ length t
  pub most : length t ≤ 16
  pub fine : id_bytes t ≡ true
  pub first : a ≡ word_from 0 (take 8 t)
  pub second : b ≡ word_from 0 (drop 8 t)

pub was_read_lem : (t : List ℕ) {a b : ℕ} → id_of t ≡ Some (order_id a b) → Read t a b
unfolding id_of is_id
was_read_lem t {a} {b} h = go (leb 1 (length t)) (leb (length t) 16) (id_bytes t) refl refl refl h
  where
    go : (x y z : Bool) → leb 1 (length t) ≡ x → leb (length t) 16 ≡ y → id_bytes t ≡ z → cond (x && (y && z)) (Some (order_id (word_from 0 (take 8 t)) (word_from 0 (drop 8 t)))) None ≡ Some (order_id a b) → Read t a b
    go true true true p q r e =
        let words : order_id a b ≡ order_id (word_from 0 (take 8 t)) (word_from 0 (drop 8 t)) = cc in
        record { some = leb-true _ _ p; most = leb-true _ _ q; fine = r; first = ap (λ (i : OrderId). i.by) words; second = ap (λ (i : OrderId). i.more) words }
    go true true false p q r e = let z : ◌≡◌ {A = ℕ} 0 1 = cc in absurd (omega arith)
    go true false z p q r e = let z : ◌≡◌ {A = ℕ} 0 1 = cc in absurd (omega arith)
    go false y z p q r e = let z : ◌≡◌ {A = ℕ} 0 1 = cc in absurd (omega arith)

module _ (n : ℕ) (t : List ℕ) (fine : id_bytes t ≡ true) where
  parts : (id_bytes (take n t) ≡ true) × (id_bytes (drop n t) ≡ true)
  parts = both (id_bytes (take n t)) (id_bytes (drop n t)) (sym (bytes_append (take n t) (drop n t)) ∙ ap id_bytes (take-append-drop n t) ∙ fine)

-- a word of at most 8 bytes
module _ (t : List ℕ) (fine : id_bytes t ≡ true) (short : length t ≤ 8) where
  pub word_text_lem : word_text 8 (word_from 0 t) ≡ t
  word_text_lem =
      let z : 8 ≡ 8 - length t + length t = omega arith in
      rw z (bytes_back t (8 - length t) 0 fine ∙ rw text_zero)

  word_most : word_from 0 t ≤ top
  word_most =
      let z : 8 - length t + length t ≡ 8 = omega arith in
      let a = word_top t (8 - length t) 0 fine (omega arith) in
      omega (arith, rw z at a, top_is)

-- a word of n + 1 bytes is above those of n
word_above : (t : List ℕ) (n : ℕ) → id_bytes t ≡ true → length t ≡ suc n → top_of n < word_from 0 t
word_above [] n h e = absurd (omega arith)
word_above (b ∷ t) n h e =
    let i = id_byte_lem b t h in
    let z : 0 + length t ≡ n = omega arith in
    rw z at (word_low t 0 (0 * 94 + (b - 32)) i.1 (omega (arith, i.0, no_bytes)))

word_some : (t : List ℕ) → id_bytes t ≡ true → 1 ≤ length t → 1 ≤ word_from 0 t
word_some t h k =
    let z : length t ≡ suc (length t - 1) = omega arith in
    omega (arith, word_above t (length t - 1) h z)

-- ---- what is read is sound
pub read_sound : (t : List ℕ) {a b : ℕ} → id_of t ≡ Some (order_id a b) → id_sound a b ≡ true
read_sound t {a} {b} h =
    let r = was_read_lem t h in
    let p = parts 8 t r.fine in
    let n : length (take 8 t) ≤ 8 = rw length-take (omega arith) in
    let m : length (drop 8 t) ≤ 8 = rw length-drop (omega (arith, r.most)) in
    let o : 1 ≤ length (take 8 t) = rw length-take (omega (arith, r.some)) in
    let f : leb 1 a ≡ true = rw r.first (le-leb _ _ (word_some (take 8 t) p.0 o)) in
    let g : leb a top ≡ true = rw r.first (le-leb _ _ (word_most (take 8 t) p.0 n)) in
    let k : leb b top ≡ true = rw r.second (le-leb _ _ (word_most (drop 8 t) p.1 m)) in
    rw (f, g, k) (go (leb (length t) 8) refl r)
  where
    go : (x : Bool) → leb (length t) 8 ≡ x → Read t a b → eqb b 0 || (leb full a && true) ≡ true
    go true e r = rw (r.second, drop_of_length-le t (leb-true _ _ e))
    go false e r =
        let z : length (take 8 t) ≡ 8 = rw length-take (omega (arith, leb-false (length t) 8 e)) in
        let f : full ≤ word_from 0 (take 8 t) = rw full_is at (word_above (take 8 t) 7 (parts 8 t r.fine).0 z) in
        let w : leb full a ≡ true = rw r.first (le-leb _ _ f) in
        rw (w, or-true (eqb b 0))

-- ---- what is read is written as it was
pub text_back : (t : List ℕ) {a b : ℕ} → id_of t ≡ Some (order_id a b) → id_text a b ≡ t
unfolding id_text
text_back t {a} {b} h =
    let r = was_read_lem t h in
    let p = parts 8 t r.fine in
    let n : length (take 8 t) ≤ 8 = rw length-take (omega arith) in
    let m : length (drop 8 t) ≤ 8 = rw length-drop (omega (arith, r.most)) in
    rw (r.first, r.second, word_text_lem (take 8 t) p.0 n, word_text_lem (drop 8 t) p.1 m) (take-append-drop 8 t)

-- ---- a sound id
pub record Sound (a b : ℕ) : Type 0 where
  pub some : 1 ≤ a
  pub most : a ≤ top
  pub rest : b ≤ top
  pub eight : (b ≡ 0 → ⊥) → full ≤ a

pub is_sound_lem : (a b : ℕ) → id_sound a b ≡ true → Sound a b
is_sound_lem a b h =
    let x = both (leb 1 a && leb a top) (eqb b 0 || (leb full a && leb b top)) h in
    let y = both (leb 1 a) (leb a top) x.0 in
    let z = go (eqb b 0) (leb full a) (leb b top) refl refl refl x.1 in
    record { some = leb-true _ _ y.0; most = leb-true _ _ y.1; rest = z.0; eight = z.1 }
  where
    go : (x y z : Bool) → eqb b 0 ≡ x → leb full a ≡ y → leb b top ≡ z → x || (y && z) ≡ true → (b ≤ top) × ((b ≡ 0 → ⊥) → full ≤ a)
    go true y z p q r e = let w : b ≡ 0 = eqb-true b 0 p in (omega arith, λ n. absurd (n w))
    go false true true p q r e = (leb-true _ _ r, λ n. leb-true _ _ q)
    go false true false p q r e = absurd (false≢true e)
    go false false z p q r e = absurd (false≢true e)

-- a first word that another follows has 8 bytes
pub eight_bytes : (a b : ℕ) → Sound a b → (b ≡ 0 → ⊥) → length (word_text 8 a) ≡ 8
eight_bytes a b s n = text_full 7 a (omega (arith, s.eight n, full_is))

-- the first word is the first 8 bytes
pub split : (a b : ℕ) → id_sound a b ≡ true → (take 8 (id_text a b) ≡ word_text 8 a) × (drop 8 (id_text a b) ≡ word_text 8 b)
unfolding id_text
split a b h = go (eqb b 0) refl (is_sound_lem a b h)
  where
    go : (x : Bool) → eqb b 0 ≡ x → Sound a b → (take 8 (word_text 8 a ++ word_text 8 b) ≡ word_text 8 a) × (drop 8 (word_text 8 a ++ word_text 8 b) ≡ word_text 8 b)
    go true e s =
        let z : b ≡ 0 = eqb-true b 0 e in
        rw (z, text_zero, append-nil) (take_all 8 (word_text 8 a) (text_most 8 a), drop_of_length-le (word_text 8 a) (text_most 8 a))
    go false e s =
        let n = eight_bytes a b s (eqb-false b 0 e) in
        (take_at (word_text 8 a) (word_text 8 b) 8 n, drop_at (word_text 8 a) (word_text 8 b) 8 n)

pub id_some : (a b : ℕ) → id_sound a b ≡ true → 1 ≤ length (id_text a b)
unfolding id_text
id_some a b h =
    let s = is_sound_lem a b h in
    rw (length-append, text_more 7 a (λ e. omega (arith, s.some)), length-append) (omega arith)

pub id_most : (a b : ℕ) → length (id_text a b) ≤ 16
unfolding id_text
id_most a b = rw length-append (omega (arith, text_most 8 a, text_most 8 b))

pub id_bytes_lem : (a b : ℕ) → id_bytes (id_text a b) ≡ true
unfolding id_text
id_bytes_lem a b = rw (bytes_append, text_bytes 8 a, text_bytes 8 b)

-- ---- a sound id is written as an id, and read as it was
pub id_fine_lem : (a b : ℕ) → id_sound a b ≡ true → is_id (id_text a b) ≡ true
unfolding is_id
id_fine_lem a b h = rw (le-leb 1 (length (id_text a b)) (id_some a b h), le-leb (length (id_text a b)) 16 (id_most a b), id_bytes_lem)

pub read_back : (a b : ℕ) → id_sound a b ≡ true → id_of (id_text a b) ≡ Some (order_id a b)
unfolding id_of
read_back a b h =
    let s = is_sound_lem a b h in
    let p = split a b h in
    rw (id_fine_lem a b h, p.0, p.1, word_back 8 a (omega (arith, s.most, top_is)), word_back 8 b (omega (arith, s.rest, top_is)))

-- no byte of it is below 33: it holds no SOH
bytes_free : (x : ℕ) (t : List ℕ) → x < 33 → id_bytes t ≡ true → free x t ≡ true
bytes_free x [] l h = refl
bytes_free x (b ∷ t) l h = let i = id_byte_lem b t h in rw (ne_eqb b x (λ e. omega (arith, i.0.0)), bytes_free x t l i.1)

pub id_free : (x a b : ℕ) → x < 33 → free x (id_text a b) ≡ true
id_free x a b l = bytes_free x (id_text a b) l (id_bytes_lem a b)
