-- A word of four bytes: what each is worth, whether all are digits, and what they write. Assumes nothing.
use Rattle.std.proofs.Common.{◌≡◌, ℕ, ◌+◌, ◌-◌, ◌*◌, ◌/◌, ◌%◌, ◌^◌, ◌<◌, ◌≤◌, sym, ap, ◌∙◌, subst, arith}
use lib.Bits.{bit_and, bit_or, bit_xor, xor_block, and_block, xor_zero_r, xor_self, xor_add_and, xor_lt, and_le_l, and_le_r, and_high, and_mask, and_zero_r, or_add_and, or_zero_l}

-- ---- a byte
-- the low half of a byte stays, and the high half is held to that of '0'
halves : (b : ℕ) → bit_xor b 48 ≡ bit_xor (b / 16) 3 * 16 + b % 16
halves b =
    let e : b ≡ b / 16 * 16 + b % 16 = omega arith in
    ap (λ (x : ℕ). bit_xor x 48) e ∙ xor_block 4 (b / 16) 3 (b % 16) 0 (omega arith) (omega arith) ∙ ap (λ (x : ℕ). bit_xor (b / 16) 3 * 16 + x) (xor_zero_r (b % 16))

three : (a : ℕ) → bit_xor a 3 ≡ 0 → a ≡ 3
three a h = omega (arith, xor_add_and a 3, and_le_l a 3, and_le_r a 3)

-- a byte that is worth at most 9 is a digit
pub is_digit_lem : (b : ℕ) → bit_xor b 48 ≤ 9 → (48 ≤ b) × (b ≤ 57)
is_digit_lem b h =
    let x : b / 16 ≡ 3 = three (b / 16) (omega (arith, halves b)) in
    (omega arith, omega (arith, halves b))

-- what a digit is worth
pub is_worth : (b : ℕ) → 48 ≤ b → b ≤ 57 → bit_xor b 48 ≡ b - 48
is_worth b l h =
    let x : b / 16 ≡ 3 = omega arith in
    let y : bit_xor (b / 16) 3 ≡ 0 = ap (λ (a : ℕ). bit_xor a 3) x ∙ xor_self 3 in
    omega (arith, halves b)

-- ---- four bytes as one number
abbrev pub join : ℕ → ℕ → ℕ → ℕ → ℕ
join a b c d = a + b * 256 + c * 65536 + d * 16777216

-- an operation that works on blocks of bits works on the bytes of a word
module _ (op : ℕ → ℕ → ℕ) (block : (k a b r s : ℕ) → r < 2 ^ k → s < 2 ^ k → op (a * 2 ^ k + r) (b * 2 ^ k + s) ≡ op a b * 2 ^ k + op r s) where
  bytewise : (a b c d e f g h : ℕ) → a < 256 → b < 256 → c < 256 → e < 256 → f < 256 → g < 256 → op (join a b c d) (join e f g h) ≡ join (op a e) (op b f) (op c g) (op d h)
  bytewise a b c d e f g h la lb lc le lf lg =
      let x : join a b c d ≡ ((d * 256 + c) * 256 + b) * 256 + a = omega arith in
      let y : join e f g h ≡ ((h * 256 + g) * 256 + f) * 256 + e = omega arith in
      let p : op (((d * 256 + c) * 256 + b) * 256 + a) (((h * 256 + g) * 256 + f) * 256 + e) ≡ op ((d * 256 + c) * 256 + b) ((h * 256 + g) * 256 + f) * 256 + op a e = block 8 ((d * 256 + c) * 256 + b) ((h * 256 + g) * 256 + f) a e la le in
      let q : op ((d * 256 + c) * 256 + b) ((h * 256 + g) * 256 + f) ≡ op (d * 256 + c) (h * 256 + g) * 256 + op b f = block 8 (d * 256 + c) (h * 256 + g) b f lb lf in
      let r : op (d * 256 + c) (h * 256 + g) ≡ op d h * 256 + op c g = block 8 d h c g lc lg in
      let z : op (join a b c d) (join e f g h) ≡ op (((d * 256 + c) * 256 + b) * 256 + a) (((h * 256 + g) * 256 + f) * 256 + e) = ap (λ (u : ℕ). op u (join e f g h)) x ∙ ap (λ (u : ℕ). op (((d * 256 + c) * 256 + b) * 256 + a) u) y in
      omega (arith, z, p, q, r)

-- the high half of a byte, and the whole of one
high_half : {b : ℕ} → b < 256 → bit_and b 240 ≡ b / 16 * 16
high_half {b} h = let e : bit_and b 240 ≡ b / 16 % 16 * 16 = and_high b 4 4 in omega (arith, e)

all_of : {b : ℕ} → b < 256 → bit_and b 255 ≡ b
all_of {b} h = let e : bit_and b 255 ≡ b % 256 = and_mask b 8 in omega (arith, e)

module _ (a b c d : ℕ) (la : a < 256) (lb : b < 256) (lc : c < 256) (ld : d < 256) where
  -- each byte of a word is turned into its worth at once
  turned : bit_xor (join a b c d) 0x3030_3030 ≡ join (bit_xor a 48) (bit_xor b 48) (bit_xor c 48) (bit_xor d 48)
  turned = bytewise bit_xor xor_block a b c d 48 48 48 48 la lb lc (omega arith) (omega arith) (omega arith)

  -- the high halves of the bytes of a word
  highs : bit_and (join a b c d) 0xf0f0_f0f0 ≡ join (a / 16 * 16) (b / 16 * 16) (c / 16 * 16) (d / 16 * 16)
  highs = bytewise bit_and and_block a b c d 240 240 240 240 la lb lc (omega arith) (omega arith) (omega arith) ∙ rw (high_half la, high_half lb, high_half lc, high_half ld)

-- no part of a join of 0 has a bit
or_none : (p q : ℕ) → bit_or p q ≡ 0 → (p ≡ 0) × (q ≡ 0)
or_none p q h = (omega (arith, or_add_and p q, and_le_l p q, and_le_r p q), omega (arith, or_add_and p q, and_le_l p q, and_le_r p q))

-- the high halves of a word's bytes, and those with six added to each
abbrev pub above : ℕ → ℕ
above w = bit_or (bit_and w 0xf0f0_f0f0) (bit_and (w + 0x0606_0606) 0xf0f0_f0f0)

-- the number of a word of digits
abbrev pub number : ℕ → ℕ
number w = bit_and (w * 2561 / 256) 0x00ff_00ff * 6553601 / 65536 % 65536

-- two pairs, one number
two : (p r : ℕ) → p < 100 → r < 100 → (p + r * 65536) * 6553601 / 65536 % 65536 ≡ p * 100 + r
two p r lp lr =
    let x : (p + r * 65536) * 6553601 / 65536 ≡ p * 100 + r + r * 100 * 65536 = omega arith in
    ap (λ (u : ℕ). u % 65536) x ∙ omega arith

pub record Digits (a b c d : ℕ) : Type 0 where
  pub first : a ≤ 9
  pub second : b ≤ 9
  pub third : c ≤ 9
  pub last : d ≤ 9

module _ (a b c d : ℕ) where
  -- four that are worth digits have nothing above
  pub none_above : Digits a b c d → above (join a b c d) ≡ 0
  none_above z =
      let x = highs a b c d (omega (arith, z.first)) (omega (arith, z.second)) (omega (arith, z.third)) (omega (arith, z.last)) in
      let y = highs (a + 6) (b + 6) (c + 6) (d + 6) (omega (arith, z.first)) (omega (arith, z.second)) (omega (arith, z.third)) (omega (arith, z.last)) in
      let s : join a b c d + 0x0606_0606 ≡ join (a + 6) (b + 6) (c + 6) (d + 6) = omega arith in
      let p : bit_and (join a b c d) 0xf0f0_f0f0 ≡ 0 = omega (arith, x, z.first, z.second, z.third, z.last) in
      let t = ap (λ (u : ℕ). bit_and u 0xf0f0_f0f0) s in
      let q : bit_and (join a b c d + 0x0606_0606) 0xf0f0_f0f0 ≡ 0 = omega (arith, t, y, z.first, z.second, z.third, z.last) in
      ap (λ (u : ℕ). bit_or u (bit_and (join a b c d + 0x0606_0606) 0xf0f0_f0f0)) p ∙ or_zero_l (bit_and (join a b c d + 0x0606_0606) 0xf0f0_f0f0) ∙ q

  -- and only they
  pub all_digits_lem : a < 256 → b < 256 → c < 256 → d < 256 → above (join a b c d) ≡ 0 → Digits a b c d
  all_digits_lem la lb lc ld h =
      let z = or_none (bit_and (join a b c d) 0xf0f0_f0f0) (bit_and (join a b c d + 0x0606_0606) 0xf0f0_f0f0) h in
      let x = highs a b c d la lb lc ld in
      let fa : a < 16 = omega (arith, x, z.0) in
      let fb : b < 16 = omega (arith, x, z.0) in
      let fc : c < 16 = omega (arith, x, z.0) in
      let fd : d < 16 = omega (arith, x, z.0) in
      let y = highs (a + 6) (b + 6) (c + 6) (d + 6) (omega arith) (omega arith) (omega arith) (omega arith) in
      let s : join a b c d + 0x0606_0606 ≡ join (a + 6) (b + 6) (c + 6) (d + 6) = omega arith in
      let t = ap (λ (u : ℕ). bit_and u 0xf0f0_f0f0) s in
      record {
        first = omega (arith, z.1, t, y);
        second = omega (arith, z.1, t, y);
        third = omega (arith, z.1, t, y);
        last = omega (arith, z.1, t, y);
      }

  -- four digits become two pairs, and the pairs one number
  paired : Digits a b c d → bit_and (join a b c d * 2561 / 256) 0x00ff_00ff ≡ a * 10 + b + (c * 10 + d) * 65536
  paired z =
      let s : join a b c d * 2561 / 256 ≡ join (a * 10 + b) (b * 10 + c) (c * 10 + d) (d * 10) = omega (arith, z.first) in
      let t = ap (λ (u : ℕ). bit_and u 0x00ff_00ff) s in
      let y = bytewise bit_and and_block (a * 10 + b) (b * 10 + c) (c * 10 + d) (d * 10) 255 0 255 0 (omega (arith, z.first, z.second)) (omega (arith, z.second, z.third)) (omega (arith, z.third, z.last)) (omega arith) (omega arith) (omega arith) in
      t ∙ y ∙ rw (all_of {b = a * 10 + b} (omega (arith, z.first, z.second)), all_of {b = c * 10 + d} (omega (arith, z.third, z.last)), and_zero_r (b * 10 + c), and_zero_r (d * 10)) (omega arith)

  pub number_is : Digits a b c d → number (join a b c d) ≡ ((a * 10 + b) * 10 + c) * 10 + d
  number_is z =
      ap (λ (u : ℕ). u * 6553601 / 65536 % 65536) (paired z) ∙ two (a * 10 + b) (c * 10 + d) (omega (arith, z.first, z.second)) (omega (arith, z.third, z.last)) ∙ omega arith

-- the bytes of a word of four, by what they are worth
module _ (a b c d : ℕ) (la : a < 256) (lb : b < 256) (lc : c < 256) (ld : d < 256) where
  abbrev x : ℕ
  x = bit_xor (join a b c d) 0x3030_3030

  la' : bit_xor a 48 < 256
  la' = xor_lt 8 a 48 la (omega arith)

  lb' : bit_xor b 48 < 256
  lb' = xor_lt 8 b 48 lb (omega arith)

  lc' : bit_xor c 48 < 256
  lc' = xor_lt 8 c 48 lc (omega arith)

  ld' : bit_xor d 48 < 256
  ld' = xor_lt 8 d 48 ld (omega arith)

  pub bytes_of : (x < 2 ^ 32) × (x % 256 ≡ bit_xor a 48) × (x / 256 % 256 ≡ bit_xor b 48) × (x / 65536 % 256 ≡ bit_xor c 48) × (x / 16777216 ≡ bit_xor d 48)
  bytes_of =
      let e = turned a b c d la lb lc ld in
      (omega (arith, e, la', lb', lc', ld'), omega (arith, e, la'), omega (arith, e, la', lb'), omega (arith, e, la', lb', lc'), omega (arith, e, la', lb', lc'))

-- ---- two words at once, the second in the upper half
abbrev pub above_both : ℕ → ℕ
above_both w = bit_or (bit_and w 0xf0f0_f0f0_f0f0_f0f0) (bit_and ((w + 0x0606_0606_0606_0606) % 2 ^ 64) 0xf0f0_f0f0_f0f0_f0f0)

-- the upper bits of two words
uppers : (a b : ℕ) → a < 2 ^ 32 → bit_and (a + b * 2 ^ 32) 0xf0f0_f0f0_f0f0_f0f0 ≡ bit_and b 0xf0f0_f0f0 * 2 ^ 32 + bit_and a 0xf0f0_f0f0
uppers a b l =
    let e : a + b * 2 ^ 32 ≡ b * 2 ^ 32 + a = omega arith in
    ap (λ (u : ℕ). bit_and u 0xf0f0_f0f0_f0f0_f0f0) e ∙ and_block 32 b 0xf0f0_f0f0 a 0xf0f0_f0f0 l (omega arith)

-- a word without upper bits has room for a six in each byte
low_bytes : (a b c d : ℕ) → a < 256 → b < 256 → c < 256 → d < 256 → bit_and (join a b c d) 0xf0f0_f0f0 ≡ 0 → join a b c d ≤ 0x0f0f_0f0f
low_bytes a b c d la lb lc ld h =
    let x = highs a b c d la lb lc ld in
    let p : a < 16 = omega (arith, x, h) in
    let q : b < 16 = omega (arith, x, h) in
    let r : c < 16 = omega (arith, x, h) in
    let s : d < 16 = omega (arith, x, h) in
    omega (arith, p, q, r, s)

low : (a : ℕ) → a < 2 ^ 32 → bit_and a 0xf0f0_f0f0 ≡ 0 → a ≤ 0x0f0f_0f0f
low a l h =
    let e : a ≡ join (a % 256) (a / 256 % 256) (a / 65536 % 256) (a / 16777216) = omega arith in
    subst (λ (u : ℕ). u ≤ 0x0f0f_0f0f) (sym e) (low_bytes (a % 256) (a / 256 % 256) (a / 65536 % 256) (a / 16777216) (omega arith) (omega arith) (omega arith) (omega arith) (sym (ap (λ (u : ℕ). bit_and u 0xf0f0_f0f0) e) ∙ h))

module _ (a b : ℕ) (la : a < 2 ^ 32) (lb : b < 2 ^ 32) where
  sixes : a ≤ 0x0f0f_0f0f → b ≤ 0x0f0f_0f0f → bit_and ((a + b * 2 ^ 32 + 0x0606_0606_0606_0606) % 2 ^ 64) 0xf0f0_f0f0_f0f0_f0f0 ≡ bit_and (b + 0x0606_0606) 0xf0f0_f0f0 * 2 ^ 32 + bit_and (a + 0x0606_0606) 0xf0f0_f0f0
  sixes p q =
      let e : (a + b * 2 ^ 32 + 0x0606_0606_0606_0606) % 2 ^ 64 ≡ (a + 0x0606_0606) + (b + 0x0606_0606) * 2 ^ 32 = omega arith in
      ap (λ (u : ℕ). bit_and u 0xf0f0_f0f0_f0f0_f0f0) e ∙ uppers (a + 0x0606_0606) (b + 0x0606_0606) (omega arith)

  -- both words pass where each does
  pub none_both : above a ≡ 0 → above b ≡ 0 → above_both (a + b * 2 ^ 32) ≡ 0
  none_both f g =
      let x = or_none (bit_and a 0xf0f0_f0f0) (bit_and (a + 0x0606_0606) 0xf0f0_f0f0) f in
      let y = or_none (bit_and b 0xf0f0_f0f0) (bit_and (b + 0x0606_0606) 0xf0f0_f0f0) g in
      let p : bit_and (a + b * 2 ^ 32) 0xf0f0_f0f0_f0f0_f0f0 ≡ 0 = omega (arith, uppers a b la, x.0, y.0) in
      let q : bit_and ((a + b * 2 ^ 32 + 0x0606_0606_0606_0606) % 2 ^ 64) 0xf0f0_f0f0_f0f0_f0f0 ≡ 0 = omega (arith, sixes (low a la x.0) (low b lb y.0), x.1, y.1) in
      ap (λ (u : ℕ). bit_or u (bit_and ((a + b * 2 ^ 32 + 0x0606_0606_0606_0606) % 2 ^ 64) 0xf0f0_f0f0_f0f0_f0f0)) p ∙ or_zero_l _ ∙ q

  -- and only there
  pub each_none : above_both (a + b * 2 ^ 32) ≡ 0 → (above a ≡ 0) × (above b ≡ 0)
  each_none h =
      let z = or_none (bit_and (a + b * 2 ^ 32) 0xf0f0_f0f0_f0f0_f0f0) (bit_and ((a + b * 2 ^ 32 + 0x0606_0606_0606_0606) % 2 ^ 64) 0xf0f0_f0f0_f0f0_f0f0) h in
      let p : bit_and a 0xf0f0_f0f0 ≡ 0 = omega (arith, uppers a b la, z.0) in
      let q : bit_and b 0xf0f0_f0f0 ≡ 0 = omega (arith, uppers a b la, z.0) in
      let k = sixes (low a la p) (low b lb q) in
      let r : bit_and (a + 0x0606_0606) 0xf0f0_f0f0 ≡ 0 = omega (arith, k, z.1) in
      let t : bit_and (b + 0x0606_0606) 0xf0f0_f0f0 ≡ 0 = omega (arith, k, z.1) in
      (ap (λ (u : ℕ). bit_or u (bit_and (a + 0x0606_0606) 0xf0f0_f0f0)) p ∙ or_zero_l _ ∙ r, ap (λ (u : ℕ). bit_or u (bit_and (b + 0x0606_0606) 0xf0f0_f0f0)) q ∙ or_zero_l _ ∙ t)
