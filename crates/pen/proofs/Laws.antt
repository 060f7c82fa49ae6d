-- A field is its tag, its value and SOH, written one after the other; fields are written one after another. Assumes nothing.
use mathlib.Core.Path.{sym}
use mathlib.Core.List.{List, [], ◌∷◌, ◌++◌, append_assoc, append-nil}
use Prim.Native.Nat.{ℕ, ◌+◌, ◌*◌, ◌≤◌, ◌<◌}
use native.Mathlib.Omega.{arith}
use lib.IntN.{ℤ, pos, negsuc, nat_abs}
use lib.ListN.{length}
use mir.Syntax.{w64}
use mir.Val.{SFits}
use Rattle.text.specs.Text.{decimal, Wrote}
use Rattle.text.proofs.Stores.{and_then, as_text}
use Rattle.price.specs.Price.{top}
use Rattle.chain.specs.Fields.{Field, field}
use Rattle.chain.specs.Bytes.{field_bytes, bytes_of}
use Rattle.frame.proofs.Well.{bytes_append}

pub a_field : {l m n p : List ℕ} {a b c d : ℕ} (t : ℕ) (v : List ℕ) → Wrote l a (decimal t ++ (61 ∷ [])) m b → Wrote m b v n c → Wrote n c (1 ∷ []) p d
    → Wrote l a (field_bytes (field t v)) p d
unfolding field_bytes
a_field t v x y z = as_text (append_assoc (decimal t) (61 ∷ []) (v ++ (1 ∷ []))) (and_then x (and_then y z))

-- a field was written, by itself and before others
pub one_wrote : {l m : List ℕ} {a b : ℕ} (f : Field) → Wrote l a (field_bytes f) m b → Wrote l a (bytes_of (f ∷ [])) m b
unfolding bytes_of
one_wrote f x = as_text (sym (append-nil (field_bytes f))) x

pub next_wrote : {l m n : List ℕ} {a b c : ℕ} (f : Field) (fs : List Field) → Wrote l a (field_bytes f) m b → Wrote m b (bytes_of fs) n c
    → Wrote l a (bytes_of (f ∷ fs)) n c
unfolding bytes_of
next_wrote f fs x y = and_then x y

-- Fields were written one after another, each of at most 50 bytes.
pub record Fields (l : List ℕ) (a : ℕ) (fs : List Field) (m : List ℕ) (b : ℕ) : Type 0 where
  pub wrote : Wrote l a (bytes_of fs) m b
  pub most : b ≤ a + 50 * length fs

pub last_field : {l m : List ℕ} {a b : ℕ} (f : Field) → Wrote l a (field_bytes f) m b × (b ≤ a + 50) → Fields l a (f ∷ []) m b
last_field f x = record { wrote = one_wrote f x.0; most = omega (arith, x.1) }

pub next_field : {l m n : List ℕ} {a b c : ℕ} (f : Field) (fs : List Field) → Wrote l a (field_bytes f) m b × (b ≤ a + 50) → Fields m b fs n c → Fields l a (f ∷ fs) n c
next_field f fs x y = record { wrote = next_wrote f fs x.0 y.wrote; most = omega (arith, x.1, y.most) }

-- some fields, then others
pub more_fields : {l m n : List ℕ} {a b c : ℕ} (fs gs : List Field) → Wrote l a (bytes_of fs) m b → Wrote m b (bytes_of gs) n c → Wrote l a (bytes_of (fs ++ gs)) n c
more_fields fs gs x y = as_text (sym (bytes_append fs gs)) (and_then x y)

-- a price in range fits 64 bits
pub price_fits : (p : ℤ) → nat_abs p < top → SFits w64 p
price_fits (pos n) h = record { sfits = omega arith }
price_fits (negsuc n) h = record { sfits = omega arith }
