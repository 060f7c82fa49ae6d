-- Two stores that are the same outside a region, and what is read of them outside it.
use mathlib.Core.Path.{◌≡◌, refl, ◌∙◌}
use mathlib.Core.List.{List}
use mathlib.Core.Logic.{◌⊎◌, inl, inr, ⊎_elim}
use Prim.Native.Nat.{ℕ, ◌+◌, ◌≤◌, ◌<◌}
use native.Mathlib.Omega.{arith}
use lib.ListN.{length, get_or}
use lib.Seq.{sets, length-sets}
use Rattle.cells.specs.Cells.{zeros}
use Rattle.cells.proofs.Stores.{before_sets, behind_sets}
use Rattle.cells.proofs.Tables.{length_zeros}
use Rattle.cells.proofs.Windows.{Same}

-- ys is xs but for the numbers from lo on, below hi
pub record Agree (lo hi : ℕ) (xs ys : List ℕ) : Type 0 where
  pub long : length ys ≡ length xs
  pub outside : (k : ℕ) → (k < lo) ⊎ (hi ≤ k) → get_or ys k 0 ≡ get_or xs k 0

-- n numbers from b on lie apart from such a region
abbrev pub Apart : ℕ → ℕ → ℕ → ℕ → Type 0
Apart b n lo hi = (b + n ≤ lo) ⊎ (hi ≤ b)

-- numbers that are written
pub agree_sets : (xs : List ℕ) (a : ℕ) (ws : List ℕ) (n : ℕ) → length ws ≡ n → Agree a (a + n) xs (sets xs a ws)
agree_sets xs a ws n h = record {
  long = length-sets xs a ws;
  outside = λ k o. ⊎_elim (λ (q : k < a). before_sets 0 xs a ws k q) (λ (q : a + n ≤ k). behind_sets 0 xs a ws k (omega arith)) o;
}

pub agree_zeros : (xs : List ℕ) (a n : ℕ) → Agree a (a + n) xs (sets xs a (zeros n))
agree_zeros xs a n = agree_sets xs a (zeros n) n (length_zeros n)

pub agree_none : (lo hi : ℕ) (xs : List ℕ) → Agree lo hi xs xs
agree_none lo hi xs = record { long = refl; outside = λ k o. refl }

-- a wider region, and one change after another
pub agree_wider : {lo hi : ℕ} {xs ys : List ℕ} (lo' hi' : ℕ) → lo' ≤ lo → hi ≤ hi' → Agree lo hi xs ys → Agree lo' hi' xs ys
agree_wider {lo} {hi} lo' hi' h l a = record {
  long = a.long;
  outside = λ k o. a.outside k (⊎_elim (λ (q : k < lo'). inl (omega arith)) (λ (q : hi' ≤ k). inr (omega arith)) o);
}

pub agree_then : {lo hi : ℕ} {xs ys zs : List ℕ} → Agree lo hi xs ys → Agree lo hi ys zs → Agree lo hi xs zs
agree_then a b = record { long = b.long ∙ a.long; outside = λ k o. b.outside k o ∙ a.outside k o }

module _ {lo hi : ℕ} {xs ys : List ℕ} (a : Agree lo hi xs ys) where
  -- a window that lies apart
  pub same_apart : (b n : ℕ) → Apart b n lo hi → Same n ys b xs b
  same_apart b n o k l = a.outside (b + k) (⊎_elim (λ (q : b + n ≤ lo). inl (omega arith)) (λ (q : hi ≤ b). inr (omega arith)) o)

  -- a number
  pub number_apart : (k : ℕ) → Apart k 1 lo hi → get_or ys k 0 ≡ get_or xs k 0
  number_apart k o = a.outside k (⊎_elim (λ (q : k + 1 ≤ lo). inl (omega arith)) (λ (q : hi ≤ k). inr q) o)
