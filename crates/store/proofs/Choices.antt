-- A choice by a test: a function of it, and two of them by the same test.
use mathlib.Core.Path.{◌≡◌, refl}
use mathlib.Core.Bool.{Bool, true, false, cond}

module _ {A : Type 0} where
  pub cond_ap : {B : Type 0} (f : A → B) (t : Bool) (x y : A) → f (cond t x y) ≡ cond t (f x) (f y)
  cond_ap f true x y = refl
  cond_ap f false x y = refl

  pub cond_both : (t : Bool) {x y v w : A} → (t ≡ true → x ≡ v) → (t ≡ false → y ≡ w) → cond t x y ≡ cond t v w
  cond_both true h g = h refl
  cond_both false h g = g refl
