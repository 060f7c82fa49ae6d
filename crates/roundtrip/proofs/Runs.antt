-- Fields in a row: all fair, with bounds of their bytes. Assumes nothing.
use mathlib.Core.Path.{◌≡◌, refl}
use mathlib.Core.Bool.{true}
use mathlib.Core.List.{List, [], ◌∷◌, ◌++◌}
use Prim.Native.Nat.{ℕ, ◌+◌, ◌^◌, ◌≤◌, ◌<◌}
use native.Mathlib.Omega.{arith}
use lib.ListN.{length, length-append}
use Rattle.text.specs.Text.{width_of, decimal}
use Rattle.text.proofs.Written.{length_decimal, width_in, width_more}
use Rattle.chain.specs.Fields.{Field, field}
use Rattle.chain.specs.Bytes.{bytes_of, fair, all_fair}
use Rattle.chain.proofs.Inverse.{is_fair, length_field}
use Rattle.frame.proofs.Well.{bytes_append, fair_append}
use Rattle.roundtrip.proofs.Texts.{Text}

pub record Run (lo hi : ℕ) (fs : List Field) : Type 0 where
  pub fair : all_fair fs ≡ true
  pub least : lo ≤ length (bytes_of fs)
  pub most : length (bytes_of fs) ≤ hi

pub no_field : Run 0 0 []
unfolding bytes_of
no_field = record { fair = refl; least = omega arith; most = omega arith }

module _ (t w : ℕ) (low : 1 ≤ t) (high : t ≤ 99999) (wide : length (decimal t) ≡ w) {lo hi a b : ℕ} {v : List ℕ} {fs : List Field} where
  one : Text lo hi v → Run a b fs → Run (w + 2 + lo + a) (w + 2 + hi + b) (field t v ∷ fs)
  unfolding bytes_of
  one x r =
      let f : fair (field t v) ≡ true = is_fair (field t v) (record { low = low; high = high; some = x.some; free = x.free }) in
      record {
        fair = rw (f, r.fair);
        least = rw (length-append, length_field) (omega (arith, x.least, r.least));
        most = rw (length-append, length_field) (omega (arith, x.most, r.most));
      }

tag_width : (t w : ℕ) → 1 ≤ w → w < 17 → 10 ^ w ≤ t → t < 10 ^ (w + 1) → t < 10 ^ 18 → length (decimal t) ≡ w + 1
unfolding width_of
tag_width t w p q l h k = rw length_decimal (omega (arith, width_in (w + 1) t (omega arith) (omega arith) h, width_more 17 t w k l))

module _ (t : ℕ) {lo hi a b : ℕ} {v : List ℕ} {fs : List Field} where
  pub tag_of_2 : 10 ≤ t → t < 100 → Text lo hi v → Run a b fs → Run (4 + lo + a) (4 + hi + b) (field t v ∷ fs)
  tag_of_2 l h x r = one t 2 (omega arith) (omega arith) (tag_width t 1 (omega arith) (omega arith) (omega arith) (omega arith) (omega arith)) x r

  pub tag_of_3 : 100 ≤ t → t < 1000 → Text lo hi v → Run a b fs → Run (5 + lo + a) (5 + hi + b) (field t v ∷ fs)
  tag_of_3 l h x r = one t 3 (omega arith) (omega arith) (tag_width t 2 (omega arith) (omega arith) (omega arith) (omega arith) (omega arith)) x r

pub runs : {a b c d : ℕ} {fs gs : List Field} → Run a b fs → Run c d gs → Run (a + c) (b + d) (fs ++ gs)
runs {a} {b} {c} {d} {fs} {gs} x y =
    record {
      fair = fair_append fs gs x.fair y.fair;
      least = rw (bytes_append, length-append) (omega (arith, x.least, y.least));
      most = rw (bytes_append, length-append) (omega (arith, x.most, y.most));
    }
