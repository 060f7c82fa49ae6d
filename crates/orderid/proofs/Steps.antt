-- One byte more of a word, at an index; one word more of an id. Assumes nothing.
use Rattle.std.specs.Prelude.{Some, None}
use Rattle.orderid.specs.OrderIds.{order_id}
use mathlib.Core.Path.{◌≡◌, refl, sym, ap, ◌∙◌}
use mathlib.Core.Bool.{Bool, true, false, cond, ◌&&◌}
use mathlib.Core.List.{List}
use Prim.Native.Nat.{ℕ, ◌+◌, ◌-◌, ◌*◌, ◌≤◌, ◌<◌}
use native.Mathlib.Omega.{arith}
use native.Mathlib.Numerals.{add-one}
use borrow.Author.Tests.{le-leb, lt-leb}
use lib.ListN.{length, get_or, take, drop, take-append-drop, length-drop, drop_of_length-le}
use lib.Seq.{drop-cons, take_all}
use Rattle.orderid.specs.Words.{word_rest, word_of, joined}
use Rattle.orderid.specs.OrderIds.{id_bytes, word_from, is_id, id_of}
use Rattle.orderid.proofs.Words.{bytes_append}

module _ (s : List ℕ) (i v : ℕ) (in-text : i < length s) where
  pub low : get_or s i 0 < 33 → word_rest v (drop i s) ≡ None
  low h = simp (drop-cons s i 0 in-text, lt-leb 33 _ h)

  pub high : 126 < get_or s i 0 → word_rest v (drop i s) ≡ None
  high h = simp (drop-cons s i 0 in-text, lt-leb _ 126 h, le-leb 33 (get_or s i 0) (omega arith))

  pub more : 33 ≤ get_or s i 0 → get_or s i 0 ≤ 126 → word_rest v (drop i s) ≡ word_rest (v * 94 + (get_or s i 0 - 32)) (drop (i + 1) s)
  more h k = simp (drop-cons s i 0 in-text, add-one, le-leb 33 _ h, le-leb _ 126 k)

pub done : (s : List ℕ) (i v : ℕ) → length s ≤ i → word_rest v (drop i s) ≡ Some v
done s i v h = rw (drop_of_length-le s h)

-- ---- an id is its words
pub none : (t : List ℕ) → length t < 1 → id_of t ≡ None
unfolding id_of is_id
none t h = rw (lt-leb 1 (length t) h)

pub long : (t : List ℕ) → 16 < length t → id_of t ≡ None
unfolding id_of is_id
long t h = rw (le-leb 1 (length t) (omega arith), lt-leb (length t) 16 h)

module _ (t : List ℕ) (some : 1 ≤ length t) where
  two_words : length t ≤ 16 → id_of t ≡ joined (word_of (take 8 t)) (word_of (drop 8 t))
  unfolding id_of is_id word_of
  two_words most =
      rw (le-leb 1 (length t) some, le-leb (length t) 16 most, sym (ap id_bytes (take-append-drop 8 t)) ∙ bytes_append (take 8 t) (drop 8 t))
      (go (id_bytes (take 8 t)) (id_bytes (drop 8 t)) (word_from 0 (take 8 t)) (word_from 0 (drop 8 t)))
    where
      go : (x y : Bool) (a b : ℕ) → cond (x && y) (Some (order_id a b)) None ≡ joined (cond x (Some a) None) (cond y (Some b) None)
      go true true a b = refl
      go true false a b = refl
      go false y a b = refl

  -- the second word's bytes as a part of the text
  pub two_parts : length t ≤ 16 → id_of t ≡ joined (word_of (take 8 t)) (word_of (take (length t - 8) (drop 8 t)))
  two_parts most = let e : take (length t - 8) (drop 8 t) ≡ drop 8 t = take_all (length t - 8) (drop 8 t) (omega (arith, length-drop 8 t)) in rw e (two_words most)

  pub one_word : length t ≤ 8 → id_of t ≡ joined (word_of t) (Some 0)
  unfolding word_of
  one_word h = two_words (omega arith) ∙ rw (take_all 8 t h, drop_of_length-le t h)
