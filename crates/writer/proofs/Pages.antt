-- The frame around a message's fields, written first, last and in between. Assumes nothing.
use mathlib.Core.Path.{◌≡◌, ap, ◌∙◌}
use mathlib.Core.List.{List, [], ◌∷◌, ◌++◌, append-nil}
use Prim.Native.Nat.{ℕ, ◌+◌, ◌%◌, ◌≤◌, ◌<◌}
use native.Mathlib.Omega.{arith}
use borrow.Author.Tests.{le-leb, lt-leb}
use lib.ListN.{length, take, drop, length-append}
use lib.Seq.{sets-eq, take-append_seam}
use Rattle.text.specs.Text.{fixed, width_of, decimal, Wrote}
use Rattle.text.proofs.Written.{length_decimal}
use Rattle.text.proofs.Stores.{and_then, as_text}
use Rattle.chain.specs.Fields.{Field, field}
use Rattle.chain.specs.Bytes.{field_bytes, bytes_of}
use Rattle.frame.specs.Frames.{total, headed, framed}
use Rattle.chain.proofs.Inverse.{length_field}
use Rattle.frame.proofs.Well.{bytes_append, tags, eight_bytes, length_ten}
use Rattle.writer.specs.Writing.{written_of, out_after, opening_fields}

-- the bytes of 8 and 9
opening_long : (n : ℕ) → length (bytes_of (opening_fields n)) ≡ 13 + width_of n
unfolding bytes_of
opening_long n = rw (eight_bytes, append-nil (field_bytes (field 9 (decimal n))), length_field, tags.0, length_decimal) (omega arith)

single : (f : Field) → bytes_of (f ∷ []) ≡ field_bytes f
unfolding bytes_of
single f = append-nil (field_bytes f)

module _ (fs : List Field) (n : ℕ) (size : n ≡ length (bytes_of fs)) where
  -- all before 10
  abbrev front : List ℕ
  front = bytes_of (opening_fields n) ++ bytes_of fs

  front_is : bytes_of (headed fs) ≡ front
  front_is = rw size (bytes_append (opening_fields (length (bytes_of fs))) fs)

  parts : bytes_of (framed fs) ≡ front ++ field_bytes (field 10 (fixed 3 (total front % 256)))
  unfolding framed
  parts = bytes_append (headed fs) (field 10 (fixed 3 (total (bytes_of (headed fs)) % 256)) ∷ []) ∙ rw (single, front_is)

  pub long : length (bytes_of (framed fs)) ≡ n + width_of n + 20
  long = rw (parts, length-append front, length-append (bytes_of (opening_fields n)) (bytes_of fs), opening_long, length_ten) (omega arith)

  -- too little room
  pub short_written : (l : List ℕ) → length l < n + width_of n + 20 → written_of (bytes_of (framed fs)) l ≡ record { answer = 25; bytes = 0 }
  unfolding written_of
  short_written l h = rw (long, lt-leb (n + width_of n + 20) (length l) h)

  pub short_after : (l : List ℕ) → length l < n + width_of n + 20 → out_after (bytes_of (framed fs)) l ≡ l
  unfolding out_after
  short_after l h = rw (long, lt-leb (n + width_of n + 20) (length l) h)

  -- enough room: 8 and 9, the fields, then 10 with the sum of what stands before it
  module _ (l l1 l2 l3 : List ℕ) (a b s r : ℕ) (room : n + width_of n + 20 ≤ length l) (x : Wrote l 0 (bytes_of (opening_fields n)) l1 a)
      (y : Wrote l1 a (bytes_of fs) l2 b) (sum : s ≡ total (take b l2) % 256) (z : Wrote l2 b (field_bytes (field 10 (fixed 3 s))) l3 r) where
    written : Wrote l 0 (bytes_of (framed fs)) l3 r
    written =
        let w : Wrote l 0 front l2 b = and_then x y in
        let k : length front ≤ length l = omega (arith, length-append (bytes_of (opening_fields n)) (bytes_of fs), opening_long n) in
        let e : b ≡ length front = omega (arith, w.next) in
        let u : take b l2 ≡ front = rw (w.same, e, sets-eq front l 0 (omega arith)) (take-append_seam front (drop (0 + length front) l)) in
        rw parts (and_then w (as_text (ap (λ (v : ℕ). field_bytes (field 10 (fixed 3 v))) (sum ∙ ap (λ (v : List ℕ). total v % 256) u)) z))

    pub done_written : record { answer = 0; bytes = r } ≡ written_of (bytes_of (framed fs)) l
    unfolding written_of
    done_written =
        let e : r ≡ length (bytes_of (framed fs)) = omega (arith, written.next) in
        rw (le-leb (length (bytes_of (framed fs))) (length l) (omega (arith, long)), e)

    pub done_after : l3 ≡ out_after (bytes_of (framed fs)) l
    unfolding out_after
    done_after = rw (le-leb (length (bytes_of (framed fs))) (length l) (omega (arith, long))) written.same
