-- The frame of a message and its type (document 01, "Frame"; answers 11, 12 and 13). Assumes nothing.
use Rattle.std.specs.Prelude.{Option, Some, None, Result, Ok, Err}
use Rattle.std.specs.Prelude.{ℕ, ◌+◌, ◌%◌, Bool, true, false, cond, ◌&&◌, ◌||◌, List, [], ◌∷◌, ◌++◌, length, ◌==◌, nat_le}
use Rattle.digits.specs.Digits.{digits_of, whole_of}
use Rattle.text.specs.Text.{fixed, decimal}
use Rattle.chain.specs.Fields.{Field, field, fields_of}
use Rattle.chain.specs.Bytes.{bytes_of}
use Rattle.frame.specs.declared.Framed.{Framed}
use Rattle.frame.specs.declared.FrameError.{FrameError}

-- a frame of this type; the fields after 35 start at from
abbrev pub of_type : ℕ → ℕ → Framed
of_type kind from = record { kind = kind; from = from }

-- the same bytes
abbrev pub equal : List ℕ → List ℕ → Bool
equal [] [] = true
equal [] (y ∷ ys) = false
equal (x ∷ xs) [] = false
equal (x ∷ xs) (y ∷ ys) = x == y && equal xs ys

-- the sum of bytes
abbrev pub total : List ℕ → ℕ
total [] = 0
total (b ∷ bs) = b + total bs

-- a number was read, and it is n
abbrev pub reads : Option ℕ → ℕ → Bool
reads None n = false
reads (Some v) n = v == n

-- FIX.4.4
abbrev pub begin : List ℕ
begin = 70 ∷ 73 ∷ 88 ∷ 46 ∷ 52 ∷ 46 ∷ 52 ∷ []

-- 8=FIX.4.4
abbrev pub begins : Field → Bool
begins f = f.tag == 8 && equal f.text begin

-- tag 9 (1 to 5 digits, no leading zero) counts the bytes after its own SOH up to and with the SOH before 10:
-- those of the fields between
abbrev pub counts : Field → List Field → Bool
counts f between = f.tag == 9 && reads (whole_of 5 f.text) (length (bytes_of between))

-- tag 10 is three digits
abbrev pub sum_of : Field → Option ℕ
sum_of f = cond (f.tag == 10 && length f.text == 3) (digits_of 3 f.text) None

-- types: X, W, and 0, f, y, B
abbrev pub is_type : ℕ → Bool
is_type k = (k == 88 || (k == 87 || k == 48)) || (k == 102 || (k == 121 || k == 66))

-- the type is the value of 35; the fields after it start at from
abbrev pub typed : List ℕ → ℕ → Result Framed FrameError
typed [] from = Err FrameError.BadType
typed (k ∷ []) from = cond (is_type k) (Ok (of_type k from)) (Err FrameError.BadType)
typed (k ∷ l ∷ ks) from = Err FrameError.BadType

-- three digits: the sum of all bytes before it, wrapped at 256; another sum is 12, and no three digits are 11
abbrev pub summed : Option ℕ → List Field → Result Framed FrameError → Result Framed FrameError
summed None fs r = Err FrameError.BadFrame
summed (Some v) fs r = cond (v == total (bytes_of fs) % 256) r (Err FrameError.BadSum)

-- the last of c and the fields after it
abbrev pub last_of : Field → List Field → Field
last_of c [] = c
last_of c (f ∷ fs) = last_of f fs

-- all but the last
abbrev pub front_of : List Field → List Field
front_of [] = []
front_of (f ∷ []) = []
front_of (f ∷ g ∷ fs) = f ∷ front_of (g ∷ fs)

-- 8=FIX.4.4, 9, 35, others, last 10
abbrev pub ordered : Field → Field → Field → List Field → Field → Result Framed FrameError
ordered a b c fs z =
    cond (begins a && (counts b (c ∷ fs) && c.tag == 35))
    (summed (sum_of z) (a ∷ b ∷ c ∷ fs) (typed c.text (length (bytes_of (a ∷ b ∷ c ∷ [])))))
    (Err FrameError.BadFrame)

-- 8, 9 and 35 come first; the last is 10
abbrev pub chained : Option (List Field) → Result Framed FrameError
chained None = Err FrameError.BadFrame
chained (Some []) = Err FrameError.BadFrame
chained (Some (a ∷ [])) = Err FrameError.BadFrame
chained (Some (a ∷ b ∷ [])) = Err FrameError.BadFrame
chained (Some (a ∷ b ∷ c ∷ fs)) = ordered a b c (front_of fs) (last_of c fs)

-- a message has 1 to 8,192 bytes and is a chain of fields
unfoldable pub frame_of : List ℕ → Result Framed FrameError
frame_of s = cond (nat_le 1 (length s) && nat_le (length s) 8192) (chained (fields_of s)) (Err FrameError.BadFrame)

-- ---- what a frame holds
-- the fields after the first three, but the last
abbrev pub inside : Option (List Field) → List Field
inside None = []
inside (Some []) = []
inside (Some (a ∷ [])) = []
inside (Some (a ∷ b ∷ [])) = []
inside (Some (a ∷ b ∷ c ∷ fs)) = front_of fs

-- the fields between 35 and 10
unfoldable pub body_of : List ℕ → List Field
body_of s = inside (fields_of s)

-- ---- the frame around the fields from 35 on
-- 8, and 9 with their length
abbrev pub headed : List Field → List Field
headed fs = field 8 begin ∷ field 9 (decimal (length (bytes_of fs))) ∷ fs

-- and 10 after them, which says v
abbrev pub ended : List Field → ℕ → List Field
ended fs v = headed fs ++ (field 10 (fixed 3 v) ∷ [])

-- and 10 says the sum
unfoldable pub framed : List Field → List Field
framed fs = ended fs (total (bytes_of (headed fs)) % 256)
