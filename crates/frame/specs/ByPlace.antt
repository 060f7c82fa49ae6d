-- The frame place by place, as the code reads it: 11 first, then the sum, then the type. `by_places` in proofs/Framing.antt
-- shows that they come to `frame_of`; of these definitions a public contract cites only `outline_of`, and Laws.antt says how it
-- comes to `frame_of`. Assumes nothing.
use Rattle.std.specs.Prelude.{Option, Some, None, Result, Err}
use Rattle.std.specs.Prelude.{ℕ, ◌+◌, ◌-◌, ◌%◌, cond, ◌&&◌, List, [], ◌∷◌, length, take, ◌==◌, nat_le, slice_index}
use Rattle.digits.specs.Digits.{digits_of, whole_of}
use Rattle.chain.specs.Fields.{fields_of}
use Rattle.frame.specs.Frames.{equal, total, typed}
use Rattle.chain.specs.Places.{part, field_at, is_some}
use Rattle.chain.specs.declared.Step.{Step}
use Rattle.frame.specs.declared.Opening.{Opening}
use Rattle.frame.specs.declared.Shape.{Shape}
use Rattle.frame.specs.declared.Framed.{Framed}
use Rattle.frame.specs.declared.FrameError.{FrameError}

-- what 9 says, where 35 starts, and its value
abbrev pub opening : ℕ → ℕ → ℕ → ℕ → Opening
opening v at from to = record { count = v; at = at; from = from; to = to }

-- the value of 35, and what 10 says
abbrev pub shape : ℕ → ℕ → ℕ → Shape
shape from to v = record { from = from; to = to; sum = v }

-- a field of one tag
abbrev pub tagged : ℕ → Option Step → Option Step
tagged t None = None
tagged t (Some f) = cond (f.tag == t) (Some f) None

-- 8=FIX.4.4 and its SOH
abbrev pub preamble : List ℕ
preamble = 56 ∷ 61 ∷ 70 ∷ 73 ∷ 88 ∷ 46 ∷ 52 ∷ 46 ∷ 52 ∷ 1 ∷ []

abbrev pub third_of : ℕ → ℕ → Option Step → Option Opening
third_of v at None = None
third_of v at (Some f) = Some (opening v at f.from f.to)

abbrev pub count_of : List ℕ → ℕ → Option ℕ → Option Opening
count_of s at None = None
count_of s at (Some v) = third_of v at (tagged 35 (field_at s at))

abbrev pub second_of : List ℕ → Option Step → Option Opening
second_of s None = None
second_of s (Some f) = count_of s (f.to + 1) (whole_of 5 (part f.from f.to s))

-- 8 and 9, what 9 says, where 35 starts, and its value
unfoldable pub head_of : List ℕ → Option Opening
head_of s = cond (equal (take 10 s) preamble) (second_of s (tagged 9 (field_at s 10))) None

-- 10=, three digits and SOH
unfoldable pub trailer_of : List ℕ → Option ℕ
trailer_of t =
    cond (length t == 7 && (equal (take 3 t) (49 ∷ 48 ∷ 61 ∷ []) && slice_index t 6 == 1)) (digits_of 3 (part 3 6 t)) None

abbrev pub sum_read : ℕ → ℕ → Option ℕ → Option Shape
sum_read from to None = None
sum_read from to (Some v) = Some (shape from to v)

-- 9 counts right, and the trailer is three digits
abbrev pub parts_in : List ℕ → Option Opening → Option Shape
parts_in s None = None
parts_in s (Some o) =
    cond (o.at + o.count + 7 == length s && nat_le (o.to + 1) (length s - 7))
    (sum_read o.from o.to (trailer_of (part (length s - 7) (length s) s)))
    None

-- the type and what 10 says, where nothing is 11 but for the chain of the fields after 35
unfoldable pub parts_of : List ℕ → Option Shape
parts_of s = cond (nat_le (length s) 8192) (parts_in s (head_of s)) None

-- the sum, then the type
abbrev pub judged : List ℕ → ℕ → ℕ → ℕ → Result Framed FrameError
judged s from to v = cond (v == total (take (length s - 7) s) % 256) (typed (part from to s) (to + 1)) (Err FrameError.BadSum)

abbrev pub outline_in : List ℕ → Option Shape → Result Framed FrameError
outline_in s None = Err FrameError.BadFrame
outline_in s (Some x) = judged s x.from x.to x.sum

-- the frame but for the chain of the fields after 35
unfoldable pub outline_of : List ℕ → Result Framed FrameError
outline_of s = outline_in s (parts_of s)

-- the frame: they are a chain up to the trailer, too
abbrev pub frame_in : List ℕ → Option Shape → Result Framed FrameError
frame_in s None = Err FrameError.BadFrame
frame_in s (Some x) = cond (is_some (fields_of (part (x.to + 1) (length s - 7) s))) (judged s x.from x.to x.sum) (Err FrameError.BadFrame)
