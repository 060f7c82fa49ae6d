-- Marked case 14 of document 01, and the frame's easy slips, computed from the definitions. Assumes nothing.
use Rattle.std.specs.Prelude.{Ok, Err}
use Rattle.std.proofs.Common.{◌≡◌, ℕ, ◌+◌, ◌%◌, List, [], ◌∷◌, ◌++◌, length, refl}
use Rattle.digits.specs.Digits.{digits_of, whole_of, ranged_of}
use Rattle.text.specs.Text.{fixed, width_to, width_of, decimal}
use Rattle.chain.specs.Fields.{field_of, cut, fields_of}
use Rattle.chain.specs.Bytes.{field_bytes, bytes_of}
use Rattle.frame.specs.Frames.{of_type, total, frame_of}
use Rattle.frame.specs.Marked.{before_ten, message}
use Rattle.frame.specs.declared.FrameError.{FrameError}

size : length message ≡ 110
size = refl

-- M14
pub sums_to_29 : total before_ten % 256 ≡ 29
sums_to_29 = refl

pub frames : frame_of message ≡ Ok (of_type 87 20)
unfolding frame_of fields_of cut field_of ranged_of whole_of digits_of bytes_of field_bytes decimal width_of width_to fixed
frames = refl

-- 10=285 for a sum of 29 is 12
other_sum : frame_of (before_ten ++ (49 ∷ 48 ∷ 61 ∷ 50 ∷ 56 ∷ 53 ∷ 1 ∷ [])) ≡ Err FrameError.BadSum
unfolding frame_of fields_of cut field_of ranged_of whole_of digits_of bytes_of field_bytes decimal width_of width_to fixed
other_sum = refl

-- ---- short messages: 8=FIX.4.4| or another start, tag 9, the fields from 35 on, and the trailer
abbrev eight : List ℕ
eight = 56 ∷ 61 ∷ 70 ∷ 73 ∷ 88 ∷ 46 ∷ 52 ∷ 46 ∷ 52 ∷ 1 ∷ []

abbrev nine : List ℕ → List ℕ
nine digits = 57 ∷ 61 ∷ (digits ++ (1 ∷ []))

abbrev type : List ℕ → List ℕ
type kind = 51 ∷ 53 ∷ 61 ∷ (kind ++ (1 ∷ []))

-- 34=1|
abbrev number : List ℕ
number = 51 ∷ 52 ∷ 61 ∷ 49 ∷ 1 ∷ []

abbrev ten : ℕ → ℕ → ℕ → List ℕ
ten a b c = 49 ∷ 48 ∷ 61 ∷ (48 + a) ∷ (48 + b) ∷ (48 + c) ∷ 1 ∷ []

-- no byte is 11
no_bytes : frame_of [] ≡ Err FrameError.BadFrame
unfolding frame_of
no_bytes = refl

-- tag 9 = "0" is good digits and a wrong count: 11
-- 8=FIX.4.4|9=0|35=W|34=1|10=155|
no_count : frame_of (eight ++ nine (48 ∷ []) ++ type (87 ∷ []) ++ number ++ ten 1 5 5) ≡ Err FrameError.BadFrame
unfolding frame_of fields_of cut field_of ranged_of whole_of digits_of bytes_of field_bytes decimal width_of width_to fixed
no_count = refl

-- a leading zero in 9 is 11
-- 8=FIX.4.4|9=010|35=W|34=1|10=252|
lead_zero : frame_of (eight ++ nine (48 ∷ 49 ∷ 48 ∷ []) ++ type (87 ∷ []) ++ number ++ ten 2 5 2) ≡ Err FrameError.BadFrame
unfolding frame_of fields_of cut field_of ranged_of whole_of digits_of bytes_of field_bytes decimal width_of width_to fixed
lead_zero = refl

-- a wrong count with a wrong sum is 11, not 12
-- 8=FIX.4.4|9=9|35=W|34=1|10=000|
both_wrong : frame_of (eight ++ nine (57 ∷ []) ++ type (87 ∷ []) ++ number ++ ten 0 0 0) ≡ Err FrameError.BadFrame
unfolding frame_of fields_of cut field_of ranged_of whole_of digits_of bytes_of field_bytes decimal width_of width_to fixed
both_wrong = refl

-- the begin string FIX4.4 is 11
-- 8=FIX4.4|9=10|35=W|34=1|10=158|
no_point : frame_of ((56 ∷ 61 ∷ 70 ∷ 73 ∷ 88 ∷ 52 ∷ 46 ∷ 52 ∷ 1 ∷ []) ++ nine (49 ∷ 48 ∷ []) ++ type (87 ∷ []) ++ number ++ ten 1 5 8) ≡ Err FrameError.BadFrame
unfolding frame_of fields_of cut field_of ranged_of whole_of digits_of bytes_of field_bytes decimal width_of width_to fixed
no_point = refl

-- a type that is not ours is 13
-- 8=FIX.4.4|9=10|35=A|34=1|10=182|
other_type : frame_of (eight ++ nine (49 ∷ 48 ∷ []) ++ type (65 ∷ []) ++ number ++ ten 1 8 2) ≡ Err FrameError.BadType
unfolding frame_of fields_of cut field_of ranged_of whole_of digits_of bytes_of field_bytes decimal width_of width_to fixed
other_type = refl

-- a type of two bytes is 13
-- 8=FIX.4.4|9=11|35=WW|34=1|10=036|
two_bytes : frame_of (eight ++ nine (49 ∷ 49 ∷ []) ++ type (87 ∷ 87 ∷ []) ++ number ++ ten 0 3 6) ≡ Err FrameError.BadType
unfolding frame_of fields_of cut field_of ranged_of whole_of digits_of bytes_of field_bytes decimal width_of width_to fixed
two_bytes = refl

-- a second 35 is no matter of the frame
-- 8=FIX.4.4|9=10|35=W|35=A|10=221|
second_type : frame_of (eight ++ nine (49 ∷ 48 ∷ []) ++ type (87 ∷ []) ++ type (65 ∷ []) ++ ten 2 2 1) ≡ Ok (of_type 87 20)
unfolding frame_of fields_of cut field_of ranged_of whole_of digits_of bytes_of field_bytes decimal width_of width_to fixed
second_type = refl
