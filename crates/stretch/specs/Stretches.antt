-- Where a message is taken in a recording (document 02, K12). Assumes nothing.
use Rattle.std.specs.Prelude.{Option, Some, None, Result, Ok, Err}
use Rattle.std.specs.Prelude.{ℕ, ◌+◌, ◌≤◌, ◌≡◌, List, Bool, true, false, cond, ◌&&◌, leb, eqb, length, take, drop}
use Rattle.digits.specs.Digits.{whole_of}
use Rattle.chain.specs.Places.{part, field_at}
use Rattle.chain.specs.declared.Step.{Step}
use Rattle.frame.specs.Frames.{equal, frame_of}
use Rattle.frame.specs.ByPlace.{tagged, preamble}
use Rattle.frame.specs.declared.Framed.{Framed}
use Rattle.frame.specs.declared.FrameError.{FrameError}

-- 11 and 12 do not refuse it; 13 and 14 are not asked
abbrev pub passes : Result Framed FrameError → Bool
passes (Err FrameError.BadFrame) = false
passes (Err FrameError.BadSum) = false
passes (Err FrameError.BadType) = true
passes (Ok f) = true

-- the first n bytes of s are a stretch that 11 and 12 do not refuse
pub record Taken (s : List ℕ) (n : ℕ) : Type 0 where
  pub inside : n ≤ length s
  pub good : passes (frame_of (take n s)) ≡ true

-- no such stretch has more bytes
abbrev pub longest : ℕ
longest = 8192

-- the length of a stretch; 0 stands for none
abbrev pub some_length : ℕ → Option ℕ
some_length n = cond (eqb n 0) None (Some n)

-- the n bytes from p on
abbrev pub taken : List ℕ → ℕ → ℕ → Type 0
taken rec p n = Taken (drop p rec) n

-- ---- the stretch that tag 9 names
-- the bytes up to the SOH of 9, which stands at to, those that 9 counts, and the 7 of 10
abbrev pub length_by : ℕ → Option ℕ → ℕ
length_by to None = 0
length_by to (Some v) = to + 1 + v + 7

abbrev pub nine_by : List ℕ → Option Step → ℕ
nine_by h None = 0
nine_by h (Some f) = length_by f.to (whole_of 5 (part f.from f.to h))

-- 8=FIX.4.4 and SOH, then 9; the first 18 bytes hold both
unfoldable pub named_of : List ℕ → ℕ
named_of h = cond (equal (take 10 h) preamble) (nine_by h (tagged 9 (field_at h 10))) 0

-- n, if the first n bytes of s are there and pass, else 0
abbrev pub if_taken : ℕ → List ℕ → ℕ
if_taken n s = cond (leb n (length s) && passes (frame_of (take n s))) n 0

-- the length of the message that is taken at the start of s, or 0; Laws.antt says that it is the only stretch that is Taken
unfoldable pub stretch_of : List ℕ → ℕ
stretch_of s = if_taken (named_of (take 18 s)) s

-- and from p on
abbrev pub stretch_at : List ℕ → ℕ → ℕ
stretch_at rec p = stretch_of (drop p rec)
