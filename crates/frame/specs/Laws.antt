-- What is shown of a frame and its outline: with the chain of the fields after 35 the outline is the frame.
use Rattle.std.specs.Prelude.{Ok, ◌≡◌, ℕ, ◌-◌, ◌≤◌, true, List, length}
use Rattle.chain.specs.Fields.{fields_of}
use Rattle.frame.specs.Frames.{of_type, is_type, frame_of}
use Rattle.chain.specs.Places.{part, is_some}
use Rattle.frame.specs.ByPlace.{outline_of}

-- What an outline with a type says: the type is one of ours, the fields after 35 start before the trailer, and where they are
-- a chain the frame is good and says the same.
pub record Outline (s : List ℕ) (kind from : ℕ) : Type 0 where
  pub type : is_type kind ≡ true
  pub long : 7 ≤ length s
  pub inside : from ≤ length s - 7
  pub frame : is_some (fields_of (part from (length s - 7) s)) ≡ true → frame_of s ≡ Ok (of_type kind from)

abbrev pub ChainedIsFrame : Type 0
ChainedIsFrame = (s : List ℕ) (kind from : ℕ) → outline_of s ≡ Ok (of_type kind from) → Outline s kind from

-- A good frame has that outline, so what has no outline with a type has no good frame.
abbrev pub FrameIsOutlined : Type 0
FrameIsOutlined = (s : List ℕ) (kind from : ℕ) → frame_of s ≡ Ok (of_type kind from) → outline_of s ≡ Ok (of_type kind from)
