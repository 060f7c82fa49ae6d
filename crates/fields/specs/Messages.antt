-- A message, whole: document 01's "Frame" and "Fields" from bytes to what a board takes.
use Rattle.std.specs.Prelude.{ℕ, List, Result, Ok, Err}
use Rattle.message.specs.Message.{Message, refused}
use Rattle.message.specs.declared.Refusal.{Refusal}
use Rattle.message.specs.declared.Refusal.TheVariants.{BadFrame, BadSum, BadType, BadFields}
use Rattle.frame.specs.Frames.{frame_of, body_of}
use Rattle.frame.specs.declared.Framed.{Framed}
use Rattle.frame.specs.declared.FrameError.{FrameError}
use Rattle.lead.specs.Messages.{or_bad_fields, typed_as}

-- Why a message is not read: its frame, or else a breach under "Fields".
abbrev pub refusal_of : Result Framed FrameError → Refusal
refusal_of (Ok f) = BadFields
refusal_of (Err FrameError.BadFrame) = BadFrame
refusal_of (Err FrameError.BadSum) = BadSum
refusal_of (Err FrameError.BadType) = BadType

abbrev pub framed_as : ℕ → List ℕ → Result Framed FrameError → Message
framed_as depth s (Ok f) = or_bad_fields (typed_as depth f.kind (body_of s))
framed_as depth s (Err why) = refused (refusal_of (Err why))

-- The message that bytes are, read on a channel of a depth kind.
unfoldable pub message_in : ℕ → List ℕ → Message
message_in depth s = framed_as depth s (frame_of s)
