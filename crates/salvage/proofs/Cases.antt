-- The walk's cases, computed from the definitions. Assumes nothing.
use mathlib.Core.Path.{refl}
use Rattle.digits.specs.Digits.{digits_of, whole_of, ranged_of}
use Rattle.text.specs.Text.{fixed, width_to, width_of, decimal}
use Rattle.chain.specs.Fields.{field_of, cut, fields_of}
use Rattle.chain.specs.Bytes.{field_bytes, bytes_of}
use Rattle.chain.specs.Places.{field_at}
use Rattle.frame.specs.Frames.{frame_of}
use Rattle.stretch.specs.Stretches.{named_of, stretch_of}
use Rattle.salvage.specs.Pieces.{walk_of, pieces}
use Rattle.salvage.specs.Cases.{WalkCases}

pub walk_cases : WalkCases
unfolding pieces walk_of stretch_of named_of field_at frame_of fields_of cut field_of ranged_of whole_of digits_of bytes_of field_bytes decimal width_of width_to fixed
walk_cases = record { between = refl; spoilt = refl; outer = refl; inner = refl }
