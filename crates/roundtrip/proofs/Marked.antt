-- The message of document 01 for an empty book, byte for byte. Assumes nothing.
use mathlib.Core.Path.{◌≡◌, refl, sym, ap, ◌∙◌}
use mathlib.Core.Bool.{true}
use mathlib.Core.List.{[], ◌∷◌}
use Prim.Native.Nat.{◌+◌, ◌*◌}
use native.Mathlib.Omega.{arith}
use Rattle.text.specs.Text.{fixed, width_to, width_of, decimal}
use Rattle.calendar.specs.Calendar.{leap, months, days_in, days_to, year_days, days_before, is_date, day_of, date_number}
use Rattle.calendar.proofs.Dates.{date_back}
use Rattle.moment.specs.Moments.{span, date_text, clock_text, time_text, moment_text}
use Rattle.chain.specs.Bytes.{field_bytes, bytes_of}
use Rattle.frame.specs.Frames.{framed}
use Rattle.frame.specs.Marked.{message}
use Rattle.book.specs.Rules.{empty}
use Rattle.snapshot.specs.Snapshot.{Letter, side_fields, snapshot_fields, snapshot_bytes}

-- SHED to YARD, 1 of 1, at 20250103-13:00:00.000, which is day 739619
abbrev hut : Letter
hut = record { sender = 83 ∷ 72 ∷ 69 ∷ 68 ∷ []; target = 89 ∷ 65 ∷ 82 ∷ 68 ∷ []; k = 1; m = 1; time = 739619 * span + 47580000 }

the_day : day_of 20250103 ≡ 739619
unfolding day_of leap months days_in days_to year_days days_before
the_day = refl

a_date : is_date 20250103 ≡ true
unfolding is_date leap months days_in
a_date = refl

the_date : date_number 739619 ≡ 20250103
the_date = ap date_number (sym the_day) ∙ date_back 20250103 (omega arith) a_date

the_moment : moment_text hut.time ≡ 50 ∷ 48 ∷ 50 ∷ 53 ∷ 48 ∷ 49 ∷ 48 ∷ 51 ∷ 45 ∷ 49 ∷ 51 ∷ 58 ∷ 48 ∷ 48 ∷ 58 ∷ 48 ∷ 48 ∷ 46 ∷ 48 ∷ 48 ∷ 48 ∷ []
unfolding moment_text date_text time_text clock_text fixed
the_moment = rw the_date

-- 8=FIX.4.4|9=88|35=W|49=SHED|56=YARD|34=1|52=20250103-13:00:00.000|48=7|22=8|207=BVMF|369=0|911=1|268=0|10=029|
pub the_message : snapshot_bytes 0 hut 7 0 empty ≡ message
unfolding snapshot_bytes snapshot_fields side_fields framed bytes_of field_bytes decimal width_of width_to fixed
the_message = rw the_moment
