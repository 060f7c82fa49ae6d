-- Both bounds of the length are reached, by what is in range. Assumes nothing.
use mathlib.Core.Path.{◌≡◌, refl}
use mathlib.Core.Bool.{true}
use mathlib.Core.List.{[], ◌∷◌}
use Prim.Native.Nat.{ℕ, zero, suc, ◌-◌}
use native.Mathlib.Omega.{arith}
use lib.IntN.{negsuc}
use lib.ListN.{length, replicate}
use Rattle.text.specs.Text.{fixed, width_to, width_of, decimal}
use Rattle.price.specs.Price as price
use Rattle.price.specs.PriceText.{decimals, fraction_text, amount_text, price_text}
use Rattle.moment.specs.Moments.{date_text, clock_text, time_text, moment_text}
use Rattle.orderid.specs.OrderIds.{is_id, word_text, id_text, top}
use Rattle.chain.specs.Bytes.{field_bytes, bytes_of}
use Rattle.frame.specs.Frames.{framed}
use Rattle.book.specs.Ids.{most_id}
use Rattle.message.specs.Message.{most_number}
use Rattle.book.specs.Canonical.{All}
use Rattle.book.specs.Rules.{Lists, empty}
use Rattle.book.specs.declared.Entry.{Entry}
use Rattle.board.specs.Ranges.{entry_fine}
use Rattle.board.specs.Sound.{SoundSide}
use Rattle.snapshot.specs.Snapshot.{Letter, side_fields, snapshot_fields, snapshot_bytes}
use Rattle.roundtrip.specs.ReadBack.{InRange, least_bytes, most_bytes, BothReached}

-- ---- an empty book, and every number one digit
abbrev short : Letter
short = record { sender = 65 ∷ []; target = 66 ∷ []; k = 1; m = 1; time = 0 }

nothing : SoundSide 0 []
nothing = record { room = omega arith; entries = tt }

pub short_in : InRange 0 short 1 0 empty
unfolding is_id
short_in =
    record {
      sender = refl;
      target = refl;
      k_low = omega arith;
      k_high = omega arith;
      m_high = omega arith;
      time = omega arith;
      id_low = omega arith;
      id_high = omega arith;
      last = omega arith;
      bids = nothing;
      offers = nothing;
    }

pub least : length (snapshot_bytes 0 short 1 0 empty) ≡ least_bytes
unfolding snapshot_bytes snapshot_fields side_fields framed bytes_of field_bytes decimal width_of width_to fixed moment_text date_text time_text clock_text
least = refl

-- ---- a full book of the longest entries, and every number and name as long as it may be
abbrev wide : Entry
wide = record { price = negsuc (price.top - 2); size = 999999999999; by = top; more = top; moment = 0 }

abbrev full : Lists
full = record { bids = replicate 20 wide; offers = replicate 20 wide }

abbrev long : Letter
long = record { sender = replicate 16 65; target = replicate 16 66; k = 16; m = 16; time = 0 }

alike : (n : ℕ) (e : Entry) → entry_fine 0 e ≡ true → All (λ e. entry_fine 0 e ≡ true) (replicate n e)
alike zero e h = tt
alike (suc n) e h = (h, alike n e h)

wide_fine : entry_fine 0 wide ≡ true
unfolding entry_fine
wide_fine = refl

twenty : SoundSide 0 (replicate 20 wide)
twenty = record { room = omega arith; entries = alike 20 wide wide_fine }

pub long_in : InRange 0 long most_id most_number full
unfolding is_id
long_in =
    record {
      sender = refl;
      target = refl;
      k_low = omega arith;
      k_high = omega arith;
      m_high = omega arith;
      time = omega arith;
      id_low = omega arith;
      id_high = omega arith;
      last = omega arith;
      bids = twenty;
      offers = twenty;
    }

pub most : length (snapshot_bytes 0 long most_id most_number full) ≡ most_bytes
unfolding snapshot_bytes snapshot_fields side_fields framed bytes_of field_bytes decimal width_of width_to fixed price_text amount_text fraction_text decimals id_text word_text moment_text date_text time_text clock_text
most = refl

pub both_reached : BothReached
both_reached =
    record {
      least = record { depth = 0; letter = short; who = 1; last = 0; book = empty; fine = short_in; bytes = least };
      most = record { depth = 0; letter = long; who = most_id; last = most_number; book = full; fine = long_in; bytes = most };
    }
