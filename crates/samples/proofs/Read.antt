-- What the messages read as, computed from the definitions. Assumes nothing.
use mathlib.Core.Path.{◌≡◌, refl}
use mathlib.Core.List.{[]}
use lib.ListN.{length}
use Rattle.digits.specs.Digits.{digits_of, whole_of, ranged_of}
use Rattle.text.specs.Text.{fixed, width_to, width_of, decimal}
use Rattle.price.specs.Price.{fraction_of, amount_of, price_of}
use Rattle.calendar.specs.Calendar.{leap, months, days_in, days_to, year_days, days_before, is_date, day_of}
use Rattle.moment.specs.Moments.{date_of, two_of, minutes_of, clock_of, time_of, moment_of}
use Rattle.orderid.specs.OrderIds.{is_id, id_of}
use Rattle.chain.specs.Fields.{field_of, cut, fields_of}
use Rattle.chain.specs.Bytes.{field_bytes, bytes_of}
use Rattle.frame.specs.Frames.{frame_of, body_of}
use Rattle.tags.specs.Tags.{has, stands, tidy, up_to, past, parts, all_tidy, lookup}
use Rattle.values.specs.Values.{bvmf, instrument_of, sort_of, by_of, moment_in, values_of}
use Rattle.entries.specs.Entries.{book_entry, empty_all, empty_book, entry_in_x, shown_entry, entry_in_w}
use Rattle.message.specs.Message.{snapshot, refused}
use Rattle.message.specs.declared.Refusal.TheVariants.{BadFields}
use Rattle.group.specs.Groups.{group_of, each, running}
use Rattle.lead.specs.Messages.{changes_of, head_of, snapshot_of, or_bad_fields, typed_as}
use Rattle.fields.specs.Messages.{message_in}
use Rattle.samples.specs.Messages.{empty_book_bytes, point_alone, too_many_decimals, eight_decimals, first, second, third, at_1, at_2, at_4, one_of_two, two_of_two, fourth, all_empty_bytes, all_empty_22, all_empty_207, bid_without_48}
use Rattle.samples.specs.Says.{bid_1, bid_2, eight_says, first_says, second_says, third_says, shows, one_says, two_says, fourth_says, all_says}

-- the message has 110 bytes and says an empty book
pub sized : length empty_book_bytes ≡ 110
sized = refl

-- what each message reads as
record Reads : Type 0 where
  pub says_empty : message_in 0 empty_book_bytes ≡ snapshot (record { number = 1; heard = 64968180540000; id = 7; last = 0; loops = 1 }) []
  pub m4_point : message_in 0 point_alone ≡ refused BadFields
  pub m4_many : message_in 0 too_many_decimals ≡ refused BadFields
  pub says_eight : message_in 0 eight_decimals ≡ eight_says
  pub says_first : message_in 0 first ≡ first_says
  pub says_second : message_in 0 second ≡ second_says
  pub says_third : message_in 0 third ≡ third_says
  pub says_at_1 : message_in 0 at_1 ≡ shows 1 bid_1
  pub says_at_4 : message_in 0 at_4 ≡ shows 4 bid_2
  pub says_at_2 : message_in 0 at_2 ≡ shows 2 bid_2
  pub says_one_of_two : message_in 0 one_of_two ≡ one_says
  pub says_two_of_two : message_in 0 two_of_two ≡ two_says
  pub says_fourth : message_in 0 fourth ≡ fourth_says
  pub says_all_empty : message_in 0 all_empty_bytes ≡ all_says
  pub bad_with_22 : message_in 0 all_empty_22 ≡ refused BadFields
  pub bad_with_207 : message_in 0 all_empty_207 ≡ refused BadFields
  pub bad_bid_without_48 : message_in 0 bid_without_48 ≡ refused BadFields

-- all of it by the definitions alone
reads : Reads
unfolding message_in typed_as or_bad_fields snapshot_of head_of group_of each running frame_of body_of fields_of cut field_of ranged_of whole_of digits_of bytes_of field_bytes decimal width_of width_to fixed tidy up_to past parts all_tidy lookup has stands moment_of date_of time_of clock_of minutes_of two_of is_date day_of leap months days_in days_to year_days days_before instrument_of bvmf changes_of entry_in_x book_entry values_of sort_of price_of amount_of fraction_of entry_in_w shown_entry by_of id_of is_id moment_in empty_book empty_all
reads =
    record {
      says_empty = refl;
      m4_point = refl;
      m4_many = refl;
      says_eight = refl;
      says_first = refl;
      says_second = refl;
      says_third = refl;
      says_at_1 = refl;
      says_at_4 = refl;
      says_at_2 = refl;
      says_one_of_two = refl;
      says_two_of_two = refl;
      says_fourth = refl;
      says_all_empty = refl;
      bad_with_22 = refl;
      bad_with_207 = refl;
      bad_bid_without_48 = refl;
    }

pub says_empty : message_in 0 empty_book_bytes ≡ snapshot (record { number = 1; heard = 64968180540000; id = 7; last = 0; loops = 1 }) []
says_empty = reads.says_empty

-- ---- M4
pub m4_point : message_in 0 point_alone ≡ refused BadFields
m4_point = reads.m4_point

pub m4_many : message_in 0 too_many_decimals ≡ refused BadFields
m4_many = reads.m4_many

pub says_eight : message_in 0 eight_decimals ≡ eight_says
says_eight = reads.says_eight

-- ---- M11 and M12
pub says_first : message_in 0 first ≡ first_says
says_first = reads.says_first

pub says_second : message_in 0 second ≡ second_says
says_second = reads.says_second

pub says_third : message_in 0 third ≡ third_says
says_third = reads.says_third

pub says_at_1 : message_in 0 at_1 ≡ shows 1 bid_1
says_at_1 = reads.says_at_1

pub says_at_4 : message_in 0 at_4 ≡ shows 4 bid_2
says_at_4 = reads.says_at_4

pub says_at_2 : message_in 0 at_2 ≡ shows 2 bid_2
says_at_2 = reads.says_at_2

-- ---- a loop
pub says_one_of_two : message_in 0 one_of_two ≡ one_says
says_one_of_two = reads.says_one_of_two

pub says_two_of_two : message_in 0 two_of_two ≡ two_says
says_two_of_two = reads.says_two_of_two

pub says_fourth : message_in 0 fourth ≡ fourth_says
says_fourth = reads.says_fourth

-- ---- J without 48
pub says_all_empty : message_in 0 all_empty_bytes ≡ all_says
says_all_empty = reads.says_all_empty

pub bad_with_22 : message_in 0 all_empty_22 ≡ refused BadFields
bad_with_22 = reads.bad_with_22

pub bad_with_207 : message_in 0 all_empty_207 ≡ refused BadFields
bad_with_207 = reads.bad_with_207

pub bad_bid_without_48 : message_in 0 bid_without_48 ≡ refused BadFields
bad_bid_without_48 = reads.bad_bid_without_48
