-- Examples that check the definitions of timestamps. The present is Fri 2012-11-23 10:15:22 UTC.
use Rattle.std.proofs.Common.{◌≡◌, ℕ, ℤ, pos, neg_ℤ, codes, refl, arith, Ok, Err, List, [], ◌∷◌, Some, None, if◌then◌else◌}
use Rattle.std.specs.Prelude.{Result, map, ◌≤◌, ◌+◌}
use Rattle.jiff.proofs.SpanFacts.{signed_arith}
use Rattle.jiff.specs.Types.{TimeZone, UTC}
use Rattle.jiff.specs.Words.{offset_at, ambiguous_at}
use Rattle.jiff_core.proofs.CalendarLemmas.{days_from_civil-day_count}
use Rattle.jiff_core.proofs.MarchLemmas.{day_count-late}
use Rattle.jiff_core.specs.Calendar.{days_from_civil, weekday_number}
use Rattle.cal_span.specs.declared.span.fault.SpanFault.TheVariants.{BadNumber, UnknownUnit, Empty as NoPair}
use Rattle.cal_civil.specs.computed.ReadOffset.{hour_minute_in, offset_in, two_digits}
use Rattle.cal_zone.specs.rules.Place.{datetime_of, settle_of}
use Rattle.cal_span.specs.rules.UnitSpellings.{spellings_of}
use Rattle.cal_span.specs.computed.SpanValue.{span_of, pairs_in, words_in}
use Rattle.cal_span.specs.rules.PairValue.{worth_of, is_number, number_worth, unit_named}
use Rattle.cal_civil.specs.rules.Weekday.{name_of}
use Rattle.cal_zone.specs.rules.Zone.{local_shown_at}
use Rattle.cal_zone.specs.rules.FixedOffsetZone.{offset_of_seconds, fixed_offset_zone}
use Rattle.cal_civil.specs.rules.ZoneName.{is_utc_name}
use Rattle.cal_spec.specs.rules.WeekdayNames.{day_named}
use Rattle.cal_bytes.specs.rules.Trim.{trim_matches, trim_end_matches, trim_start_matches}
use Rattle.cal_bytes.specs.rules.Separators.{words}
use Rattle.cal_zone.specs.rules.Setting.{Setting}
use Rattle.cal_stamp.specs.computed.Stamp.{moment_in, in_moments, today, settle_on, moment_of_civil_stamp, zone_by_words}
use Rattle.cal_stamp.specs.rules.StampDate.{digits_number, date_numbers, day_of_date, day_written}
use Rattle.cal_stamp.specs.computed.StampForm.{form_of, form_by_end, day_shift}
use Rattle.cal_stamp.specs.rules.StampTime.{clock_number, fraction_in, second_written, time_numbers, time_written}
use Rattle.cal_stamp.specs.declared.fault.StampFault.{StampFault}
use Rattle.cal_stamp.specs.declared.fault.StampFault.TheVariants.{Empty, BadWeekday, BadDate, BadTime, NoSuchDate, WrongWeekday, BadSpan, NoSuchZone, StrayWord, OutOfRange}
use Rattle.cal_zone.proofs.YearLemmas.{days_from_civil-1970}

-- the zones of the examples: the local zone is UTC, and UTC is the only zone with a name
abbrev in_utc : Setting
in_utc = record { local = UTC; find = λ name. if is_utc_name name then Some UTC else None }

-- a timestamp, and its moment or its error
abbrev Row : Type 0
Row = List ℕ × Result ℤ StampFault

abbrev rows : List Row
rows =
    (codes "@1395716396", Ok (pos 1_395_716_396_000_000))
    ∷ (codes "@7258211998.999999", Ok (pos 7_258_211_998_999_999))
    ∷ (codes "@7258211999", Err OutOfRange)
    ∷ (codes "1:2:3.4567891", Ok (pos 1_353_632_523_456_789))
    ∷ (codes " 1:2\tutc ", Ok (pos 1_353_632_520_000_000))
    ∷ (codes "Fri 1:2", Ok (pos 1_353_632_520_000_000))
    ∷ (codes "Mon 1:2", Err WrongWeekday)
    ∷ (codes "today", Ok (pos 1_353_628_800_000_000))
    ∷ (codes "tomorrow UTC", Ok (pos 1_353_715_200_000_000))
    ∷ (codes "now", Ok (pos 1_353_665_722_000_000))
    ∷ (codes "5min ago", Ok (pos 1_353_665_422_000_000))
    ∷ (codes "-2000000000", Err OutOfRange)
    ∷ (codes "", Err Empty)
    ∷ (codes "foo 2012-11-23", Err BadWeekday)
    ∷ (codes "12", Err BadDate)
    ∷ (codes "25:00", Err BadTime)
    ∷ (codes "2013-02-29", Err NoSuchDate)
    ∷ (codes "+5x", Err (BadSpan UnknownUnit))
    ∷ (codes "+", Err (BadSpan NoPair))
    ∷ (codes "today Mars/One", Err NoSuchZone)
    ∷ (codes "11:12 UTC x", Err StrayWord)
    ∷ (codes "now UTC", Err BadWeekday)
    ∷ (codes "tomorrow 12:00", Err StrayWord)
    ∷ (codes "Thu", Err BadDate)
    ∷ (codes "Mon, 2012-11-26", Err BadWeekday)
    ∷ (codes "2012-11-23 11:12 +08:00", Ok (pos 1_353_640_320_000_000))
    ∷ (codes "today +08:00", Ok (pos 1_353_600_000_000_000))
    ∷ (codes "2012-11-23 +08:00", Ok (pos 1_353_600_000_000_000))
    ∷ (codes "2012-11-22 23:00:01.5 -01:00", Ok (pos 1_353_628_801_500_000))
    ∷ (codes "Fri +02:00", Err BadTime)
    ∷ (codes "2012-11-23 +8", Err StrayWord)
    ∷ (codes "+02:00", Err (BadSpan BadNumber))
    ∷ (codes "2012-11-23 +02:00 UTC", Err StrayWord)
    ∷ (codes "2012-11-23 +02:00 12:00", Err StrayWord)
    ∷ (codes "today +26:00", Err StrayWord)
    ∷ (codes "Thu 1970-01-01 01:00:00 +01:00", Ok (pos 0))
    ∷ (codes "Thu 1970-01-01 00:53:28 +00:53:28", Err StrayWord)
    ∷ (codes "Wed 1969-12-31 23:00:00 -01:00", Err NoSuchDate)
    ∷ []

-- day `day` of November 2012 has the day number 15,644 + `day`; this is proved here so that evaluating an example
-- needn't count through the years since 1970
in_november : (day : ℕ) → 1 ≤ day → days_from_civil (pos 2_012) 11 day ≡ pos (15_644 + day)
in_november day first =
    omega (arith, signed_arith, days_from_civil-day_count (pos 2_012) 11 day, day_count-late (pos 2_012) 12_012 11 day refl (omega arith) (omega arith) first)

rows_meant : map (λ (row : Row). moment_in (pos 1_353_665_722) in_utc row.0) rows ≡ map (λ (row : Row). row.1) rows
unfolding moment_in form_of trim_matches trim_end_matches trim_start_matches form_by_end day_shift words in_moments today settle_on moment_of_civil_stamp day_written date_numbers digits_number day_of_date time_written time_numbers clock_number second_written fraction_in day_named name_of span_of pairs_in words_in worth_of is_number number_worth unit_named spellings_of local_shown_at offset_at settle_of ambiguous_at datetime_of weekday_number is_utc_name offset_in hour_minute_in two_digits fixed_offset_zone offset_of_seconds
rows_meant = rw (in_november 23 (omega arith), in_november 22 (omega arith), days_from_civil-1970) refl

-- the words for a zone, and the zone that they stand for or their error
abbrev ZoneRow : Type 0
ZoneRow = List (List ℕ) × Result TimeZone StampFault

abbrev zone_rows : List ZoneRow
zone_rows =
    ([], Ok UTC)
    ∷ (codes "+08:00" ∷ [], Ok (fixed_offset_zone (pos 28_800)))
    ∷ (codes "-25:59" ∷ [], Ok (fixed_offset_zone (neg_ℤ (pos 93_540))))
    ∷ (codes "-00:00" ∷ [], Ok (fixed_offset_zone (pos 0)))
    ∷ (codes "utc" ∷ [], Ok UTC)
    ∷ (codes "Mars/One" ∷ [], Err NoSuchZone)
    ∷ (codes "+8" ∷ [], Err StrayWord)
    ∷ (codes "+26:00" ∷ [], Err StrayWord)
    ∷ (codes "+02:60" ∷ [], Err StrayWord)
    ∷ (codes "+00:53:28" ∷ [], Err StrayWord)
    ∷ (codes "12:00" ∷ [], Err StrayWord)
    ∷ (codes "+02:00" ∷ codes "UTC" ∷ [], Err StrayWord)
    ∷ (codes "UTC" ∷ codes "+02:00" ∷ [], Err StrayWord)
    ∷ (codes "+02:00" ∷ codes "12:00" ∷ [], Err StrayWord)
    -- in the next row, the first word is not a zone and the second is one word too many; the error of the first is
    -- reported
    ∷ (codes "Mars/One" ∷ codes "+02:00" ∷ [], Err NoSuchZone)
    ∷ []

zone_rows_meant : map (λ (row : ZoneRow). zone_by_words in_utc row.0) zone_rows ≡ map (λ (row : ZoneRow). row.1) zone_rows
unfolding offset_in hour_minute_in two_digits is_utc_name
zone_rows_meant = refl
