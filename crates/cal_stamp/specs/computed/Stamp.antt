-- How the moment of a timestamp is computed: systemd.time(7), Parsing Timestamps. A timestamp is parsed in the first
-- form that matches it.
use Rattle.std.specs.Prelude.{ℕ, ◌/◌, ◌%◌, ◌==◌, Bool, true, not, ◌&&◌, if◌then◌else◌, ℤ, pos, int_lt, ◌+ℤ◌, ◌-ℤ◌, ◌*ℤ◌, List, [], ◌∷◌, Option, None, Some, Result, Ok, Err}
use Rattle.std.specs.List.{list_any}
use Rattle.std.specs.Option.{unwrap_or}
use Rattle.jiff.specs.Types.{TimeZone, Weekday}
use Rattle.jiff_core.specs.Calendar.{weekday_number}
use Rattle.jiff_core.specs.Weekday.{monday_zero}
use Rattle.cal_span.specs.declared.span.fault.SpanFault.{SpanFault}
use Rattle.cal_zone.specs.rules.Instant.{last_moment, micros_of, micros_per_second}
use Rattle.cal_civil.specs.rules.LocalSecond.{day_of, seconds_per_day}
use Rattle.cal_civil.specs.computed.ReadOffset.{offset_in}
use Rattle.cal_zone.specs.rules.Place.{settle_of}
use Rattle.cal_span.specs.computed.SpanValue.{span_of}
use Rattle.cal_zone.specs.rules.Zone.{local_shown_at}
use Rattle.cal_zone.specs.rules.Setting.{Setting}
use Rattle.cal_zone.specs.rules.FixedOffsetZone.{fixed_offset_zone}
use Rattle.cal_civil.specs.rules.ZoneName.{begins_with_letter}
use Rattle.cal_bytes.specs.rules.Separators.{is_colon}
use Rattle.cal_spec.specs.rules.WeekdayNames.{day_named}
use Rattle.cal_stamp.specs.rules.StampRule.{Form, nothing, present, later, earlier, counted, from_today, civil}
use Rattle.cal_stamp.specs.computed.StampForm.{form_of}
use Rattle.cal_stamp.specs.rules.StampDate.{day_written}
use Rattle.cal_stamp.specs.rules.StampTime.{time_written, begins_with_digit}
use Rattle.cal_stamp.specs.declared.fault.StampFault.{StampFault}
use Rattle.cal_stamp.specs.declared.fault.StampFault.TheVariants.{Empty, BadWeekday, BadDate, WrongWeekday, BadSpan, NoSuchZone, StrayWord, OutOfRange}
use Rattle.cal_bytes.specs.rules.AndThen.{◌>>=◌}
use Rattle.cal_stamp.specs.rules.StampCivilRule.{CivilStamp}

-- ## Time spans

-- the moment at `micros` microseconds of Unix time, or `OutOfRange` if this is before the first moment or after the
-- last
unfoldable pub in_moments : ℤ → Result ℤ StampFault
in_moments micros =
    if not (int_lt micros (pos 0)) && not (int_lt last_moment micros) then Ok micros else Err OutOfRange

-- the moment at a Unix second plus a time span, or the error, given the result of parsing the span
abbrev pub after_second : ℤ → Result ℕ SpanFault → Result ℤ StampFault
after_second second (Ok span) = in_moments (micros_of second +ℤ pos span)
after_second second (Err fault) = Err (BadSpan fault)

-- the moment at a Unix second minus a time span, or the error, given the result of parsing the span
abbrev pub before_second : ℤ → Result ℕ SpanFault → Result ℤ StampFault
before_second second (Ok span) = in_moments (micros_of second -ℤ pos span)
before_second second (Err fault) = Err (BadSpan fault)

-- ## Days

-- the number of the day that the zone's clock shows at present, counted from 1970-01-01
unfoldable pub today : ℤ → TimeZone → ℤ
today now zone = day_of (local_shown_at zone now)

-- The moment to which a time of day on this day is settled, or `OutOfRange`. `micros` is the time of day, in
-- microseconds since midnight on the zone's clock. A local time in a gap is moved forward by the length of the gap, and
-- for a local time in a fold the first occurrence is used.
unfoldable pub settle_on : TimeZone → ℤ → ℕ → Result ℤ StampFault
settle_on zone day micros =
    in_moments (micros_of (settle_of zone (day *ℤ pos seconds_per_day +ℤ pos (micros / micros_per_second))) +ℤ pos (micros % micros_per_second))

-- ## Civil times, word by word

-- the zone that was found for a name, or the error if no zone has the name
abbrev pub name_found : Option TimeZone → Result TimeZone StampFault
name_found None = Err NoSuchZone
name_found (Some zone) = Ok zone

-- the zone of an offset, or the error if the word is not an offset
abbrev pub offset_found : Option ℤ → Result TimeZone StampFault
offset_found None = Err StrayWord
offset_found (Some seconds) = Ok (fixed_offset_zone seconds)

-- the zone of a word: if the word begins with a letter it must be the name of a zone, otherwise it must be an offset,
-- `+hh:mm` or `-hh:mm`
abbrev pub zone_of_word : (List ℕ → Option TimeZone) → List ℕ → Result TimeZone StampFault
zone_of_word find w = if begins_with_letter w then name_found (find w) else offset_found (offset_in w)

-- `zone` is the zone that the previous word stands for; it is returned if no other word follows, and otherwise the
-- error is `StrayWord`
abbrev pub zone_alone : TimeZone → List (List ℕ) → Result TimeZone StampFault
zone_alone zone [] = Ok zone
zone_alone zone (w ∷ ws) = Err StrayWord

-- the zone that the remaining words stand for, or the error: if there are no words, the zone is the local zone; a
-- single word is parsed as a zone; and more than one word is an error
abbrev pub zone_by_words : Setting → List (List ℕ) → Result TimeZone StampFault
zone_by_words at [] = Ok at.local
zone_by_words at (w ∷ ws) = zone_of_word at.find w >>= λ zone. zone_alone zone ws

-- the civil time with this weekday, day number and time of day, in the zone that the remaining words stand for
abbrev pub civil_stamp_in : Setting → Option Weekday → Option ℤ → ℕ → List (List ℕ) → Result CivilStamp StampFault
civil_stamp_in at weekday day micros ws =
    zone_by_words at ws >>= λ zone. Ok (record { weekday = weekday; day = day; micros = micros; zone = zone })

-- the civil time, given its weekday, its day and the words after its date: if the first of these words begins with a
-- digit, it is the time, otherwise the time is midnight
abbrev pub after_date : Setting → Option Weekday → ℤ → List (List ℕ) → Result CivilStamp StampFault
after_date at weekday day [] = civil_stamp_in at weekday (Some day) 0 []
after_date at weekday day (w ∷ ws) =
    if begins_with_digit w then (time_written w >>= λ micros. civil_stamp_in at weekday (Some day) micros ws)
    else civil_stamp_in at weekday (Some day) 0 (w ∷ ws)

-- the civil time, given its weekday and the words after it: if the first of these words has a colon, it is the time,
-- otherwise it is the date
abbrev pub after_weekday : Setting → Option Weekday → List (List ℕ) → Result CivilStamp StampFault
after_weekday at weekday [] = Err BadDate
after_weekday at weekday (w ∷ ws) =
    if list_any is_colon w then (time_written w >>= λ micros. civil_stamp_in at weekday None micros ws)
    else (day_written w >>= λ day. after_date at weekday day ws)

abbrev pub weekday_found : Setting → Option Weekday → List (List ℕ) → Result CivilStamp StampFault
weekday_found at None ws = Err BadWeekday
weekday_found at (Some weekday) ws = after_weekday at (Some weekday) ws

-- the civil time that the words stand for: if the first word begins with a letter, it is the weekday
abbrev pub civil_time : Setting → List (List ℕ) → Result CivilStamp StampFault
civil_time at [] = Err BadDate
civil_time at (w ∷ ws) =
    if begins_with_letter w then weekday_found at (day_named w) ws else after_weekday at None (w ∷ ws)

-- whether the day is this weekday; true if no weekday is named
abbrev pub fits_weekday : Option Weekday → ℤ → Bool
fits_weekday None day = true
fits_weekday (Some weekday) day = weekday_number day == monday_zero weekday

-- the moment of a civil time, or the error; a civil time without a date is on the present day in its zone
unfoldable pub moment_of_civil_stamp : ℤ → CivilStamp → Result ℤ StampFault
moment_of_civil_stamp now c =
    let day = unwrap_or c.day (today now c.zone) in
    if fits_weekday c.weekday day then settle_on c.zone day c.micros else Err WrongWeekday

-- ## Timestamps of all forms

-- the moment of a timestamp of this form, or its error
abbrev pub moment_of_form : ℤ → Setting → Form → Result ℤ StampFault
moment_of_form now at nothing = Err Empty
moment_of_form now at present = in_moments (micros_of now)
moment_of_form now at (later span) = after_second now (span_of span)
moment_of_form now at (earlier span) = before_second now (span_of span)
moment_of_form now at (counted span) = after_second (pos 0) (span_of span)
moment_of_form now at (from_today shift ws) = zone_by_words at ws >>= λ zone. settle_on zone (today now zone +ℤ shift) 0
moment_of_form now at (civil ws) = civil_time at ws >>= λ stamp. moment_of_civil_stamp now stamp

-- the moment of a timestamp in microseconds, or its error, given the present second and the zones
unfoldable pub moment_in : ℤ → Setting → List ℕ → Result ℤ StampFault
moment_in now at text = moment_of_form now at (form_of text)
