-- Parsing of calendar expressions: systemd.time(7), Calendar Events. The words are parsed from left to right.
use Rattle.std.specs.Prelude.{ℕ, nat_lt, if◌then◌else◌, List, length, Option, None, Some, Result, Ok, Err}
use Rattle.cal_spec.specs.computed.DateAndTime.{date_in_word, time_in_word, room_after}
use Rattle.cal_spec.specs.rules.Fields.{Fields}
use Rattle.cal_bytes.specs.rules.AndThen.{◌>>=◌}
use Rattle.cal_spec.specs.computed.WeekdayLists.{weekdays_in}
use Rattle.cal_spec.specs.computed.Words.{roles_of}
use Rattle.cal_bytes.specs.rules.Separators.{words}
use Rattle.cal_spec.specs.rules.UnparsedTexts.{WordRoles}
use Rattle.cal_spec.specs.computed.ParsedSuffix.{suffix_in}
use Rattle.cal_spec.specs.declared.spec_fault.SpecFault.{SpecFault}
use Rattle.cal_spec.specs.declared.spec_fault.SpecFault.TheVariants.{Empty, TextTooLong}

-- the maximum length of an expression in bytes
abbrev pub max_text_bytes : ℕ
max_text_bytes = 4096

-- parses the weekdays, date, time and zone, in this order
unfoldable pub fields_at : WordRoles → Result Fields SpecFault
fields_at p =
    weekdays_in p.weekdays
    >>= λ weekdays. date_in_word p.date
    >>= λ date. time_in_word (room_after date) p.time
    >>= λ time. suffix_in p.rest
    >>= λ suffix. Ok (record {
      weekdays = weekdays;
      year = date.year;
      month = date.month;
      day = date.day;
      hour = time.hour;
      minute = time.minute;
      second = time.second;
      from_end = date.from_end;
      zone = suffix;
    })

-- parses the fields, or fails with `Empty` if there are no words
abbrev pub fields_due : Option WordRoles → Result Fields SpecFault
fields_due None = Err Empty
fields_due (Some p) = fields_at p

-- parses the fields of an expression, or fails with the text's first error
unfoldable pub fields_in : List ℕ → Result Fields SpecFault
fields_in text = if nat_lt max_text_bytes (length text) then Err TextTooLong else fields_due (roles_of (words text))
