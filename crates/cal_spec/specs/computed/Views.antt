-- How contracts see what the parser works with, as values without addresses in memory: symbols, shorthands, words,
-- dates, times and zones before they are parsed, and the fields of an expression (systemd.time(7), Calendar Events).
use Rattle.std.specs.Option.{option_copied, option_map}
use Rattle.cal_spec.specs.rules.Shorthand.{ShorthandExpansion}
use Rattle.cal_spec.specs.declared.shorthand.ShorthandExpansion as declared_expansion
use Rattle.std.specs.Prelude.{string_bytes}
use Rattle.cal_spec.specs.rules.ZoneSuffix.{ZoneSuffix, of_name, at_offset}
use Rattle.cal_spec.specs.declared.zone_suffix.ZoneSuffix as declared_suffix
use Rattle.cal_spec.specs.declared.zone_suffix.ZoneSuffix.TheVariants.{Name, Offset}
use Rattle.cal_spec.specs.computed.Parts.{Symbol, digits, dots, slash, point, other}
use Rattle.cal_spec.specs.declared.numbers.Symbol as declared_symbol
use Rattle.cal_spec.specs.declared.numbers.Symbol.TheVariants.{Digits, Dots, Slash, Point, Other}
use Rattle.cal_bytes.specs.rules.Separators.{words}
use Rattle.cal_spec.specs.rules.UnparsedTexts.{WordRoles, DateTexts, TimeTexts}
use Rattle.cal_spec.specs.declared.words.WordRoles as declared_roles
use Rattle.cal_spec.specs.computed.DateAndTime.{DateFields, TimeFields}
use Rattle.cal_spec.specs.declared.date_and_time.DateTexts as declared_date_texts
use Rattle.cal_spec.specs.declared.date_and_time.TimeTexts as declared_time_texts
use Rattle.cal_spec.specs.declared.fields.DateFields as declared_date
use Rattle.cal_spec.specs.declared.fields.TimeFields as declared_time
use Rattle.cal_spec.specs.declared.fields.Fields as declared_fields
use Rattle.cal_spec.specs.rules.Fields.{Fields}

abbrev pub shown_expansion : declared_expansion.ShorthandExpansion → ShorthandExpansion
shown_expansion m = record { weekdays = option_copied m.weekdays; date = m.date.now; time = m.time.now }

abbrev pub shown_suffix : declared_suffix.ZoneSuffix → ZoneSuffix
shown_suffix (Name name) = of_name (string_bytes name)
shown_suffix (Offset seconds) = at_offset seconds

abbrev pub symbol_of : declared_symbol.Symbol → Symbol
symbol_of (Digits bytes) = digits bytes.now
symbol_of Dots = dots
symbol_of Slash = slash
symbol_of Point = point
symbol_of (Other b) = other b

abbrev pub shown_word_roles : declared_roles.WordRoles → WordRoles
shown_word_roles p =
    record { weekdays = option_copied p.weekdays; date = p.date.now; time = p.time.now; rest = words p.rest.now }

abbrev pub date_fields_in : declared_date.DateFields → DateFields
date_fields_in date = record {
  year = option_map (λ parts. parts.items) date.year;
  month = option_map (λ parts. parts.items) date.month;
  day = option_map (λ parts. parts.items) date.day;
  from_end = date.from_end;
}

abbrev pub time_fields_in : declared_time.TimeFields → TimeFields
time_fields_in time = record {
  hour = option_map (λ parts. parts.items) time.hour;
  minute = option_map (λ parts. parts.items) time.minute;
  second = option_map (λ parts. parts.items) time.second;
}

abbrev pub date_texts_in : declared_date_texts.DateTexts → DateTexts
date_texts_in texts =
    record { year = texts.year.now; month = texts.month.now; day = texts.day.now; from_end = texts.from_end }

abbrev pub time_texts_in : declared_time_texts.TimeTexts → TimeTexts
time_texts_in texts = record { hour = texts.hour.now; minute = texts.minute.now; second = texts.second.now }

-- the fields as values, without their addresses in memory
unfoldable pub fields_of : declared_fields.Fields → Fields
fields_of fields = record {
  weekdays = fields.weekdays;
  year = option_map (λ parts. parts.items) fields.date.year;
  month = option_map (λ parts. parts.items) fields.date.month;
  day = option_map (λ parts. parts.items) fields.date.day;
  hour = option_map (λ parts. parts.items) fields.time.hour;
  minute = option_map (λ parts. parts.items) fields.time.minute;
  second = option_map (λ parts. parts.items) fields.time.second;
  from_end = fields.date.from_end;
  zone = option_map shown_suffix fields.zone;
}
