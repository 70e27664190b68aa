-- Parsing of weekday lists: systemd.time(7), Calendar Events. Their items are separated by commas.
use Rattle.std.specs.Prelude.{ℕ, ◌-◌, Bool, true, if◌then◌else◌, List, [], ◌∷◌, length, map, take, slice_index, Option, None, Some, is_some, Result, Ok, Err}
use Rattle.std.specs.List.{slice_split}
use Rattle.std.specs.Option.{ok_or}
use Rattle.cal_civil.specs.rules.Weekday.{week}
use Rattle.cal_bytes.specs.rules.Separators.{is_comma}
use Rattle.cal_bytes.specs.rules.AndThen.{◌>>=◌}
use Rattle.cal_spec.specs.declared.weekdays.WeekdayRange.{WeekdayRange}
use Rattle.cal_spec.specs.declared.spec_fault.SpecFault.{SpecFault}
use Rattle.cal_spec.specs.declared.spec_fault.SpecFault.TheVariants.{BadWeekday, UnknownShorthand}
use Rattle.cal_spec.specs.rules.Shorthand.{is_like_shorthand}
use Rattle.cal_spec.specs.rules.Weekdays.{set_of}
use Rattle.cal_spec.specs.rules.WeekdayNames.{day_named, leading_letters, days_of}

abbrev pub items_of : List (List ℕ) → Result (List WeekdayRange) SpecFault
items_of [] = Ok []
items_of (t ∷ ts) = ok_or (days_of t) BadWeekday >>= λ days. items_of ts >>= λ more. Ok (days ∷ more)

-- removes one trailing comma, if there is one
abbrev pub without_comma : List ℕ → List ℕ
without_comma word = if is_comma (slice_index word (length word - 1)) then take (length word - 1) word else word

-- parses a list of items that are separated by commas, with one trailing comma allowed
unfoldable pub listed_days : List ℕ → Result (List Bool) SpecFault
listed_days word = items_of (slice_split is_comma (without_comma word)) >>= λ items. Ok (set_of items)

-- parses a weekday list, or fails with its error
unfoldable pub weekdays_of : List ℕ → Result (List Bool) SpecFault
weekdays_of word =
    if is_some (day_named (leading_letters word)) then listed_days word
    else Err (if is_like_shorthand word then UnknownShorthand else BadWeekday)

-- the weekdays that match; without a weekday list all seven match
abbrev pub weekdays_in : Option (List ℕ) → Result (List Bool) SpecFault
weekdays_in None = Ok (map (λ day. true) week)
weekdays_in (Some word) = weekdays_of word
