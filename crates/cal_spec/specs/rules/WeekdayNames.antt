-- The weekdays that words name, in timestamps and in the items of a weekday list: systemd.time(7), Calendar Events and
-- Parsing Timestamps.
use Rattle.std.specs.Prelude.{ℕ, ◌==◌, Bool, not, ◌&&◌, ◌||◌, if◌then◌else◌, List, [], ◌∷◌, take, drop, Option, None, Some}
use Rattle.std.specs.List.{find, position_or_len}
use Rattle.std.specs.Option.{option_map}
use Rattle.std.specs.Char.{is_ascii_alphabetic}
use Rattle.std.specs.Str.{str_eq_ignore_ascii_case}
use Rattle.jiff_core.specs.declared.civil.weekday.Weekday.{Weekday}
use Rattle.cal_civil.specs.rules.Weekday.{week, name_of, short_name_of}
use Rattle.cal_spec.specs.declared.weekdays.WeekdayRange.{WeekdayRange}

-- the weekday with this name, in full or shortened to three letters, ignoring case
unfoldable pub day_named : List ℕ → Option Weekday
day_named word =
    find (λ day. str_eq_ignore_ascii_case word (name_of day) || str_eq_ignore_ascii_case word (short_name_of day)) week

abbrev pub is_no_letter : ℕ → Bool
is_no_letter b = not (is_ascii_alphabetic b)

-- the ASCII letters that a word begins with, up to its first other byte
abbrev pub leading_letters : List ℕ → List ℕ
leading_letters word = take (position_or_len is_no_letter word) word

-- the bytes of a word from the first byte on that isn't an ASCII letter
abbrev pub after_letters : List ℕ → List ℕ
after_letters word = drop (position_or_len is_no_letter word) word

-- the text after a leading `-` or `..`, or None if the text begins with neither
abbrev pub after_joint : List ℕ → Option (List ℕ)
after_joint [] = None
after_joint (b ∷ []) = if b == 45 then Some [] else None
after_joint (b ∷ c ∷ bs) =
    if b == 45 then Some (c ∷ bs) else (if (b == 46) && (c == 46) then Some bs else None)

-- the days from `first` to the weekday that is named by the text after `-` or `..`; None if neither `-` nor `..`
-- follows `first`, or if that text names no weekday
abbrev pub days_to : Weekday → Option (List ℕ) → Option WeekdayRange
days_to first None = None
days_to first (Some name) = option_map (λ last. record { first = first; last = last }) (day_named name)

abbrev pub days_from : Weekday → List ℕ → Option WeekdayRange
days_from first [] = Some (record { first = first; last = first })
days_from first (b ∷ bs) = days_to first (after_joint (b ∷ bs))

abbrev pub days_by : Option Weekday → List ℕ → Option WeekdayRange
days_by None after = None
days_by (Some first) after = days_from first after

-- the days that an item names: one weekday, or the days between two weekdays that are joined by `..` or `-`; None for
-- any other item
unfoldable pub days_of : List ℕ → Option WeekdayRange
days_of item = days_by (day_named (leading_letters item)) (after_letters item)
