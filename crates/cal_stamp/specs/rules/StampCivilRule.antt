-- What a civil time is, stated as a rule and not as a computation: systemd.time(7), Parsing Timestamps. The law
-- `one_civil_time`, a statement that is proved for all words, says that the functions of `Stamp` follow this rule. The
-- rule shares with them the functions for single words, such as `day_written`.
use Rattle.std.specs.Prelude.{ℕ, ◌≡◌, ◌⊎◌, ◌||◌, true, ℤ, List, [], ◌∷◌, ◌++◌, Option, None, Some, is_some, Ok, Err}
use Rattle.std.specs.Option.{option_to_list}
use Rattle.jiff.specs.Types.{TimeZone, Weekday}
use Rattle.cal_civil.specs.rules.OffsetWord.{IsOffsetWord}
use Rattle.cal_zone.specs.rules.FixedOffsetZone.{fixed_offset_zone}
use Rattle.cal_civil.specs.rules.ZoneName.{begins_with_letter}
use Rattle.cal_spec.specs.rules.WeekdayNames.{day_named}
use Rattle.cal_zone.specs.rules.Setting.{Setting}
use Rattle.cal_stamp.specs.rules.StampDate.{day_written}
use Rattle.cal_stamp.specs.rules.StampTime.{time_written}
use Rattle.cal_stamp.specs.declared.fault.StampFault.TheVariants.{NoSuchDate}

-- a parsed civil time: its weekday and its day number if they are written, its microseconds after midnight, and its
-- zone
pub record CivilStamp : Type 0 where
  pub weekday : Option Weekday
  pub day : Option ℤ
  pub micros : ℕ
  pub zone : TimeZone

-- the word is the name of the weekday, or there is neither a word nor a weekday
abbrev pub NamesWeekday : Option (List ℕ) → Option Weekday → Type 0
NamesWeekday None weekday = weekday ≡ None
NamesWeekday (Some word) weekday =
    (named : Weekday) × (begins_with_letter word ≡ true) × (day_named word ≡ Some named) × (weekday ≡ Some named)

-- the word is a date with this day number, or there is neither a word nor a date
abbrev pub WritesDate : Option (List ℕ) → Option ℤ → Type 0
WritesDate None day = day ≡ None
WritesDate (Some word) day = (number : ℤ) × (day_written word ≡ Ok number) × (day ≡ Some number)

-- the word is a time of day that is `micros` microseconds after midnight, or there is no word and the time is midnight
abbrev pub WritesTime : Option (List ℕ) → ℕ → Type 0
WritesTime None micros = micros ≡ 0
WritesTime (Some word) micros = time_written word ≡ Ok micros

-- the word is a name by which `find` finds the zone, or the UTC offset of the zone
abbrev pub MeansZone : (List ℕ → Option TimeZone) → List ℕ → TimeZone → Type 0
MeansZone find word zone =
    ((begins_with_letter word ≡ true) × (find word ≡ Some zone))
    ⊎ ((seconds : ℤ) × IsOffsetWord word seconds × (zone ≡ fixed_offset_zone seconds))

-- the word stands for the zone, or there is no word and the zone is the local zone
abbrev pub NamesZone : Setting → Option (List ℕ) → TimeZone → Type 0
NamesZone at None zone = zone ≡ at.local
NamesZone at (Some word) zone = MeansZone at.find word zone

-- the words are `[weekday] [date] [time] [zone]`, with at least a date or a time, and `c` is the civil time that they
-- stand for
pub record IsCivilTime (at : Setting) (words : List (List ℕ)) (c : CivilStamp) : Type 0 where
  pub weekday : Option (List ℕ)
  pub date : Option (List ℕ)
  pub time : Option (List ℕ)
  pub zone : Option (List ℕ)
  pub whole : words ≡ option_to_list weekday ++ (option_to_list date ++ (option_to_list time ++ option_to_list zone))
  pub some : (is_some date || is_some time) ≡ true
  pub has_weekday : NamesWeekday weekday c.weekday
  pub has_date : WritesDate date c.day
  pub has_time : WritesTime time c.micros
  pub has_zone : NamesZone at zone c.zone

-- one of the words has the form of a date, but is not a day from 1970-01-01 to 2199-12-31
abbrev pub HasNoSuchDate : List (List ℕ) → Type 0
HasNoSuchDate [] = ⊥
HasNoSuchDate (w ∷ ws) = (day_written w ≡ Err NoSuchDate) ⊎ HasNoSuchDate ws
