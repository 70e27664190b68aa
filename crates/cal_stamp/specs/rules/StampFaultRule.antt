-- Which error a timestamp has, stated as a rule and not as a computation: systemd.time(7), Parsing Timestamps. The
-- words of a civil time are read from the left, and what a word can be depends on the words before it. The first word
-- that isn't valid in its position decides the error. If all words are valid, but neither a date nor a time is among
-- them, the error is `BadDate`. Otherwise the weekday is checked, and then the range. The law `first_error`, a
-- statement that is proved for all texts, says that the functions of `Stamp` follow this rule.
use Rattle.std.specs.Prelude.{ℕ, ◌≡◌, ◌⊎◌, ◌||◌, true, false, ℤ, List, ◌∷◌, ◌++◌, Option, None, Some, is_some, Err}
use Rattle.std.specs.List.{list_any}
use Rattle.std.specs.Option.{option_to_list}
use Rattle.jiff.specs.Types.{TimeZone, Weekday}
use Rattle.cal_span.specs.rules.SpanRule.{HasSpanValue}
use Rattle.cal_span.specs.declared.span.fault.SpanFault.{SpanFault}
use Rattle.cal_zone.specs.rules.Instant.{IsMoment}
use Rattle.cal_civil.specs.rules.OffsetWord.{IsOffsetWord}
use Rattle.cal_civil.specs.rules.ZoneName.{begins_with_letter}
use Rattle.cal_bytes.specs.rules.Separators.{is_colon}
use Rattle.cal_spec.specs.rules.WeekdayNames.{day_named}
use Rattle.cal_zone.specs.rules.Setting.{Setting}
use Rattle.cal_stamp.specs.rules.StampCivilRule.{CivilStamp, IsCivilTime, NamesWeekday, NamesZone, WritesDate, WritesTime}
use Rattle.cal_stamp.specs.rules.StampTime.{begins_with_digit, time_written}
use Rattle.cal_stamp.specs.rules.StampDate.{day_written}
use Rattle.cal_stamp.specs.rules.StampRule.{Form, nothing, present, later, earlier, counted, from_today, civil}
use Rattle.cal_stamp.specs.rules.StampMomentRule.{FallsOn, IsDay, MeansTime}
use Rattle.cal_stamp.specs.declared.fault.StampFault.{StampFault}
use Rattle.cal_stamp.specs.declared.fault.StampFault.TheVariants.{Empty, BadWeekday, BadDate, WrongWeekday, BadSpan, NoSuchZone, StrayWord, OutOfRange}

-- the first word begins with a letter and is not the name of a weekday, so the error is `BadWeekday`
abbrev pub IsNoWeekday : List ℕ → StampFault → Type 0
IsNoWeekday word fault = (begins_with_letter word ≡ true) × (day_named word ≡ None) × (fault ≡ BadWeekday)

-- the word has a colon and is not a time, or has no colon and is not a date; `fault` is the error of parsing it
abbrev pub IsNoDateOrTime : List ℕ → StampFault → Type 0
IsNoDateOrTime word fault =
    ((list_any is_colon word ≡ true) × (time_written word ≡ Err fault))
    ⊎ ((list_any is_colon word ≡ false) × (day_written word ≡ Err fault))

-- the word begins with a letter and is not the name of a zone (`NoSuchZone`), or begins with anything else and is not
-- an offset (`StrayWord`)
abbrev pub IsNoZone : (List ℕ → Option TimeZone) → List ℕ → StampFault → Type 0
IsNoZone find word fault =
    ((begins_with_letter word ≡ true) × (find word ≡ None) × (fault ≡ NoSuchZone))
    ⊎ ((begins_with_letter word ≡ false) × ((seconds : ℤ) → IsOffsetWord word seconds → ⊥) × (fault ≡ StrayWord))

-- the word after the date begins with a digit and is not a time, or begins with anything else and is not a zone;
-- `fault` is the error of parsing it
abbrev pub IsNoTimeOrZone : (List ℕ → Option TimeZone) → List ℕ → StampFault → Type 0
IsNoTimeOrZone find word fault =
    ((begins_with_digit word ≡ true) × (time_written word ≡ Err fault))
    ⊎ ((begins_with_digit word ≡ false) × IsNoZone find word fault)

-- `word` has the error `fault`. `weekday`, `date`, `time` and `zone` are the words before it, each `None` if it was
-- left out.
abbrev pub IsAtFault : Setting → Option (List ℕ) → Option (List ℕ) → Option (List ℕ) → Option (List ℕ) → List ℕ → StampFault → Type 0
IsAtFault at weekday date time (Some zone) word fault = fault ≡ StrayWord
IsAtFault at weekday date (Some time) None word fault = IsNoZone at.find word fault
IsAtFault at weekday (Some date) None None word fault = IsNoTimeOrZone at.find word fault
IsAtFault at (Some weekday) None None None word fault = IsNoDateOrTime word fault
IsAtFault at None None None None word fault =
    IsNoWeekday word fault ⊎ ((begins_with_letter word ≡ false) × IsNoDateOrTime word fault)

-- the words are a valid weekday, date, time and zone, in this order; each of the four can be left out (`None`), but a
-- zone is given only together with a date or a time
pub record AreRead (at : Setting) (words : List (List ℕ)) (weekday date time zone : Option (List ℕ)) : Type 0 where
  pub whole : words ≡ option_to_list weekday ++ (option_to_list date ++ (option_to_list time ++ option_to_list zone))
  pub has_weekday : (named : Option Weekday) × NamesWeekday weekday named
  pub has_date : (day : Option ℤ) × WritesDate date day
  pub has_time : (micros : ℕ) × WritesTime time micros
  pub has_zone : (meant : TimeZone) × NamesZone at zone meant
  pub zone_last : is_some zone ≡ true → (is_some date || is_some time) ≡ true

-- one of the words has this error, and all words before it are valid
pub record HasWordAtFault (at : Setting) (words : List (List ℕ)) (fault : StampFault) : Type 0 where
  pub front : List (List ℕ)
  pub word : List ℕ
  pub after : List (List ℕ)
  pub whole : words ≡ front ++ (word ∷ after)
  pub weekday : Option (List ℕ)
  pub date : Option (List ℕ)
  pub time : Option (List ℕ)
  pub zone : Option (List ℕ)
  pub are_read : AreRead at front weekday date time zone
  pub is_at_fault : IsAtFault at weekday date time zone word fault

-- the words end before a date or a time is given, and the error is `BadDate`
pub record EndsTooSoon (at : Setting) (words : List (List ℕ)) (fault : StampFault) : Type 0 where
  pub weekday : Option (List ℕ)
  pub are_read : AreRead at words weekday None None None
  pub is_bad_date : fault ≡ BadDate

-- `fault` is the error of the first word that isn't valid in its position, or `BadDate` if the words end too soon
abbrev pub HasFirstError : Setting → List (List ℕ) → StampFault → Type 0
HasFirstError at words fault = HasWordAtFault at words fault ⊎ EndsTooSoon at words fault

-- the words are a civil time, but its day isn't the weekday that is named
pub record HasWrongWeekday (now : ℤ) (at : Setting) (words : List (List ℕ)) : Type 0 where
  pub stamp : CivilStamp
  pub day : ℤ
  pub is_civil : IsCivilTime at words stamp
  pub has_day : IsDay now stamp.zone stamp.day day
  pub falls_elsewhere : FallsOn stamp.weekday day → ⊥

-- ## Errors of all forms

-- the word has this error: it is in the position of the zone and is not a zone, or it comes after the zone
abbrev pub IsNoLastWord : Setting → Option (List ℕ) → List ℕ → StampFault → Type 0
IsNoLastWord at None word fault = IsNoZone at.find word fault
IsNoLastWord at (Some zone) word fault = fault ≡ StrayWord

-- the words after `today`, `yesterday` or `tomorrow` have this error: only a zone may follow
pub record HasZoneError (at : Setting) (words : List (List ℕ)) (fault : StampFault) : Type 0 where
  pub name : Option (List ℕ)
  pub word : List ℕ
  pub after : List (List ℕ)
  pub zone : TimeZone
  pub whole : words ≡ option_to_list name ++ (word ∷ after)
  pub has_zone : NamesZone at name zone
  pub is_at_fault : IsNoLastWord at name word fault

-- the text is not a valid time span, and the error is `BadSpan` with the reason
abbrev pub IsBadSpan : List ℕ → StampFault → Type 0
IsBadSpan span fault = (why : SpanFault) × HasSpanValue span (Err why) × (fault ≡ BadSpan why)

-- the form stands for a time before the first moment or after the last, and the error is `OutOfRange`
abbrev pub IsOutside : ℤ → Setting → Form → StampFault → Type 0
IsOutside now at form fault = ((time : ℤ) × MeansTime now at form time × (IsMoment time → ⊥)) × (fault ≡ OutOfRange)

-- the form has this error, which is not `OutOfRange`: the timestamp is empty, a word or a time span is invalid, the
-- words end before a date or a time is given, or the day isn't the weekday that is named
abbrev pub IsWrong : ℤ → Setting → Form → StampFault → Type 0
IsWrong now at nothing fault = fault ≡ Empty
IsWrong now at present fault = ⊥
IsWrong now at (later span) fault = IsBadSpan span fault
IsWrong now at (earlier span) fault = IsBadSpan span fault
IsWrong now at (counted span) fault = IsBadSpan span fault
IsWrong now at (from_today shift words) fault = HasZoneError at words fault
IsWrong now at (civil words) fault = HasFirstError at words fault ⊎ (HasWrongWeekday now at words × (fault ≡ WrongWeekday))

-- the form has this error; the range is checked last, since only a form without another error stands for a time
abbrev pub HasError : ℤ → Setting → Form → StampFault → Type 0
HasError now at form fault = IsWrong now at form fault ⊎ IsOutside now at form fault
