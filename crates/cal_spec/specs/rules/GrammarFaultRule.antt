-- Which error an invalid calendar expression has, stated as a rule and not as a computation: systemd.time(7), Calendar
-- Events. The length is checked first, and then the words from left to right. The law
-- `expressions_are_those_of_the_rule` says that the parser follows this rule.
use Rattle.std.specs.Prelude.{ℕ, ◌+◌, ◌<◌, ◌≤◌, ◌≡◌, ◌⊎◌, Bool, true, List, [], length, Option, None, Some}
use Rattle.cal_bytes.specs.rules.Separators.{words}
use Rattle.cal_spec.specs.rules.ComponentFaultRule.{HasDateFault, HasTimeFault}
use Rattle.cal_spec.specs.rules.Fields.{Fields, counted_parts, max_counted_parts, parts_in}
use Rattle.cal_spec.specs.rules.GrammarRule.{AreWeekdays, HasRoles, HasWeekdays, IsDate, IsTime, IsZoneWord, given}
use Rattle.cal_spec.specs.rules.Shorthand.{is_like_shorthand}
use Rattle.cal_spec.specs.rules.UnparsedTexts.{WordRoles}
use Rattle.cal_spec.specs.rules.WeekdayNames.{day_named, leading_letters}
use Rattle.cal_spec.specs.rules.ZoneSuffix.{ZoneSuffix}
use Rattle.cal_spec.specs.declared.spec_fault.SpecFault.{SpecFault}
use Rattle.cal_spec.specs.declared.spec_fault.SpecFault.TheVariants.{BadWeekday, Empty, StrayWord, TextTooLong, UnknownShorthand}

-- the word consists of letters and hyphens, and its leading letters aren't the name of a weekday
abbrev pub IsUnknownShorthand : List ℕ → Type 0
IsUnknownShorthand word = (day_named (leading_letters word) ≡ None) × (is_like_shorthand word ≡ true)

-- the word is in the position of the weekdays, isn't a list of weekdays, and has this error
abbrev pub HasWeekdaysFault : Option (List ℕ) → SpecFault → Type 0
HasWeekdaysFault None fault = ⊥
HasWeekdaysFault (Some word) fault =
    ((days : List Bool) → AreWeekdays word days → ⊥)
    × ((IsUnknownShorthand word × (fault ≡ UnknownShorthand)) ⊎ ((IsUnknownShorthand word → ⊥) × (fault ≡ BadWeekday)))

-- the number of counted parts of the date; all parts of a date are counted
abbrev pub counted_in_date : Fields → ℕ
counted_in_date f = parts_in f.year + parts_in f.month + parts_in f.day

-- the weekdays and the date are valid, and the time has this error
pub record HasFaultAfterDate (p : WordRoles) (fault : SpecFault) : Type 0 where
  pub fields : Fields
  pub weekdays : HasWeekdays p.weekdays fields.weekdays
  pub date : IsDate p.date fields
  pub few : counted_in_date fields ≤ max_counted_parts
  pub at_fault : HasTimeFault (counted_in_date fields) p.time fault

-- the weekdays, the date and the time are valid, but the words after them are not: these are more than one word, or one
-- word that isn't a zone
pub record HasStrayWord (p : WordRoles) : Type 0 where
  pub fields : Fields
  pub weekdays : HasWeekdays p.weekdays fields.weekdays
  pub date : IsDate p.date fields
  pub time : IsTime p.time fields
  pub few : counted_parts fields ≤ max_counted_parts
  pub no_zone : (last : Option (List ℕ)) (zone : Option ZoneSuffix) → p.rest ≡ given last → IsZoneWord last zone → ⊥

-- one of the words has this error, and all words before it are valid
abbrev pub HasWordFault : WordRoles → SpecFault → Type 0
HasWordFault p fault =
    HasWeekdaysFault p.weekdays fault
    ⊎ ((((days : List Bool) × HasWeekdays p.weekdays days) × HasDateFault p.date fault)
    ⊎ (HasFaultAfterDate p fault ⊎ (HasStrayWord p × (fault ≡ StrayWord))))

-- `fault` is the error of the text: `TextTooLong`, or else `Empty` if the text has no words, or else the error of one
-- of its words
abbrev pub HasFault : List ℕ → SpecFault → Type 0
HasFault text fault =
    ((4096 < length text) × (fault ≡ TextTooLong))
    ⊎ ((length text ≤ 4096)
    × (((words text ≡ []) × (fault ≡ Empty)) ⊎ ((p : WordRoles) × HasRoles (words text) p × HasWordFault p fault)))
