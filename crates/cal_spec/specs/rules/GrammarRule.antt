-- The grammar of calendar expressions: systemd.time(7), Calendar Events. It says which texts are valid and which fields
-- they have, independently of the parser.
use Rattle.std.specs.Prelude.{ℕ, ℤ, ◌<◌, ◌≤◌, ◌≡◌, ◌⊎◌, Bool, true, false, List, [], ◌∷◌, ◌++◌, length, map, drop, codes, Option, None, Some, IfSome}
use Rattle.std.specs.List.{AllByRecursion, AllZip, list_all, list_any, join_with_byte}
use Rattle.std.specs.Option.{option_to_list, unwrap_or}
use Rattle.std.specs.Char.{is_ascii_digit, to_ascii_lowercase}
use Rattle.std.specs.Str.Parse.{digits_value}
use Rattle.jiff_core.specs.declared.civil.weekday.Weekday.{Weekday}
use Rattle.cal_civil.specs.rules.Weekday.{week, name_of, short_name_of}
use Rattle.cal_bytes.specs.rules.Separators.{is_colon, words}
use Rattle.cal_spec.specs.rules.UnparsedTexts.{DateTexts, TimeTexts, WordRoles}
use Rattle.cal_spec.specs.rules.Fields.{Fields, counted_parts, max_counted_parts}
use Rattle.cal_spec.specs.rules.FullYears.{with_full_years}
use Rattle.cal_spec.specs.rules.Shorthand.{any_date, midnight, shorthand_named, expansion_of}
use Rattle.cal_spec.specs.rules.Slot.{day_slot, max_number}
use Rattle.cal_spec.specs.rules.ValidParts.{IsValidPart}
use Rattle.cal_spec.specs.rules.Weekdays.{set_of}
use Rattle.cal_civil.specs.rules.OffsetWord.{IsOffsetWord, begins_with_sign, begins_zone}
use Rattle.cal_civil.specs.rules.ZoneName.{begins_with_letter, is_zone_name}
use Rattle.cal_spec.specs.rules.ZoneSuffix.{ZoneSuffix, of_name, at_offset, kept_name}
use Rattle.cal_spec.specs.declared.field.Part.{Part}
use Rattle.cal_spec.specs.declared.shorthand.Shorthand.{Shorthand}
use Rattle.cal_spec.specs.declared.slot.Slot.{Slot}
use Rattle.cal_spec.specs.declared.slot.Slot.TheVariants.{Year, Month, Hour, Minute, Second}
use Rattle.cal_spec.specs.declared.weekdays.WeekdayRange.{WeekdayRange}

-- the text is one or more digits with the value `n`, which is at most `max_number`
pub record IsNumber (text : List ℕ) (n : ℕ) : Type 0 where
  pub some : 0 < length text
  pub digits : list_all is_ascii_digit text ≡ true
  pub value : digits_value 10 text ≡ n
  pub small : n ≤ max_number

-- the text is `mark` followed by the number, or empty if there is no number
abbrev pub IsNext : List ℕ → List ℕ → Option ℕ → Type 0
IsNext mark text None = text ≡ []
IsNext mark text (Some n) = (number : List ℕ) × (text ≡ mark ++ number) × IsNumber number n

-- the text spells the part `p`: `a`, `a/r`, `a..b` or `a..b/r`
pub record IsPartText (text : List ℕ) (p : Part) : Type 0 where
  pub front : List ℕ
  pub middle : List ℕ
  pub back : List ℕ
  pub whole : text ≡ front ++ (middle ++ back)
  pub start : IsNumber front p.start
  pub end : IsNext (codes "..") middle p.end
  pub step : IsNext (codes "/") back p.step

-- the text spells a part that becomes `p` when two-digit years are expanded
abbrev pub IsPartOf : Slot → List ℕ → Part → Type 0
IsPartOf slot text p = (raw : Part) × IsPartText text raw × (p ≡ with_full_years slot raw)

-- one or more parts joined by commas, all with valid values
pub record AreListed (slot : Slot) (text : List ℕ) (ps : List Part) : Type 0 where
  pub texts : List (List ℕ)
  pub some : 0 < length texts
  pub whole : text ≡ join_with_byte 44 texts
  pub parts : AllZip (IsPartOf slot) texts ps
  pub sound : AllByRecursion (IsValidPart slot) ps

-- the text of a component: `*`, or parts joined by commas
abbrev pub IsComponent : Slot → List ℕ → Option (List Part) → Type 0
IsComponent slot text None = text ≡ codes "*"
IsComponent slot text (Some ps) = AreListed slot text ps

-- the sign before the day: `~` if the day is counted from the month's end, otherwise `-`
abbrev pub last_sign : Bool → List ℕ
last_sign true = codes "~"
last_sign false = codes "-"

-- the text of a date: `year-month-day` or `month-day`; `~` may stand in place of the last `-`
abbrev pub IsDateShape : List ℕ → DateTexts → Type 0
IsDateShape word t =
    (word ≡ t.year ++ (codes "-" ++ (t.month ++ (last_sign t.from_end ++ t.day)))) ⊎ ((t.year ≡ codes "*") × (word ≡ t.month ++ (last_sign t.from_end ++ t.day)))

-- the text of a time: `hour:minute:second` or `hour:minute`
abbrev pub IsTimeShape : List ℕ → TimeTexts → Type 0
IsTimeShape word t =
    (word ≡ t.hour ++ (codes ":" ++ (t.minute ++ (codes ":" ++ t.second)))) ⊎ ((t.second ≡ codes "00") × (word ≡ t.hour ++ (codes ":" ++ t.minute)))

pub record IsDate (word : List ℕ) (f : Fields) : Type 0 where
  pub texts : DateTexts
  pub shape : IsDateShape word texts
  pub from_end : texts.from_end ≡ f.from_end
  pub year : IsComponent Year texts.year f.year
  pub month : IsComponent Month texts.month f.month
  pub day : IsComponent (day_slot f.from_end) texts.day f.day

pub record IsTime (word : List ℕ) (f : Fields) : Type 0 where
  pub texts : TimeTexts
  pub shape : IsTimeShape word texts
  pub hour : IsComponent Hour texts.hour f.hour
  pub minute : IsComponent Minute texts.minute f.minute
  pub second : IsComponent Second texts.second f.second

-- the name of a weekday, in full or shortened to three letters, ignoring case
abbrev pub IsName : List ℕ → Weekday → Type 0
IsName text day =
    (map to_ascii_lowercase text ≡ map to_ascii_lowercase (name_of day)) ⊎ (map to_ascii_lowercase text ≡ map to_ascii_lowercase (short_name_of day))

-- the names of two weekdays, joined by `..` or `-`
pub record IsNameRange (text : List ℕ) (days : WeekdayRange) : Type 0 where
  pub first : List ℕ
  pub joint : List ℕ
  pub last : List ℕ
  pub whole : text ≡ first ++ (joint ++ last)
  pub first_name : IsName first days.first
  pub joint_is : (joint ≡ codes "..") ⊎ (joint ≡ codes "-")
  pub last_name : IsName last days.last

-- an item of a weekday list: the name of a weekday, or two names joined by `..` or `-`
abbrev pub IsItem : List ℕ → WeekdayRange → Type 0
IsItem text days = (IsName text days.first × (days.last ≡ days.first)) ⊎ IsNameRange text days

-- a weekday list: items joined by commas, with one trailing comma allowed
pub record AreWeekdays (word : List ℕ) (days : List Bool) : Type 0 where
  pub texts : List (List ℕ)
  pub items : List WeekdayRange
  pub some : 0 < length texts
  pub whole : (word ≡ join_with_byte 44 texts) ⊎ (word ≡ join_with_byte 44 texts ++ codes ",")
  pub each : AllZip IsItem texts items
  pub is : days ≡ set_of items

-- the weekdays that match; without a weekday list all seven match
abbrev pub HasWeekdays : Option (List ℕ) → List Bool → Type 0
HasWeekdays None days = days ≡ map (λ day. true) week
HasWeekdays (Some word) days = AreWeekdays word days

-- the list that consists of the word, or an empty list if there is no word
abbrev pub given : Option (List ℕ) → List (List ℕ)
given word = option_to_list word

abbrev pub IsSignless : List ℕ → Type 0
IsSignless word = begins_with_sign word ≡ false

-- a word that doesn't begin with a letter is the time if it has a colon or follows a date
abbrev pub IsTimeAfter : Option (List ℕ) → List ℕ → Type 0
IsTimeAfter None word = (begins_with_letter word ≡ false) × (list_any is_colon word ≡ true)
IsTimeAfter (Some date) word = begins_with_letter word ≡ false

-- if there is no time, the next word, if any, begins like a zone: with a letter, `+` or `-`
abbrev pub IsPastTime : Option (List ℕ) → List (List ℕ) → Type 0
IsPastTime None (word ∷ rest) = begins_zone word ≡ true
IsPastTime time rest = Unit {0}

-- `[weekdays] [date] [time]`, at least one of them, and the words after them. The weekdays begin with a letter and
-- aren't a shorthand; the date and the time don't begin with a letter. The date contains no colon. The date or the time
-- may begin with `+` or `-` only if it is the first word.
pub record ArePlain (ws : List (List ℕ)) (p : WordRoles) : Type 0 where
  pub date : Option (List ℕ)
  pub time : Option (List ℕ)
  pub whole : ws ≡ given p.weekdays ++ (given date ++ (given time ++ p.rest))
  pub some : 0 < length (given p.weekdays ++ (given date ++ given time))
  pub weekdays_kind : IfSome p.weekdays (λ w. (begins_with_letter w ≡ true) × (shorthand_named w ≡ None))
  pub date_kind : IfSome date (λ w. (begins_with_letter w ≡ false) × (list_any is_colon w ≡ false))
  pub time_kind : IfSome time (IsTimeAfter date)
  pub signless : AllByRecursion IsSignless (drop 1 (given p.weekdays ++ (given date ++ given time)))
  pub past_time : IsPastTime time p.rest
  pub date_is : p.date ≡ unwrap_or date any_date
  pub time_is : p.time ≡ unwrap_or time midnight

-- a shorthand, which is replaced by what it stands for, and the words after it
pub record AreShort (ws : List (List ℕ)) (p : WordRoles) : Type 0 where
  pub word : List ℕ
  pub shorthand : Shorthand
  pub whole : ws ≡ word ∷ p.rest
  pub named : shorthand_named word ≡ Some shorthand
  pub weekdays_is : p.weekdays ≡ (expansion_of shorthand).weekdays
  pub date_is : p.date ≡ (expansion_of shorthand).date
  pub time_is : p.time ≡ (expansion_of shorthand).time

-- the words of an expression have these roles; a word needn't be valid in its role
abbrev pub HasRoles : List (List ℕ) → WordRoles → Type 0
HasRoles ws p = ArePlain ws p ⊎ AreShort ws p

-- the word is the name of the zone or its UTC offset; if there is no word, there is no zone
abbrev pub IsZoneWord : Option (List ℕ) → Option ZoneSuffix → Type 0
IsZoneWord None suffix = suffix ≡ None
IsZoneWord (Some word) suffix =
    ((is_zone_name word ≡ true) × (suffix ≡ Some (of_name (kept_name word)))) ⊎ ((seconds : ℤ) × IsOffsetWord word seconds × (suffix ≡ Some (at_offset seconds)))

-- the text is an expression with these fields: `[weekdays] [date] [time] [zone]` or `shorthand [zone]`
pub record IsExpression (text : List ℕ) (f : Fields) : Type 0 where
  pub roles : WordRoles
  pub last : Option (List ℕ)
  pub roles_are : HasRoles (words text) roles
  pub rest_is : roles.rest ≡ given last
  pub weekdays : HasWeekdays roles.weekdays f.weekdays
  pub date : IsDate roles.date f
  pub time : IsTime roles.time f
  pub zone : IsZoneWord last f.zone

-- the text is an expression of at most 4,096 bytes, with at most `max_counted_parts` parts that count towards the limit
pub record IsValid (text : List ℕ) (f : Fields) : Type 0 where
  pub short : length text ≤ 4096
  pub expression : IsExpression text f
  pub few : counted_parts f ≤ max_counted_parts
