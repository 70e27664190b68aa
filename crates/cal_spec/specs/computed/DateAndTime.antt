-- Parsing of the date and the time of a calendar expression: systemd.time(7), Calendar Events.
use Rattle.std.specs.Prelude.{ℕ, ◌-◌, Bool, if◌then◌else◌, List, [], ◌∷◌, filter, codes, Option, None, Some, Result, Ok, Err}
use Rattle.std.specs.List.{slice_split}
use Rattle.cal_spec.specs.computed.Components.{counted, component_of}
use Rattle.cal_bytes.specs.rules.AndThen.{◌>>=◌}
use Rattle.cal_spec.specs.rules.Slot.{day_slot}
use Rattle.cal_spec.specs.declared.field.Part.{Part}
use Rattle.cal_spec.specs.declared.slot.Slot.TheVariants.{Year, Month, Hour, Minute, Second}
use Rattle.cal_spec.specs.declared.spec_fault.SpecFault.{SpecFault}
use Rattle.cal_spec.specs.declared.spec_fault.SpecFault.TheVariants.{BadDate, BadTime}
use Rattle.cal_bytes.specs.rules.Separators.{is_colon}
use Rattle.cal_spec.specs.rules.UnparsedTexts.{DateTexts, TimeTexts, is_date_sign, is_tilde}
use Rattle.cal_spec.specs.rules.Fields.{max_counted_parts}

-- the parsed components of a date, and whether the day is counted from the month's end
pub record DateFields : Type 0 where
  pub year : Option (List Part)
  pub month : Option (List Part)
  pub day : Option (List Part)
  pub from_end : Bool

-- the parsed components of a time
pub record TimeFields : Type 0 where
  pub hour : Option (List Part)
  pub minute : Option (List Part)
  pub second : Option (List Part)

-- the texts of a date's components, given its signs and the texts that these signs separate; a missing year becomes
-- `*`, and only the last sign may be `~`
abbrev pub date_texts_by : List ℕ → List (List ℕ) → Option DateTexts
date_texts_by (s ∷ []) (month ∷ day ∷ []) =
    Some (record { year = codes "*"; month = month; day = day; from_end = is_tilde s })
date_texts_by (s ∷ t ∷ []) (year ∷ month ∷ day ∷ []) =
    if is_tilde s then None else Some (record { year = year; month = month; day = day; from_end = is_tilde t })
date_texts_by ss texts = None

-- the texts of a time's components, given the texts that its colons separate; missing seconds become `00`
abbrev pub time_texts_by : List (List ℕ) → Option TimeTexts
time_texts_by (hour ∷ minute ∷ []) = Some (record { hour = hour; minute = minute; second = codes "00" })
time_texts_by (hour ∷ minute ∷ second ∷ []) = Some (record { hour = hour; minute = minute; second = second })
time_texts_by texts = None

unfoldable pub date_texts : List ℕ → Option DateTexts
date_texts word = date_texts_by (filter is_date_sign word) (slice_split is_date_sign word)

unfoldable pub time_texts : List ℕ → Option TimeTexts
time_texts word = time_texts_by (slice_split is_colon word)

-- parses the components of a date from left to right
unfoldable pub date_fields : DateTexts → Result DateFields SpecFault
date_fields t =
    component_of Year max_counted_parts t.year
    >>= λ year. component_of Month (max_counted_parts - counted Year year) t.month
    >>= λ month. component_of (day_slot t.from_end) (max_counted_parts - counted Year year - counted Month month) t.day
    >>= λ day. Ok (record { year = year; month = month; day = day; from_end = t.from_end })

-- the number of counted parts that may follow the date in an expression
abbrev pub room_after : DateFields → ℕ
room_after d =
    max_counted_parts - counted Year d.year - counted Month d.month - counted (day_slot d.from_end) d.day

-- parses the components of a time from left to right, with at most `room` counted parts
unfoldable pub time_fields : ℕ → TimeTexts → Result TimeFields SpecFault
time_fields room t =
    component_of Hour room t.hour
    >>= λ hour. component_of Minute (room - counted Hour hour) t.minute
    >>= λ minute. component_of Second (room - counted Hour hour - counted Minute minute) t.second
    >>= λ second. Ok (record { hour = hour; minute = minute; second = second })

abbrev pub date_due : Option DateTexts → Result DateFields SpecFault
date_due None = Err BadDate
date_due (Some t) = date_fields t

abbrev pub time_due : ℕ → Option TimeTexts → Result TimeFields SpecFault
time_due room None = Err BadTime
time_due room (Some t) = time_fields room t

-- parses a date, or fails with its first error
unfoldable pub date_in_word : List ℕ → Result DateFields SpecFault
date_in_word word = date_due (date_texts word)

-- parses a time with at most `room` counted parts, or fails with its first error
unfoldable pub time_in_word : ℕ → List ℕ → Result TimeFields SpecFault
time_in_word room word = time_due room (time_texts word)
