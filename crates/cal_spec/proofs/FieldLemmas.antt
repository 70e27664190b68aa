-- What each step of a successful parse has returned. From this it follows that the parsed fields are valid.
use Rattle.std.proofs.Common.{ℕ, ℤ, ◌-◌, ◌+◌, ◌≤◌, ◌≡◌, Bool, true, false, cond, List, [], ◌∷◌, length, map, Option, Some, None, Ok, Err, Result, refl, arith, ltb, codes, subst}
use Rattle.std.specs.Prelude.{IfOk, is_some}
use Rattle.std.specs.List.{list_any, slice_split}
use Rattle.std.specs.Option.{ok_or, option_map}
use Rattle.std.proofs.lemmas.Bool.{or_left, le-leb, ltb-false}
use Rattle.std.proofs.lemmas.List.Folds.{list_any_at}
use Rattle.jiff_core.specs.declared.civil.weekday.Weekday.{Weekday}
use Rattle.jiff_core.specs.declared.civil.weekday.Weekday.TheVariants.{Monday, Tuesday, Wednesday, Thursday, Friday, Saturday, Sunday}
use Rattle.jiff_core.specs.Weekday.{monday_zero}
use Rattle.cal_civil.specs.rules.Weekday.{week}
use Rattle.cal_bytes.specs.rules.Separators.{is_comma, words}
use Rattle.cal_spec.specs.computed.Components.{counted, component_of}
use Rattle.cal_spec.specs.computed.DateAndTime.{DateFields, TimeFields, date_texts, time_texts, date_fields, time_fields, date_due, time_due, room_after, date_in_word, time_in_word}
use Rattle.cal_spec.specs.rules.UnparsedTexts.{DateTexts, TimeTexts, WordRoles}
use Rattle.cal_spec.specs.computed.Views.{fields_of}
use Rattle.cal_spec.specs.rules.Fields.{Fields, parts_in, counted_parts, max_counted_parts}
use Rattle.cal_spec.specs.computed.Parts.{is_time}
use Rattle.cal_spec.specs.computed.Grammar.{max_text_bytes, fields_at, fields_due, fields_in}
use Rattle.cal_bytes.specs.rules.AndThen.{◌>>=◌}
use Rattle.cal_spec.specs.computed.Reads.{GivesUnlessNoMemory}
use Rattle.cal_spec.specs.declared.fields.Fields as declared_fields
use Rattle.cal_spec.specs.rules.Slot.{day_slot}
use Rattle.cal_spec.specs.rules.ValidFields.{IsValidFields}
use Rattle.cal_spec.specs.rules.WeekdayNames.{day_named, leading_letters, days_of}
use Rattle.cal_spec.specs.computed.WeekdayLists.{items_of, without_comma, listed_days, weekdays_of, weekdays_in}
use Rattle.cal_spec.specs.rules.Shorthand.{is_like_shorthand}
use Rattle.cal_spec.specs.rules.Weekdays.{days_until, is_in_weekday_range, set_of}
use Rattle.cal_spec.specs.computed.Words.{roles_of}
use Rattle.cal_civil.specs.rules.ZoneName.{is_utc_name, is_zone_name}
use Rattle.cal_civil.specs.computed.ReadOffset.{offset_in}
use Rattle.cal_civil.proofs.OffsetWordLemmas.{offset-minutes}
use Rattle.cal_spec.specs.rules.ZoneSuffix.{IsSuffixOption, ZoneSuffix, at_offset, kept_name, of_name}
use Rattle.cal_spec.specs.computed.ParsedSuffix.{suffix_due, suffix_in, suffix_of}
use Rattle.cal_spec.specs.declared.field.Part.{Part}
use Rattle.cal_spec.specs.declared.slot.Slot.{Slot}
use Rattle.cal_spec.specs.declared.slot.Slot.TheVariants.{Year, Month, Hour, Minute, Second}
use Rattle.cal_spec.specs.declared.spec_fault.SpecFault.{SpecFault}
use Rattle.cal_spec.specs.declared.spec_fault.SpecFault.TheVariants.{TextTooLong, BadWeekday, UnknownShorthand}
use Rattle.cal_spec.specs.declared.weekdays.WeekdayRange.{WeekdayRange}
use Rattle.cal_spec.proofs.ComponentLemmas.{IsRead, component_read}
use Rattle.cal_bytes.proofs.General.{some_piece}
use Rattle.cal_spec.proofs.ReadLemmas.{bind_ok, cond_ok, three_ok, four_ok}

-- ## If parsing a date or a time succeeds, so does parsing each of its components

pub record DateRead (t : DateTexts) (d : DateFields) : Type 0 where
  pub year : component_of Year max_counted_parts t.year ≡ Ok d.year
  pub month : component_of Month (max_counted_parts - counted Year d.year) t.month ≡ Ok d.month
  pub day : component_of (day_slot t.from_end) (max_counted_parts - counted Year d.year - counted Month d.month) t.day ≡ Ok d.day
  pub from_end : t.from_end ≡ d.from_end

date_made : (t : DateTexts) (year month day : Option (List Part)) (d : DateFields) → record { year = year; month = month; day = day; from_end = t.from_end } ≡ d → component_of Year max_counted_parts t.year ≡ Ok year → component_of Month (max_counted_parts - counted Year year) t.month ≡ Ok month → component_of (day_slot t.from_end) (max_counted_parts - counted Year year - counted Month month) t.day ≡ Ok day → DateRead t d
date_made t year month day d is one two three =
    rw (← is) (record { year = one; month = two; day = three; from_end = refl })

pub date_fields_ok : (t : DateTexts) (d : DateFields) → date_fields t ≡ Ok d → DateRead t d
unfolding date_fields
date_fields_ok t d at =
    let read = three_ok (component_of Year max_counted_parts t.year) (λ year. component_of Month (max_counted_parts - counted Year year) t.month) (λ year month. component_of (day_slot t.from_end) (max_counted_parts - counted Year year - counted Month month) t.day) (λ year month day. record { year = year; month = month; day = day; from_end = t.from_end }) d at in
    date_made t read.a read.b read.c d read.is read.first read.second read.third

pub record TimeRead (room : ℕ) (t : TimeTexts) (h : TimeFields) : Type 0 where
  pub hour : component_of Hour room t.hour ≡ Ok h.hour
  pub minute : component_of Minute (room - counted Hour h.hour) t.minute ≡ Ok h.minute
  pub second : component_of Second (room - counted Hour h.hour - counted Minute h.minute) t.second ≡ Ok h.second

time_made : (room : ℕ) (t : TimeTexts) (hour minute second : Option (List Part)) (h : TimeFields) → record { hour = hour; minute = minute; second = second } ≡ h → component_of Hour room t.hour ≡ Ok hour → component_of Minute (room - counted Hour hour) t.minute ≡ Ok minute → component_of Second (room - counted Hour hour - counted Minute minute) t.second ≡ Ok second → TimeRead room t h
time_made room t hour minute second h is one two three =
    rw (← is) (record { hour = one; minute = two; second = three })

pub time_fields_ok : (room : ℕ) (t : TimeTexts) (h : TimeFields) → time_fields room t ≡ Ok h → TimeRead room t h
unfolding time_fields
time_fields_ok room t h at =
    let read = three_ok (component_of Hour room t.hour) (λ hour. component_of Minute (room - counted Hour hour) t.minute) (λ hour minute. component_of Second (room - counted Hour hour - counted Minute minute) t.second) (λ hour minute second. record { hour = hour; minute = minute; second = second }) h at in
    time_made room t read.a read.b read.c h read.is read.first read.second read.third

pub record DateFound (word : List ℕ) (d : DateFields) : Type 0 where
  pub texts : DateTexts
  pub shape : date_texts word ≡ Some texts
  pub read : DateRead texts d

date_found_by : (word : List ℕ) (o : Option DateTexts) (d : DateFields) → date_texts word ≡ o → date_due o ≡ Ok d → DateFound word d
date_found_by word None d is at = cc
date_found_by word (Some t) d is at = record { texts = t; shape = is; read = date_fields_ok t d at }

pub date_found : (word : List ℕ) (d : DateFields) → date_in_word word ≡ Ok d → DateFound word d
unfolding date_in_word
date_found word d at = date_found_by word (date_texts word) d refl at

pub record TimeFound (room : ℕ) (word : List ℕ) (h : TimeFields) : Type 0 where
  pub texts : TimeTexts
  pub shape : time_texts word ≡ Some texts
  pub read : TimeRead room texts h

time_found_by : (room : ℕ) (word : List ℕ) (o : Option TimeTexts) (h : TimeFields) → time_texts word ≡ o → time_due room o ≡ Ok h → TimeFound room word h
time_found_by room word None h is at = cc
time_found_by room word (Some t) h is at = record { texts = t; shape = is; read = time_fields_ok room t h at }

pub time_found : (room : ℕ) (word : List ℕ) (h : TimeFields) → time_in_word room word ≡ Ok h → TimeFound room word h
unfolding time_in_word
time_found room word h at = time_found_by room word (time_texts word) h refl at

-- ## If parsing a weekday list succeeds, so does parsing each of its items, and at least one weekday matches

pub record ItemsRead (t : List ℕ) (ts : List (List ℕ)) (items : List WeekdayRange) : Type 0 where
  pub first : WeekdayRange
  pub rest : List WeekdayRange
  pub is : items ≡ first ∷ rest
  pub first_is : days_of t ≡ Some first
  pub rest_is : items_of ts ≡ Ok rest

due_ok : (o : Option WeekdayRange) (days : WeekdayRange) → ok_or o BadWeekday ≡ Ok days → o ≡ Some days
due_ok None days at = cc
due_ok (Some d) days at = cc

pub items_of-cons : (t : List ℕ) (ts : List (List ℕ)) (items : List WeekdayRange) → items_of (t ∷ ts) ≡ Ok items → ItemsRead t ts items
items_of-cons t ts items at =
    let one = bind_ok (ok_or (days_of t) BadWeekday) (λ days. items_of ts >>= λ more. Ok (days ∷ more)) items at in
    let two = bind_ok (items_of ts) (λ more. Ok (one.value ∷ more)) items one.next in
    record { first = one.value; rest = two.value; is = cc; first_is = due_ok (days_of t) one.value one.first; rest_is = two.first }

-- if `f` is `true` for some weekday, at least one of the seven values in `map f week` is `true`
among_week : (f : Weekday → Bool) (day : Weekday) → f day ≡ true → list_any (λ d. d) (map f week) ≡ true
among_week f Monday h = list_any_at (λ d. d) (map f week) 0 false (omega arith) h
among_week f Tuesday h = list_any_at (λ d. d) (map f week) 1 false (omega arith) h
among_week f Wednesday h = list_any_at (λ d. d) (map f week) 2 false (omega arith) h
among_week f Thursday h = list_any_at (λ d. d) (map f week) 3 false (omega arith) h
among_week f Friday h = list_any_at (λ d. d) (map f week) 4 false (omega arith) h
among_week f Saturday h = list_any_at (λ d. d) (map f week) 5 false (omega arith) h
among_week f Sunday h = list_any_at (λ d. d) (map f week) 6 false (omega arith) h

none_until : (day : Weekday) → days_until day day ≡ 0
none_until day = let week : monday_zero day + 7 - monday_zero day ≡ 7 = omega arith in rw week refl

covers_first : (days : WeekdayRange) → is_in_weekday_range days.first days ≡ true
covers_first days = rw (none_until days.first) (le-leb 0 (days_until days.first days.last) (omega arith))

set_some : (first : WeekdayRange) (rest : List WeekdayRange) → list_any (λ d. d) (set_of (first ∷ rest)) ≡ true
set_some first rest =
    among_week (λ day. list_any (is_in_weekday_range day) (first ∷ rest)) first.first (or_left _ _ (covers_first first))

pub record WeekdaysFound (word : List ℕ) (days : List Bool) : Type 0 where
  pub items : List WeekdayRange
  pub named : is_some (day_named (leading_letters word)) ≡ true
  pub read : items_of (slice_split is_comma (without_comma word)) ≡ Ok items
  pub is : set_of items ≡ days

listed_found : (word : List ℕ) (days : List Bool) → is_some (day_named (leading_letters word)) ≡ true → listed_days word ≡ Ok days → WeekdaysFound word days
unfolding listed_days
listed_found word days named at =
    let one = bind_ok (items_of (slice_split is_comma (without_comma word))) (λ items. Ok (set_of items)) days at in
    let is : set_of one.value ≡ days = let e = one.next in cc in
    record { items = one.value; named = named; read = one.first; is = is }

weekdays_by : (word : List ℕ) (named : Bool) (days : List Bool) → is_some (day_named (leading_letters word)) ≡ named → cond named (listed_days word) (Err (cond (is_like_shorthand word) UnknownShorthand BadWeekday)) ≡ Ok days → WeekdaysFound word days
weekdays_by word true days is at = listed_found word days is at
weekdays_by word false days is at = cc

pub weekdays_found : (word : List ℕ) (days : List Bool) → weekdays_of word ≡ Ok days → WeekdaysFound word days
unfolding weekdays_of
weekdays_found word days at = weekdays_by word (is_some (day_named (leading_letters word))) days refl at

pub record IsWeek (days : List Bool) : Type 0 where
  pub seven : length days ≡ 7
  pub chosen : list_any (λ d. d) days ≡ true

week_of_items : (list : List ℕ) (items : List WeekdayRange) → items_of (slice_split is_comma list) ≡ Ok items → IsWeek (set_of items)
week_of_items list items at =
    let some = some_piece is_comma list in
    let read = items_of-cons some.0 some.1 items (rw some.2 at at) in
    record { seven = refl; chosen = rw read.is (set_some read.first read.rest) }

pub is_week : (word : Option (List ℕ)) (days : List Bool) → weekdays_in word ≡ Ok days → IsWeek days
is_week None days at = let is : map (λ day. true) week ≡ days = cc in rw (← is) (record { seven = refl; chosen = refl })
is_week (Some word) days at =
    let found = weekdays_found word days at in
    rw found.is at (week_of_items (without_comma word) found.items found.read)

-- ## A zone that parsing returns is valid

name_kept : (word : List ℕ) (utc : Bool) → is_zone_name word ≡ true → is_zone_name (cond utc (codes "UTC") word) ≡ true
unfolding is_zone_name
name_kept word true test = refl
name_kept word false test = test

name_twice : (word : List ℕ) (utc : Bool) → is_utc_name word ≡ utc → kept_name (cond utc (codes "UTC") word) ≡ cond utc (codes "UTC") word
unfolding is_utc_name
name_twice word true is = refl
name_twice word false is = rw is refl

suffix_by : (word : List ℕ) (o : Option ℤ) (suffix : Option ZoneSuffix) → offset_in word ≡ o → suffix_due (option_map at_offset o) ≡ Ok suffix → IsSuffixOption suffix
suffix_by word None suffix is at = cc
suffix_by word (Some seconds) suffix is at =
    let same : Some (at_offset seconds) ≡ suffix = cc in
    subst (λ (s : Option ZoneSuffix). IsSuffixOption s) same (offset-minutes word seconds is)

zone_by : (word : List ℕ) (test : Bool) (suffix : Option ZoneSuffix) → is_zone_name word ≡ test → suffix_due (cond test (Some (of_name (kept_name word))) (option_map at_offset (offset_in word))) ≡ Ok suffix → IsSuffixOption suffix
zone_by word true suffix is at =
    let same : Some (of_name (kept_name word)) ≡ suffix = cc in
    let utc = is_utc_name word in
    subst (λ (s : Option ZoneSuffix). IsSuffixOption s) same (name_kept word utc is, name_twice word utc refl)
zone_by word false suffix is at = suffix_by word (offset_in word) suffix refl at

pub is_zone : (ws : List (List ℕ)) (suffix : Option ZoneSuffix) → suffix_in ws ≡ Ok suffix → IsSuffixOption suffix
unfolding suffix_of
is_zone [] None at = tt
is_zone [] (Some suffix) at = cc
is_zone (w ∷ []) suffix at = zone_by w (is_zone_name w) suffix refl at
is_zone (w ∷ v ∷ ws) suffix at = cc

-- ## If parsing a text succeeds, so does parsing its weekdays, its date, its time and its zone

abbrev pub fields_with : List Bool → DateFields → TimeFields → Option ZoneSuffix → Fields
fields_with weekdays date time name = record {
  weekdays = weekdays;
  year = date.year;
  month = date.month;
  day = date.day;
  hour = time.hour;
  minute = time.minute;
  second = time.second;
  from_end = date.from_end;
  zone = name;
}

pub record FieldsFound (p : WordRoles) (f : Fields) : Type 0 where
  pub weekdays : List Bool
  pub date : DateFields
  pub time : TimeFields
  pub name : Option ZoneSuffix
  pub weekdays_is : weekdays_in p.weekdays ≡ Ok weekdays
  pub date_is : date_in_word p.date ≡ Ok date
  pub time_is : time_in_word (room_after date) p.time ≡ Ok time
  pub name_is : suffix_in p.rest ≡ Ok name
  pub is : fields_with weekdays date time name ≡ f

pub fields_found : (p : WordRoles) (f : Fields) → fields_at p ≡ Ok f → FieldsFound p f
unfolding fields_at
fields_found p f at =
    let read = four_ok (weekdays_in p.weekdays) (date_in_word p.date) (λ date. time_in_word (room_after date) p.time) (suffix_in p.rest) fields_with f at in
    record {
      weekdays = read.a;
      date = read.b;
      time = read.c;
      name = read.d;
      weekdays_is = read.first;
      date_is = read.second;
      time_is = read.third;
      name_is = read.fourth;
      is = read.is;
    }

pub record TextFound (text : List ℕ) (f : Fields) : Type 0 where
  pub short : length text ≤ max_text_bytes
  pub roles : WordRoles
  pub roles_are : roles_of (words text) ≡ Some roles
  pub fields : FieldsFound roles f

text_found_by : (text : List ℕ) (o : Option WordRoles) (f : Fields) → length text ≤ max_text_bytes → roles_of (words text) ≡ o → fields_due o ≡ Ok f → TextFound text f
text_found_by text None f short is at = cc
text_found_by text (Some p) f short is at =
    record { short = short; roles = p; roles_are = is; fields = fields_found p f at }

pub text_found : (text : List ℕ) (f : Fields) → fields_in text ≡ Ok f → TextFound text f
unfolding fields_in
text_found text f at =
    let read = cond_ok (ltb max_text_bytes (length text)) TextTooLong (fields_due (roles_of (words text))) f at in
    text_found_by text (roles_of (words text)) f (ltb-false max_text_bytes (length text) read.0) refl read.1

-- ## All parts of a date are counted, and all but the first part of each component of a time

pub counted_date : (slot : Slot) (c : Option (List Part)) → is_time slot ≡ false → counted slot c ≡ parts_in c
counted_date slot None test = refl
counted_date slot (Some ps) test = rw test refl

pub counted_time : (slot : Slot) (c : Option (List Part)) → is_time slot ≡ true → counted slot c ≡ parts_in c - 1
counted_time slot None test = refl
counted_time slot (Some ps) test = rw test refl

pub day_no_time : (from_end : Bool) → is_time (day_slot from_end) ≡ false
day_no_time true = refl
day_no_time false = refl

-- ## Dates, times and fields that parsing returns are valid

pub record IsDateRead (d : DateFields) : Type 0 where
  pub year : IsRead Year max_counted_parts d.year
  pub month : IsRead Month (max_counted_parts - counted Year d.year) d.month
  pub day : IsRead (day_slot d.from_end) (max_counted_parts - counted Year d.year - counted Month d.month) d.day

date_read : (t : DateTexts) (d : DateFields) → DateRead t d → IsDateRead d
date_read t d read = record {
  year = component_read Year max_counted_parts t.year d.year read.year;
  month = component_read Month (max_counted_parts - counted Year d.year) t.month d.month read.month;
  day = component_read (day_slot d.from_end) (max_counted_parts - counted Year d.year - counted Month d.month) t.day d.day (rw read.from_end at read.day);
}

pub is_date_read : (word : List ℕ) (d : DateFields) → date_in_word word ≡ Ok d → IsDateRead d
is_date_read word d at = let found = date_found word d at in date_read found.texts d found.read

pub record IsTimeRead (room : ℕ) (h : TimeFields) : Type 0 where
  pub hour : IsRead Hour room h.hour
  pub minute : IsRead Minute (room - counted Hour h.hour) h.minute
  pub second : IsRead Second (room - counted Hour h.hour - counted Minute h.minute) h.second

time_read : (room : ℕ) (t : TimeTexts) (h : TimeFields) → TimeRead room t h → IsTimeRead room h
time_read room t h read = record {
  hour = component_read Hour room t.hour h.hour read.hour;
  minute = component_read Minute (room - counted Hour h.hour) t.minute h.minute read.minute;
  second = component_read Second (room - counted Hour h.hour - counted Minute h.minute) t.second h.second read.second;
}

pub is_time_read : (room : ℕ) (word : List ℕ) (h : TimeFields) → time_in_word room word ≡ Ok h → IsTimeRead room h
is_time_read room word h at = let found = time_found room word h at in time_read room found.texts h found.read

pub few_parts : (weekdays : List Bool) (d : DateFields) (h : TimeFields) (name : Option ZoneSuffix) → IsDateRead d → IsTimeRead (room_after d) h → counted_parts (fields_with weekdays d h name) ≤ 240
unfolding counted_parts
few_parts weekdays d h name date time =
    omega (arith, counted_date Year d.year refl, counted_date Month d.month refl, counted_date (day_slot d.from_end) d.day (day_no_time d.from_end), counted_time Hour h.hour refl, counted_time Minute h.minute refl, counted_time Second h.second refl, date.year.few, date.month.few, date.day.few, time.hour.few, time.minute.few, time.second.few)

valid_with : (weekdays : List Bool) (d : DateFields) (h : TimeFields) (name : Option ZoneSuffix) → IsWeek weekdays → IsDateRead d → IsTimeRead (room_after d) h → IsSuffixOption name → IsValidFields (fields_with weekdays d h name)
valid_with weekdays d h name week date time zone_is = record {
  seven = week.seven;
  chosen = week.chosen;
  year = date.year.sound;
  month = date.month.sound;
  day = date.day.sound;
  hour = time.hour.sound;
  minute = time.minute.sound;
  second = time.second.sound;
  few = few_parts weekdays d h name date time;
  zone = zone_is;
}

-- parsing a text returns valid fields
pub valid_fields : (text : List ℕ) (f : Fields) → fields_in text ≡ Ok f → IsValidFields f
valid_fields text f at =
    let found = text_found text f at in
    let read = found.fields in
    let p = found.roles in
    rw read.is at (valid_with read.weekdays read.date read.time read.name (is_week p.weekdays read.weekdays read.weekdays_is) (is_date_read p.date read.date read.date_is) (is_time_read (room_after read.date) p.time read.time read.time_is) (is_zone p.rest read.name read.name_is))

-- if a call parses the fields of a text, the fields that it returns are valid
pub gives_valid : (text : List ℕ) (r : Result declared_fields.Fields SpecFault) → GivesUnlessNoMemory fields_of r (fields_in text) → IfOk r (λ raw. IsValidFields (fields_of raw))
gives_valid text (Ok raw) gives = valid_fields text (fields_of raw) gives
gives_valid text (Err e) gives = tt
