-- The parser accepts exactly the dates and times that the grammar allows.
use Rattle.std.proofs.Common.{ℕ, ◌-◌, ◌≤◌, ◌≡◌, inl, inr, Bool, true, false, cond, List, [], ◌∷◌, ◌++◌, codes, Option, Some, None, Ok, refl, sym, ap, ◌∙◌, arith, length, ◌<◌}
use Rattle.std.specs.Prelude.{◌==◌, filter}
use Rattle.std.specs.List.{AllByRecursion, slice_split, join_with_byte, onto_first}
use Rattle.std.proofs.lemmas.Bool.{or_cases, eqb-true, false≢true}
use Rattle.std.proofs.lemmas.Bool.Decides.{nat_tests}
use Rattle.std.proofs.lemmas.List.Splits.{join_with_byte-slice_split}
use Rattle.cal_spec.specs.computed.Components.{counted}
use Rattle.cal_spec.specs.computed.DateAndTime.{DateFields, TimeFields, date_texts_by, time_texts_by, date_texts, time_texts, date_fields, time_fields, room_after, date_in_word, time_in_word}
use Rattle.cal_bytes.specs.rules.Separators.{is_colon}
use Rattle.cal_spec.specs.rules.UnparsedTexts.{DateTexts, TimeTexts, is_date_sign, is_tilde}
use Rattle.cal_spec.specs.rules.Fields.{Fields, counted_parts, max_counted_parts}
use Rattle.cal_spec.specs.rules.GrammarRule.{last_sign, IsDateShape, IsTimeShape, IsDate, IsTime, IsComponent}
use Rattle.cal_spec.specs.rules.Slot.{day_slot}
use Rattle.cal_spec.specs.declared.field.Part.{Part}
use Rattle.cal_spec.specs.declared.slot.Slot.{Slot}
use Rattle.cal_spec.specs.declared.slot.Slot.TheVariants.{Year, Month, Hour, Minute, Second}
use Rattle.cal_spec.specs.rules.ZoneSuffix.{ZoneSuffix}
use Rattle.cal_spec.proofs.ComponentRule.{is_component_byte, component_found, component_only, component_bytes}
use Rattle.cal_spec.proofs.FieldLemmas.{fields_with, date_found, time_found, counted_date, counted_time, day_no_time}
use Rattle.cal_bytes.proofs.General.{IsClear, Apart, clear_of, split_at, split_alone, some_pieces}

-- if `front` has no separator and `c` is a separator, the separators of `front ++ (c ∷ rest)` are `c` and then those of
-- `rest`
filter_at : (p : ℕ → Bool) (front : List ℕ) (c : ℕ) (rest : List ℕ) → IsClear p front → p c ≡ true → filter p (front ++ (c ∷ rest)) ≡ c ∷ filter p rest
filter_at p [] c rest clear is = rw is refl
filter_at p (x ∷ xs) c rest clear is = grind (arith, filter_at p xs c rest)

filter_alone : (p : ℕ → Bool) (xs : List ℕ) → IsClear p xs → filter p xs ≡ []
filter_alone p [] clear = refl
filter_alone p (x ∷ xs) clear = grind (arith, filter_alone p xs)

-- joins pieces of a text again, with the separators between them
abbrev woven : List ℕ → List (List ℕ) → List ℕ
woven cs [] = []
woven [] (t ∷ ts) = t
woven (c ∷ cs) (t ∷ ts) = t ++ (c ∷ woven cs ts)

woven_onto : (x : ℕ) (cs : List ℕ) (t : List ℕ) (ts : List (List ℕ)) → woven cs ((x ∷ t) ∷ ts) ≡ x ∷ woven cs (t ∷ ts)
woven_onto x [] t ts = refl
woven_onto x (c ∷ cs) t ts = refl

woven_first : (x : ℕ) (cs : List ℕ) (ts : List (List ℕ)) → 0 < length ts → woven cs (onto_first x ts) ≡ x ∷ woven cs ts
woven_first x cs [] some = absurd (omega arith)
woven_first x cs (t ∷ ts) some = woven_onto x cs t ts

-- the pieces of a text, with its separators put back between them, are the whole text
woven_whole : (p : ℕ → Bool) (xs : List ℕ) → woven (filter p xs) (slice_split p xs) ≡ xs
woven_whole p [] = refl
woven_whole p (x ∷ xs) = grind (arith, woven_whole p xs, woven_first x (filter p xs) (slice_split p xs) (some_pieces p xs))

filter_kept : (p : ℕ → Bool) (xs : List ℕ) → AllByRecursion (λ b. p b ≡ true) (filter p xs)
filter_kept p [] = tt
filter_kept p (x ∷ xs) = grind (arith, filter_kept p xs)

-- ## Splitting a date into its components agrees with the grammar

sign_by : (s : ℕ) (tilde : Bool) → is_tilde s ≡ tilde → is_date_sign s ≡ true → last_sign tilde ≡ s ∷ []
sign_by s true is test = ap (λ b. b ∷ []) (sym (eqb-true s 126 is))
sign_by s false is test =
    elim (or_cases (s == 45) (is_tilde s) test) [
      | inl dash ↦ ap (λ b. b ∷ []) (sym (eqb-true s 45 dash))
      | inr tilde ↦ absurd (false≢true (sym is ∙ tilde))
    ]

sign_is : (s : ℕ) → is_date_sign s ≡ true → last_sign (is_tilde s) ≡ s ∷ []
sign_is s test = sign_by s (is_tilde s) refl test

dash_is : (s : ℕ) → is_tilde s ≡ false → is_date_sign s ≡ true → codes "-" ≡ s ∷ []
dash_is s is test = sign_by s false is test

two_found : (s : ℕ) (month day : List ℕ) (t : DateTexts) → is_date_sign s ≡ true → record { year = codes "*"; month = month; day = day; from_end = is_tilde s } ≡ t → IsDateShape (month ++ (s ∷ day)) t
two_found s month day t sign is =
    rw (← is) (inr (refl, ap (λ front. month ++ (front ++ day)) (sym (sign_is s sign))))

three_by : (s u : ℕ) (year month day : List ℕ) (t : DateTexts) (tilde : Bool) → is_tilde s ≡ tilde → is_date_sign s ≡ true → is_date_sign u ≡ true → cond tilde None (Some (record { year = year; month = month; day = day; from_end = is_tilde u })) ≡ Some t → IsDateShape (year ++ (s ∷ (month ++ (u ∷ day)))) t
three_by s u year month day t true is first second at = cc
three_by s u year month day t false is first second at =
    let made : record { year = year; month = month; day = day; from_end = is_tilde u } ≡ t = cc in
    rw (← made) (inl (ap (λ front. year ++ (front ++ (month ++ (u ∷ day)))) (sym (dash_is s is first)) ∙ ap (λ front. year ++ (codes "-" ++ (month ++ (front ++ day)))) (sym (sign_is u second))))

date_by_found : (ss : List ℕ) (ts : List (List ℕ)) (t : DateTexts) → AllByRecursion (λ b. is_date_sign b ≡ true) ss → date_texts_by ss ts ≡ Some t → IsDateShape (woven ss ts) t
date_by_found (s ∷ []) (a ∷ b ∷ []) t signs at =
    let made : record { year = codes "*"; month = a; day = b; from_end = is_tilde s } ≡ t = cc in
    two_found s a b t signs.0 made
date_by_found (s ∷ u ∷ []) (a ∷ b ∷ c ∷ []) t signs at = three_by s u a b c t (is_tilde s) refl signs.0 signs.1.0 at
date_by_found ss ts t signs at = cc

pub date_shape_found : (word : List ℕ) (t : DateTexts) → date_texts word ≡ Some t → IsDateShape word t
unfolding date_texts
date_shape_found word t at =
    rw woven_whole at (date_by_found (filter is_date_sign word) (slice_split is_date_sign word) t (filter_kept is_date_sign word) at)

two_only : (month day : List ℕ) (from_end : Bool) → IsClear is_date_sign month → IsClear is_date_sign day → date_texts (month ++ (last_sign from_end ++ day)) ≡ Some (record { year = codes "*"; month = month; day = day; from_end = from_end })
unfolding date_texts
two_only month day true m d =
    rw (filter_at is_date_sign month 126 day m refl, filter_alone is_date_sign day d, split_at is_date_sign month 126 day m refl, split_alone is_date_sign day d) refl
two_only month day false m d =
    rw (filter_at is_date_sign month 45 day m refl, filter_alone is_date_sign day d, split_at is_date_sign month 45 day m refl, split_alone is_date_sign day d) refl

three_only : (year month day : List ℕ) (from_end : Bool) → IsClear is_date_sign year → IsClear is_date_sign month → IsClear is_date_sign day → date_texts (year ++ (codes "-" ++ (month ++ (last_sign from_end ++ day)))) ≡ Some (record { year = year; month = month; day = day; from_end = from_end })
unfolding date_texts
three_only year month day true y m d =
    rw (filter_at is_date_sign year 45 (month ++ (126 ∷ day)) y refl, filter_at is_date_sign month 126 day m refl, filter_alone is_date_sign day d, split_at is_date_sign year 45 (month ++ (126 ∷ day)) y refl, split_at is_date_sign month 126 day m refl, split_alone is_date_sign day d) refl
three_only year month day false y m d =
    rw (filter_at is_date_sign year 45 (month ++ (45 ∷ day)) y refl, filter_at is_date_sign month 45 day m refl, filter_alone is_date_sign day d, split_at is_date_sign year 45 (month ++ (45 ∷ day)) y refl, split_at is_date_sign month 45 day m refl, split_alone is_date_sign day d) refl

with_star : (t : DateTexts) → t.year ≡ codes "*" → record { year = codes "*"; month = t.month; day = t.day; from_end = t.from_end } ≡ t
with_star t is = ap (λ (y : List ℕ). record { year = y; month = t.month; day = t.day; from_end = t.from_end }) (sym is)

pub date_shape_only : (word : List ℕ) (t : DateTexts) → IsClear is_date_sign t.year → IsClear is_date_sign t.month → IsClear is_date_sign t.day → IsDateShape word t → date_texts word ≡ Some t
date_shape_only word t y m d (inl whole) = ap date_texts whole ∙ three_only t.year t.month t.day t.from_end y m d
date_shape_only word t y m d (inr shape) = ap date_texts shape.1 ∙ two_only t.month t.day t.from_end m d ∙ ap Some (with_star t shape.0)

-- ## Splitting a time into its components agrees with the grammar

time_by_found : (ts : List (List ℕ)) (t : TimeTexts) → time_texts_by ts ≡ Some t → IsTimeShape (join_with_byte 58 ts) t
time_by_found (a ∷ b ∷ []) t at =
    let made : record { hour = a; minute = b; second = codes "00" } ≡ t = cc in rw (← made) (inr (refl, refl))
time_by_found (a ∷ b ∷ c ∷ []) t at =
    let made : record { hour = a; minute = b; second = c } ≡ t = cc in rw (← made) (inl refl)
time_by_found ts t at = cc

pub time_shape_found : (word : List ℕ) (t : TimeTexts) → time_texts word ≡ Some t → IsTimeShape word t
unfolding time_texts
time_shape_found word t at = rw (join_with_byte-slice_split 58 word) at (time_by_found (slice_split is_colon word) t at)

time_two_only : (hour minute : List ℕ) → IsClear is_colon hour → IsClear is_colon minute → time_texts (hour ++ (codes ":" ++ minute)) ≡ Some (record { hour = hour; minute = minute; second = codes "00" })
unfolding time_texts
time_two_only hour minute h m = rw (split_at is_colon hour 58 minute h refl, split_alone is_colon minute m) refl

time_three_only : (hour minute second : List ℕ) → IsClear is_colon hour → IsClear is_colon minute → IsClear is_colon second → time_texts (hour ++ (codes ":" ++ (minute ++ (codes ":" ++ second)))) ≡ Some (record { hour = hour; minute = minute; second = second })
unfolding time_texts
time_three_only hour minute second h m s =
    rw (split_at is_colon hour 58 (minute ++ (58 ∷ second)) h refl, split_at is_colon minute 58 second m refl, split_alone is_colon second s) refl

with_zeros : (t : TimeTexts) → t.second ≡ codes "00" → record { hour = t.hour; minute = t.minute; second = codes "00" } ≡ t
with_zeros t is = ap (λ (s : List ℕ). record { hour = t.hour; minute = t.minute; second = s }) (sym is)

pub time_shape_only : (word : List ℕ) (t : TimeTexts) → IsClear is_colon t.hour → IsClear is_colon t.minute → IsClear is_colon t.second → IsTimeShape word t → time_texts word ≡ Some t
time_shape_only word t h m s (inl whole) = ap time_texts whole ∙ time_three_only t.hour t.minute t.second h m s
time_shape_only word t h m s (inr shape) = ap time_texts shape.1 ∙ time_two_only t.hour t.minute h m ∙ ap Some (with_zeros t shape.0)

-- ## No component contains `-`, `~` or a colon

pub component_no_sign : Apart is_component_byte is_date_sign
component_no_sign b h = grind (arith, nat_tests)

pub component_no_colon : Apart is_component_byte is_colon
component_no_colon b h = grind (arith, nat_tests)

component_clear : (p : ℕ → Bool) (slot : Slot) (text : List ℕ) (c : Option (List Part)) → Apart is_component_byte p → IsComponent slot text c → IsClear p text
component_clear p slot text c apart is = clear_of is_component_byte p text apart (component_bytes slot text c is)

-- ## If parsing a date or a time succeeds, the grammar allows it

pub is_date : (word : List ℕ) (weekdays : List Bool) (d : DateFields) (h : TimeFields) (name : Option ZoneSuffix) → date_in_word word ≡ Ok d → IsDate word (fields_with weekdays d h name)
is_date word weekdays d h name at =
    let found = date_found word d at in
    let read = found.read in
    let t = found.texts in
    record {
      texts = t;
      shape = date_shape_found word t found.shape;
      from_end = read.from_end;
      year = component_found Year max_counted_parts t.year d.year read.year;
      month = component_found Month (max_counted_parts - counted Year d.year) t.month d.month read.month;
      day = component_found (day_slot d.from_end) (max_counted_parts - counted Year d.year - counted Month d.month) t.day d.day (rw read.from_end at read.day);
    }

pub is_time : (room : ℕ) (word : List ℕ) (weekdays : List Bool) (d : DateFields) (h : TimeFields) (name : Option ZoneSuffix) → time_in_word room word ≡ Ok h → IsTime word (fields_with weekdays d h name)
is_time room word weekdays d h name at =
    let found = time_found room word h at in
    let read = found.read in
    let t = found.texts in
    record {
      texts = t;
      shape = time_shape_found word t found.shape;
      hour = component_found Hour room t.hour h.hour read.hour;
      minute = component_found Minute (room - counted Hour h.hour) t.minute h.minute read.minute;
      second = component_found Second (room - counted Hour h.hour - counted Minute h.minute) t.second h.second read.second;
    }

-- ## If the grammar allows a date or a time, parsing it succeeds

-- 240 counted parts are allowed in all; no component has more of them than are left after the components before it
pub record AreFew (f : Fields) : Type 0 where
  pub year : counted Year f.year ≤ 240
  pub month : counted Month f.month ≤ 240 - counted Year f.year
  pub day : counted (day_slot f.from_end) f.day ≤ 240 - counted Year f.year - counted Month f.month
  pub hour : counted Hour f.hour ≤ 240 - counted Year f.year - counted Month f.month - counted (day_slot f.from_end) f.day
  pub minute : counted Minute f.minute ≤ 240 - counted Year f.year - counted Month f.month - counted (day_slot f.from_end) f.day - counted Hour f.hour
  pub second : counted Second f.second ≤ 240 - counted Year f.year - counted Month f.month - counted (day_slot f.from_end) f.day - counted Hour f.hour - counted Minute f.minute

pub are_few : (f : Fields) → counted_parts f ≤ 240 → AreFew f
unfolding counted_parts
are_few f few =
    let year = counted_date Year f.year refl in
    let month = counted_date Month f.month refl in
    let day = counted_date (day_slot f.from_end) f.day (day_no_time f.from_end) in
    let hour = counted_time Hour f.hour refl in
    let minute = counted_time Minute f.minute refl in
    let second = counted_time Second f.second refl in
    record {
      year = omega (arith, few, year, month, day, hour, minute, second);
      month = omega (arith, few, year, month, day, hour, minute, second);
      day = omega (arith, few, year, month, day, hour, minute, second);
      hour = omega (arith, few, year, month, day, hour, minute, second);
      minute = omega (arith, few, year, month, day, hour, minute, second);
      second = omega (arith, few, year, month, day, hour, minute, second);
    }

abbrev pub date_with : Fields → DateFields
date_with f = record { year = f.year; month = f.month; day = f.day; from_end = f.from_end }

abbrev pub time_with : Fields → TimeFields
time_with f = record { hour = f.hour; minute = f.minute; second = f.second }

pub date_only : (word : List ℕ) (f : Fields) → AreFew f → IsDate word f → date_in_word word ≡ Ok (date_with f)
unfolding date_in_word date_fields
date_only word f few is =
    let t = is.texts in
    let day_is : IsComponent (day_slot t.from_end) t.day f.day = rw is.from_end is.day in
    let shape = date_shape_only word t (component_clear is_date_sign Year t.year f.year component_no_sign is.year) (component_clear is_date_sign Month t.month f.month component_no_sign is.month) (component_clear is_date_sign (day_slot t.from_end) t.day f.day component_no_sign day_is) is.shape in
    let year = component_only Year 240 t.year f.year is.year few.year in
    let month = component_only Month (240 - counted Year f.year) t.month f.month is.month few.month in
    let day = component_only (day_slot f.from_end) (240 - counted Year f.year - counted Month f.month) t.day f.day is.day few.day in
    rw (shape, is.from_end, year, month, day) refl

pub time_only : (word : List ℕ) (f : Fields) → AreFew f → IsTime word f → time_in_word (room_after (date_with f)) word ≡ Ok (time_with f)
unfolding time_in_word time_fields
time_only word f few is =
    let t = is.texts in
    let room = room_after (date_with f) in
    let shape = time_shape_only word t (component_clear is_colon Hour t.hour f.hour component_no_colon is.hour) (component_clear is_colon Minute t.minute f.minute component_no_colon is.minute) (component_clear is_colon Second t.second f.second component_no_colon is.second) is.shape in
    let hour = component_only Hour room t.hour f.hour is.hour few.hour in
    let minute = component_only Minute (room - counted Hour f.hour) t.minute f.minute is.minute few.minute in
    let second = component_only Second (room - counted Hour f.hour - counted Minute f.minute) t.second f.second is.second few.second in
    rw (shape, hour, minute, second) refl
