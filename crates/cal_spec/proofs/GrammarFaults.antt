-- Parsing a text fails with an error if and only if the text has this error by the rule `HasFault`.
use Rattle.std.proofs.Common.{ℕ, ◌+◌, ◌≤◌, ◌≡◌, ◌⊎◌, inl, inr, Bool, true, false, cond, List, [], ◌∷◌, length, Option, Some, None, Ok, Err, refl, sym, ap, ◌∙◌, arith, ltb}
use Rattle.std.specs.Prelude.{Result, is_some}
use Rattle.std.specs.List.{slice_split}
use Rattle.std.specs.Option.{ok_or}
use Rattle.std.proofs.lemmas.Bool.{le-ltb, lt-ltb, ltb-false, ltb-true}
use Rattle.cal_bytes.proofs.General.{not_some}
use Rattle.cal_bytes.specs.rules.AndThen.{◌>>=◌}
use Rattle.cal_bytes.specs.rules.Separators.{is_comma, words}
use Rattle.cal_spec.specs.rules.Fields.{Fields, counted_parts, parts_in}
use Rattle.cal_spec.specs.rules.GrammarFaultRule.{HasFault, HasFaultAfterDate, HasStrayWord, HasWeekdaysFault, HasWordFault, IsUnknownShorthand, counted_in_date}
use Rattle.cal_spec.specs.rules.GrammarRule.{HasWeekdays, IsDate, IsValid, IsZoneWord, given}
use Rattle.cal_spec.specs.rules.Shorthand.{is_like_shorthand}
use Rattle.cal_spec.specs.rules.Slot.{day_slot}
use Rattle.cal_spec.specs.rules.UnparsedTexts.{WordRoles}
use Rattle.cal_spec.specs.rules.WeekdayNames.{day_named, days_of, leading_letters}
use Rattle.cal_spec.specs.rules.Weekdays.{set_of}
use Rattle.cal_spec.specs.rules.ZoneSuffix.{ZoneSuffix}
use Rattle.cal_spec.specs.computed.DateAndTime.{DateFields, TimeFields, date_in_word, room_after, time_in_word}
use Rattle.cal_spec.specs.computed.Grammar.{fields_at, fields_due, fields_in, max_text_bytes}
use Rattle.cal_spec.specs.computed.ParsedSuffix.{suffix_due, suffix_in, suffix_of}
use Rattle.cal_spec.specs.computed.WeekdayLists.{items_of, listed_days, weekdays_in, weekdays_of, without_comma}
use Rattle.cal_spec.specs.computed.Words.{roles_of}
use Rattle.cal_spec.specs.declared.slot.Slot.TheVariants.{Year, Month}
use Rattle.cal_spec.specs.declared.spec_fault.SpecFault.{SpecFault}
use Rattle.cal_spec.specs.declared.spec_fault.SpecFault.TheVariants.{BadWeekday, Empty, StrayWord, TextTooLong, UnknownShorthand}
use Rattle.cal_spec.specs.declared.weekdays.WeekdayRange.{WeekdayRange}
use Rattle.cal_spec.proofs.DateFaults.{date_fault_found, date_fault_only, time_fault_found, time_fault_only}
use Rattle.cal_spec.proofs.DateRule.{are_few, date_only, date_with, is_date, is_time, time_only}
use Rattle.cal_spec.proofs.FieldLemmas.{IsDateRead, counted_date, day_no_time, few_parts, fields_with, is_date_read, is_time_read}
use Rattle.cal_spec.proofs.ReadLemmas.{bind_err}
use Rattle.cal_spec.proofs.WeekdayRule.{weekdays_by_rule, weekdays_only}
use Rattle.cal_spec.proofs.WholeRule.{valid_found, valid_only}
use Rattle.cal_spec.proofs.WordRule.{roles_found, roles_only, zone_only, zone_read}

-- ## The errors of weekday lists

days_err : (o : Option WeekdayRange) (e : SpecFault) → ok_or o BadWeekday ≡ Err e → e ≡ BadWeekday
days_err None e at = cc
days_err (Some days) e at = cc

items_err : (ts : List (List ℕ)) (e : SpecFault) → items_of ts ≡ Err e → e ≡ BadWeekday
items_err [] e at = cc
items_err (t ∷ ts) e at =
    elim (bind_err (ok_or (days_of t) BadWeekday) (λ days. items_of ts >>= λ more. Ok (days ∷ more)) e at) [
      | inl wrong ↦ days_err (days_of t) e wrong
      | inr f ↦
          elim (bind_err (items_of ts) (λ more. Ok (f.value ∷ more)) e f.next) [ inl wrong ↦ items_err ts e wrong | inr g ↦ (let no = g.next in cc) ]
    ]

listed_err : (word : List ℕ) (e : SpecFault) → listed_days word ≡ Err e → e ≡ BadWeekday
unfolding listed_days
listed_err word e at =
    elim (bind_err (items_of (slice_split is_comma (without_comma word))) (λ items. Ok (set_of items)) e at) [
      | inl wrong ↦ items_err (slice_split is_comma (without_comma word)) e wrong
      | inr f ↦ (let no = f.next in cc)
    ]

abbrev WeekdayErr : List ℕ → SpecFault → Type 0
WeekdayErr word e =
    (IsUnknownShorthand word × (e ≡ UnknownShorthand)) ⊎ ((IsUnknownShorthand word → ⊥) × (e ≡ BadWeekday))

weekday_by : (word : List ℕ) (e : SpecFault) (named like : Bool) → is_some (day_named (leading_letters word)) ≡ named → is_like_shorthand word ≡ like → cond named (listed_days word) (Err (cond like UnknownShorthand BadWeekday)) ≡ Err e → WeekdayErr word e
weekday_by word e true like is is_like at =
    inr (λ unknown. let none = unknown.0 in let no = ap is_some none in cc, listed_err word e at)
weekday_by word e false true is is_like at =
    let same : UnknownShorthand ≡ e = cc in inl ((not_some (day_named (leading_letters word)) is, is_like), sym same)
weekday_by word e false false is is_like at =
    let same : BadWeekday ≡ e = cc in inr (λ unknown. let yes = unknown.1 in cc, sym same)

weekday_err : (word : List ℕ) (e : SpecFault) → weekdays_of word ≡ Err e → WeekdayErr word e
unfolding weekdays_of
weekday_err word e at =
    weekday_by word e (is_some (day_named (leading_letters word))) (is_like_shorthand word) refl refl at

weekdays_fault_found : (word : Option (List ℕ)) (e : SpecFault) → weekdays_in word ≡ Err e → HasWeekdaysFault word e
weekdays_fault_found None e at = cc
weekdays_fault_found (Some word) e at =
    (λ days valid. let read = weekdays_only (Some word) days valid in cc, weekday_err word e at)

same_weekday_err : (word : List ℕ) (d e : SpecFault) → WeekdayErr word d → WeekdayErr word e → d ≡ e
same_weekday_err word d e (inl first) (inl second) = first.1 ∙ sym second.1
same_weekday_err word d e (inl first) (inr second) = absurd (second.0 first.0)
same_weekday_err word d e (inr first) (inl second) = absurd (first.0 second.0)
same_weekday_err word d e (inr first) (inr second) = first.1 ∙ sym second.1

weekdays_only_by : (word : List ℕ) (e : SpecFault) (r : Result (List Bool) SpecFault) → weekdays_of word ≡ r → HasWeekdaysFault (Some word) e → weekdays_of word ≡ Err e
weekdays_only_by word e (Ok days) at h = absurd (h.0 days (weekdays_by_rule (Some word) days at))
weekdays_only_by word e (Err d) at h = at ∙ ap Err (same_weekday_err word d e (weekday_err word d at) h.1)

weekdays_fault_only : (word : Option (List ℕ)) (e : SpecFault) → HasWeekdaysFault word e → weekdays_in word ≡ Err e
weekdays_fault_only None e h = absurd h
weekdays_fault_only (Some word) e h = weekdays_only_by word e (weekdays_of word) refl h

-- ## The error of the words after the time, which is always `StrayWord`

suffix_due_err : (o : Option ZoneSuffix) (e : SpecFault) → suffix_due o ≡ Err e → e ≡ StrayWord
suffix_due_err None e at = cc
suffix_due_err (Some suffix) e at = cc

suffix_err : (rest : List (List ℕ)) (e : SpecFault) → suffix_in rest ≡ Err e → e ≡ StrayWord
suffix_err [] e at = cc
suffix_err (word ∷ []) e at = suffix_due_err (suffix_of word) e at
suffix_err (word ∷ next ∷ more) e at = cc

abbrev IsNoZone : List (List ℕ) → Type 0
IsNoZone rest = (last : Option (List ℕ)) (zone : Option ZoneSuffix) → rest ≡ given last → IsZoneWord last zone → ⊥

no_zone : (rest : List (List ℕ)) (e : SpecFault) → suffix_in rest ≡ Err e → IsNoZone rest
no_zone rest e at last zone is zone_is = let read = zone_only last zone zone_is in let other = rw is at at in cc

stray_by : (rest : List (List ℕ)) (r : Result (Option ZoneSuffix) SpecFault) → suffix_in rest ≡ r → IsNoZone rest → suffix_in rest ≡ Err StrayWord
stray_by rest (Ok zone) at none = let read = zone_read rest zone at in absurd (none read.last zone read.rest_is read.is)
stray_by rest (Err e) at none = at ∙ ap Err (suffix_err rest e at)

-- ## The errors of the time, and of the words after it, if the date is valid

read_left : (d : DateFields) → IsDateRead d → (parts_in d.year + parts_in d.month + parts_in d.day ≤ 240) × (parts_in d.year + parts_in d.month + parts_in d.day + room_after d ≡ 240)
read_left d read =
    let year = counted_date Year d.year refl in
    let month = counted_date Month d.month refl in
    let day = counted_date (day_slot d.from_end) d.day (day_no_time d.from_end) in
    let one = read.year.few in
    let two = read.month.few in
    let three = read.day.few in
    (omega (arith, year, month, day, one, two, three), omega (arith, year, month, day, one, two, three))

after_date : (p : WordRoles) (weekdays : List Bool) (d : DateFields) (e : SpecFault) → HasWeekdays p.weekdays weekdays → date_in_word p.date ≡ Ok d → time_in_word (room_after d) p.time ≡ Err e → HasFaultAfterDate p e
after_date p weekdays d e week date wrong =
    let left = read_left d (is_date_read p.date d date) in
    record {
      fields = fields_with weekdays d (record { hour = None; minute = None; second = None }) None;
      weekdays = week;
      date = is_date p.date weekdays d (record { hour = None; minute = None; second = None }) None date;
      few = left.0;
      at_fault = time_fault_found (parts_in d.year + parts_in d.month + parts_in d.day) (room_after d) p.time e left.1 wrong;
    }

-- the fields with `*` as hour, minute and second
abbrev dated : Fields → Fields
dated f = record {
  weekdays = f.weekdays;
  year = f.year;
  month = f.month;
  day = f.day;
  hour = None;
  minute = None;
  second = None;
  from_end = f.from_end;
  zone = f.zone;
}

is_dated : (word : List ℕ) (f : Fields) → IsDate word f → IsDate word (dated f)
is_dated word f is = record { texts = is.texts; shape = is.shape; from_end = is.from_end; year = is.year; month = is.month; day = is.day }

few_dated : (f : Fields) → counted_in_date f ≤ 240 → counted_parts (dated f) ≤ 240
unfolding counted_parts
few_dated f few = omega (arith, few)

dated_only : (word : List ℕ) (f : Fields) → counted_in_date f ≤ 240 → IsDate word f → date_in_word word ≡ Ok (date_with f)
dated_only word f few is = date_only word (dated f) (are_few (dated f) (few_dated f few)) (is_dated word f is)

room_dated : (f : Fields) → counted_in_date f ≤ 240 → counted_in_date f + room_after (date_with f) ≡ 240
room_dated f few =
    let year = counted_date Year f.year refl in
    let month = counted_date Month f.month refl in
    let day = counted_date (day_slot f.from_end) f.day (day_no_time f.from_end) in
    omega (arith, few, year, month, day)

stray_word : (p : WordRoles) (weekdays : List Bool) (d : DateFields) (h : TimeFields) (e : SpecFault) → HasWeekdays p.weekdays weekdays → date_in_word p.date ≡ Ok d → time_in_word (room_after d) p.time ≡ Ok h → suffix_in p.rest ≡ Err e → HasStrayWord p
stray_word p weekdays d h e week date time wrong = record {
  fields = fields_with weekdays d h None;
  weekdays = week;
  date = is_date p.date weekdays d h None date;
  time = is_time (room_after d) p.time weekdays d h None time;
  few = few_parts weekdays d h None (is_date_read p.date d date) (is_time_read (room_after d) p.time h time);
  no_zone = no_zone p.rest e wrong;
}

-- ## The error of the first invalid word

words_fault_found : (p : WordRoles) (e : SpecFault) → fields_at p ≡ Err e → HasWordFault p e
unfolding fields_at
words_fault_found p e at =
    elim (bind_err (weekdays_in p.weekdays) (λ weekdays. date_in_word p.date >>= λ date. time_in_word (room_after date) p.time >>= λ time. suffix_in p.rest >>= λ name. Ok (fields_with weekdays date time name)) e at) [
      | inl wrong ↦ inl (weekdays_fault_found p.weekdays e wrong)
      | inr week ↦
          let valid = weekdays_by_rule p.weekdays week.value week.first in
          elim (bind_err (date_in_word p.date) (λ date. time_in_word (room_after date) p.time >>= λ time. suffix_in p.rest >>= λ name. Ok (fields_with week.value date time name)) e week.next) [
            | inl wrong ↦ inr (inl ((week.value, valid), date_fault_found p.date e wrong))
            | inr day ↦
                elim (bind_err (time_in_word (room_after day.value) p.time) (λ time. suffix_in p.rest >>= λ name. Ok (fields_with week.value day.value time name)) e day.next) [
                  | inl wrong ↦ inr (inr (inl (after_date p week.value day.value e valid day.first wrong)))
                  | inr clock ↦
                      elim (bind_err (suffix_in p.rest) (λ name. Ok (fields_with week.value day.value clock.value name)) e clock.next) [
                        | inl wrong ↦ inr (inr (inr (stray_word p week.value day.value clock.value e valid day.first clock.first wrong, suffix_err p.rest e wrong)))
                        | inr last ↦ absurd (let no = last.next in cc)
                      ]
                ]
          ]
    ]

words_fault_only : (p : WordRoles) (e : SpecFault) → HasWordFault p e → fields_at p ≡ Err e
unfolding fields_at
words_fault_only p e (inl wrong) = rw (weekdays_fault_only p.weekdays e wrong) refl
words_fault_only p e (inr (inl (week, wrong))) = rw (weekdays_only p.weekdays week.0 week.1, date_fault_only p.date e wrong) refl
words_fault_only p e (inr (inr (inl h))) =
    let f = h.fields in
    rw (weekdays_only p.weekdays f.weekdays h.weekdays, dated_only p.date f h.few h.date, time_fault_only (counted_in_date f) (room_after (date_with f)) p.time e (room_dated f h.few) h.at_fault) refl
words_fault_only p e (inr (inr (inr (h, is)))) =
    let f = h.fields in
    let few = are_few f h.few in
    rw (weekdays_only p.weekdays f.weekdays h.weekdays, date_only p.date f few h.date, time_only p.time f few h.time, stray_by p.rest (suffix_in p.rest) refl h.no_zone, is) refl

-- ## The error of a whole text

no_words : (ws : List (List ℕ)) → roles_of ws ≡ None → ws ≡ []
unfolding roles_of
no_words [] at = refl
no_words (w ∷ ws) at = cc

fault_by : (text : List ℕ) (e : SpecFault) (long : Bool) (o : Option WordRoles) → ltb max_text_bytes (length text) ≡ long → roles_of (words text) ≡ o → cond long (Err TextTooLong) (fields_due o) ≡ Err e → HasFault text e
fault_by text e true o long is at =
    let same : TextTooLong ≡ e = cc in inl (ltb-true max_text_bytes (length text) long, sym same)
fault_by text e false None short is at =
    let same : Empty ≡ e = cc in
    inr (ltb-false max_text_bytes (length text) short, inl (no_words (words text) is, sym same))
fault_by text e false (Some p) short is at =
    inr (ltb-false max_text_bytes (length text) short, inr (p, roles_found (words text) p is, words_fault_found p e at))

pub fault_found : (text : List ℕ) (e : SpecFault) → fields_in text ≡ Err e → HasFault text e
unfolding fields_in
fault_found text e at = fault_by text e (ltb max_text_bytes (length text)) (roles_of (words text)) refl refl at

pub fault_only : (text : List ℕ) (e : SpecFault) → HasFault text e → fields_in text ≡ Err e
unfolding fields_in roles_of
fault_only text e (inl (long, is)) = rw (lt-ltb max_text_bytes (length text) long, is) refl
fault_only text e (inr (short, inl (none, is))) = rw (le-ltb max_text_bytes (length text) short, none, is) refl
fault_only text e (inr (short, inr (p, roles, wrong))) =
    let found : roles_of (words text) ≡ Some p = roles_only (words text) p roles in
    rw (le-ltb max_text_bytes (length text) short, found) (words_fault_only p e wrong)

-- ## Each text has either fields or exactly one error

pub one_fault : (text : List ℕ) (d e : SpecFault) → HasFault text d → HasFault text e → d ≡ e
one_fault text d e first second = let one = fault_only text d first in let two = fault_only text e second in cc

pub never_both : (text : List ℕ) (f : Fields) (e : SpecFault) → IsValid text f → HasFault text e → ⊥
never_both text f e valid fault = let one = valid_only text f valid in let two = fault_only text e fault in cc

either_by : (text : List ℕ) (r : Result Fields SpecFault) → fields_in text ≡ r → ((f : Fields) × IsValid text f) ⊎ ((e : SpecFault) × HasFault text e)
either_by text (Ok f) at = inl (f, valid_found text f at)
either_by text (Err e) at = inr (e, fault_found text e at)

pub either : (text : List ℕ) → ((f : Fields) × IsValid text f) ⊎ ((e : SpecFault) × HasFault text e)
either text = either_by text (fields_in text) refl
