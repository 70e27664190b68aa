-- The expressions of a cron schedule have valid fields, and match if and only if the schedule does.
use Rattle.std.proofs.Common.{◌≡◌, ◌∙◌, ℕ, ◌/◌, ◌%◌, ◌≤◌, cond, Bool, true, false, ◌&&◌, ◌||◌, nat_eq, nat_le, nat_lt, ℤ, pos, negsuc, ◌≤ℤ◌, unsigned_abs, List, [], ◌∷◌, length, get_or, Option, None, Some, Ok, Err, refl, ap, arith}
use Rattle.std.specs.Prelude.{IfErr, IfOk, Result}
use Rattle.cal_bytes.specs.rules.AndThen.{◌>>=◌}
use Rattle.cal_spec.proofs.ReadLemmas.{bind_ok}
use Rattle.cal_cron.proofs.LineRule.{line_found, line_only, sound}
use Rattle.cal_cron.specs.computed.Lines.{LineGivesUnlessNoMemory, line_in}
use Rattle.cal_cron.specs.declared.cron_exprs.CronExprs as declared_exprs
use Rattle.cal_cron.specs.declared.cron_fault.CronFault.{CronFault}
use Rattle.cal_cron.specs.declared.cron_fault.CronFault.TheVariants.{NoMemory}
use Rattle.std.specs.List.{list_any}
use Rattle.std.proofs.lemmas.Bool.{and_from, le-leb, ltb-true}
use Rattle.jiff_core.specs.declared.civil.date.Date.{Date}
use Rattle.jiff_core.specs.Date.{epoch_day, weekday_of}
use Rattle.jiff_core.specs.Calendar.{IsBetween}
use Rattle.jiff_core.proofs.CalendarLemmas.{days_in_month_bounds, weekday_number_bound}
use Rattle.jiff_core.proofs.SignedLemmas.{signed_arith}
use Rattle.cal_civil.specs.rules.LocalSecond.{civil_date, seconds_in_all}
use Rattle.cal_zone.proofs.YearLemmas.{year_of_local}
use Rattle.cal_spec.specs.computed.NormalParts.{normal_component, normal_fields, normal_parts, normal_second, reduced}
use Rattle.cal_spec.specs.rules.Fields.{counted_parts, parts_in}
use Rattle.cal_spec.specs.rules.Match.{date_in, matches, time_in}
use Rattle.cal_spec.specs.rules.Members.{component_has, is_between, part_has, sets_of}
use Rattle.cal_spec.specs.rules.NormalForm.{normal_from_end, part_cmp, point}
use Rattle.cal_spec.specs.rules.ValidFields.{IsValidComponent, IsValidFields}
use Rattle.cal_spec.specs.declared.field.Part.{Part}
use Rattle.cal_spec.specs.declared.slot.Slot.TheVariants.{Month, Day, Hour, Minute, Second}
use Rattle.cal_cron.proofs.NormalLemmas.{component_same}
use Rattle.cal_cron.proofs.PartLemmas.{component_few, component_valid}
use Rattle.cal_cron.proofs.WeekdayLemmas.{some_weekday, week_length, week_same, weekday_same}
use Rattle.cal_cron.specs.computed.Schedules.{IsSchedule}
use Rattle.cal_cron.specs.computed.Translation.{all_week, component_of, exprs_in, exprs_of, fields_at, shown_exprs, weekdays_of}
use Rattle.cal_cron.specs.rules.CronLine.{IsLine, Schedule}
use Rattle.cal_cron.specs.rules.CronMatch.{CronExprs, RunsAs, cron_date, cron_matches, cron_time, day_matches, exprs_match, field_has, weekday_has}

-- ## The fields are valid

few_in_all : (s : Schedule) (weekdays : List Bool) (day : Option (List Part)) → IsSchedule s → parts_in day ≤ 60 → counted_parts (fields_at s weekdays day) ≤ 240
unfolding counted_parts fields_at
few_in_all s weekdays day is few =
    let month = component_few Month s.month is.month.few in
    let hour = component_few Hour s.hour is.hour.few in
    let minute = component_few Minute s.minute is.minute.few in
    omega (arith, month, hour, minute, few)

valid : (s : Schedule) (weekdays : List Bool) (day : Option (List Part)) → IsSchedule s → length weekdays ≡ 7 → list_any (λ d. d) weekdays ≡ true → IsValidComponent Day day → parts_in day ≤ 60
    → IsValidFields (fields_at s weekdays day)
unfolding fields_at
valid s weekdays day is seven chosen sound few = record {
  seven = seven;
  chosen = chosen;
  year = tt;
  month = component_valid Month s.month tt is.month;
  day = sound;
  hour = component_valid Hour s.hour tt is.hour;
  minute = component_valid Minute s.minute tt is.minute;
  second = (omega arith, (record { start_in = (omega arith, omega arith); end_in = tt; forward = tt; some_step = tt; goes_on = tt }, tt));
  few = few_in_all s weekdays day is few;
  zone = tt;
}

pub both_valid : (s : Schedule) → IsSchedule s → IsValidFields (fields_at s (weekdays_of s.weekday) (component_of Day s.day))
both_valid s is =
    valid s (weekdays_of s.weekday) (component_of Day s.day) is (week_length s.weekday) (some_weekday s.weekday is.weekday) (component_valid Day s.day tt is.day) (component_few Day s.day is.day.few)

pub days_valid : (s : Schedule) → IsSchedule s → IsValidFields (fields_at s all_week (component_of Day s.day))
days_valid s is =
    valid s all_week (component_of Day s.day) is refl refl (component_valid Day s.day tt is.day) (component_few Day s.day is.day.few)

pub weekdays_valid : (s : Schedule) → IsSchedule s → IsValidFields (fields_at s (weekdays_of s.weekday) None)
weekdays_valid s is =
    valid s (weekdays_of s.weekday) None is (week_length s.weekday) (some_weekday s.weekday is.weekday) tt (omega arith)

pub both_valid_at : (s : Schedule) (weekdays : List Bool) (day : Option (List Part)) → IsSchedule s → weekdays ≡ weekdays_of s.weekday → day ≡ component_of Day s.day → IsValidFields (fields_at s weekdays day)
both_valid_at s weekdays day is e f = rw (e, f) (both_valid s is)

pub days_valid_at : (s : Schedule) (day : Option (List Part)) → IsSchedule s → day ≡ component_of Day s.day → IsValidFields (fields_at s all_week day)
days_valid_at s day is f = rw f (days_valid s is)

pub weekdays_valid_at : (s : Schedule) (weekdays : List Bool) → IsSchedule s → weekdays ≡ weekdays_of s.weekday → IsValidFields (fields_at s weekdays None)
weekdays_valid_at s weekdays is e = rw e (weekdays_valid s is)

-- ## What the fields match

or_none : (b : Bool) → (b || false) ≡ b
or_none true = refl
or_none false = refl

zero_second : (v : ℕ) → component_has Second (normal_second (Some (point 0 ∷ []))) v ≡ nat_eq v 0
unfolding part_has normal_second normal_parts reduced part_cmp
zero_second v = or_none (nat_eq v 0)

time_same : (s : Schedule) (weekdays : List Bool) (day : Option (List Part)) (second : ℕ) → IsSchedule s
    → time_in (sets_of (normal_fields (fields_at s weekdays day))) second ≡ cron_time s second
unfolding time_in sets_of fields_at cron_time normal_fields
time_same s weekdays day second is =
    let hour = component_same Hour s.hour (second / 3_600) tt is.hour in
    let minute = component_same Minute s.minute (second / 60 % 60) tt is.minute in
    let none = zero_second (second % 60) in
    rw (hour, minute, none) refl

year_in : (y : ℤ) → pos 1970 ≤ℤ y → y ≤ℤ pos 2199 → is_between 1970 2199 (unsigned_abs y) ≡ true
year_in (pos n) low high = and_from (nat_le 1970 n) (nat_le n 2199) (le-leb _ _ (omega (arith, signed_arith))) (le-leb _ _ (omega (arith, signed_arith)))
year_in (negsuc n) low high = absurd (omega (arith, signed_arith))

every_day : (date : Date) → is_between 1 31 date.day ≡ true
every_day date =
    let long = days_in_month_bounds date.year date.month in
    let first = date.day_in.0 in
    let last = date.day_in.1 in
    and_from (nat_le 1 date.day) (nat_le date.day 31) (le-leb _ _ (omega arith)) (le-leb _ _ (omega arith))

from_start : (day : Option (List Part)) → normal_from_end false day ≡ false
from_start None = refl
from_start (Some parts) = refl

date_same : (s : Schedule) (weekdays : List Bool) (day : Option (List Part)) (date : Date) → IsSchedule s → IsBetween (pos 1970) (pos 2199) date.year
    → date_in (sets_of (normal_fields (fields_at s weekdays day))) date
    ≡ (get_or weekdays (weekday_of date) false && (field_has s.month date.month && component_has Day (normal_component day) date.day))
unfolding date_in sets_of fields_at normal_fields
date_same s weekdays day date is between =
    let year = year_in date.year between.0 between.1 in
    let month = component_same Month s.month date.month tt is.month in
    rw (year, month, from_start day) refl

-- whether a local second matches, given whether it is in range, and whether its date and its time match
abbrev at_most : Bool → Bool → Bool → Bool
at_most small date time = small && (date && time)

match_by : (s : Schedule) (weekdays : List Bool) (day : Option (List Part)) (local : ℕ) (small : Bool) → IsSchedule s → nat_lt local seconds_in_all ≡ small
    → at_most small (date_in (sets_of (normal_fields (fields_at s weekdays day))) (civil_date (local / 86_400))) (time_in (sets_of (normal_fields (fields_at s weekdays day))) (local % 86_400))
    ≡ at_most small (get_or weekdays (weekday_of (civil_date (local / 86_400))) false && (field_has s.month (civil_date (local / 86_400)).month && component_has Day (normal_component day) (civil_date (local / 86_400)).day)) (cron_time s (local % 86_400))
match_by s weekdays day local false is test = refl
match_by s weekdays day local true is test =
    let date = date_same s weekdays day (civil_date (local / 86_400)) is (year_of_local local (ltb-true _ _ test)) in
    let time = time_same s weekdays day (local % 86_400) is in
    rw (date, time) refl

match_same : (s : Schedule) (weekdays : List Bool) (day : Option (List Part)) (local : ℕ) (w d : Bool) → IsSchedule s
    → get_or weekdays (weekday_of (civil_date (local / 86_400))) false ≡ w → component_has Day (normal_component day) (civil_date (local / 86_400)).day ≡ d
    → matches (sets_of (normal_fields (fields_at s weekdays day))) local
    ≡ at_most (nat_lt local seconds_in_all) (w && (field_has s.month (civil_date (local / 86_400)).month && d)) (cron_time s (local % 86_400))
unfolding matches
match_same s weekdays day local w d is weekday number =
    match_by s weekdays day local (nat_lt local seconds_in_all) is refl ∙ rw (weekday, number) refl

-- ## Both or one of the two fields match

both_fields : (t w m d k : Bool) → (at_most t (w && (m && d)) k || false) ≡ at_most t (m && (d && w)) k
both_fields t w m d k = grind arith

one_field : (t w m d k : Bool) → (at_most t (true && (m && d)) k || at_most t (w && (m && true)) k) ≡ at_most t (m && (d || w)) k
one_field t w m d k = grind arith

abbrev chosen : Schedule → Bool → CronExprs
chosen s star =
    cond star (record { first = normal_fields (fields_at s (weekdays_of s.weekday) (component_of Day s.day)); other = None })
    (record {
      first = normal_fields (fields_at s all_week (component_of Day s.day));
      other = Some (normal_fields (fields_at s (weekdays_of s.weekday) None));
    })

exprs_by : (s : Schedule) (local : ℕ) (star : Bool) → IsSchedule s → exprs_match (chosen s star).first (chosen s star).other local
    ≡ at_most (nat_lt local seconds_in_all) (field_has s.month (civil_date (local / 86_400)).month && day_matches star (field_has s.day (civil_date (local / 86_400)).day) (weekday_has s.weekday (weekday_of (civil_date (local / 86_400))))) (cron_time s (local % 86_400))
exprs_by s local true is =
    let date = civil_date (local / 86_400) in
    let weekday = weekday_same s.weekday (weekday_of date) (weekday_number_bound (epoch_day date)) in
    let day = component_same Day s.day date.day tt is.day in
    let first = match_same s (weekdays_of s.weekday) (component_of Day s.day) local (weekday_has s.weekday (weekday_of date)) (field_has s.day date.day) is weekday day in
    ap (λ b. b || false) first
    ∙ both_fields (nat_lt local seconds_in_all) (weekday_has s.weekday (weekday_of date)) (field_has s.month date.month) (field_has s.day date.day) (cron_time s (local % 86_400))
exprs_by s local false is =
    let date = civil_date (local / 86_400) in
    let weekday = weekday_same s.weekday (weekday_of date) (weekday_number_bound (epoch_day date)) in
    let all = week_same (weekday_of date) (weekday_number_bound (epoch_day date)) in
    let day = component_same Day s.day date.day tt is.day in
    let first = match_same s all_week (component_of Day s.day) local true (field_has s.day date.day) is all day in
    let other = match_same s (weekdays_of s.weekday) None local (weekday_has s.weekday (weekday_of date)) true is weekday (every_day date) in
    ap (λ b. b || matches (sets_of (normal_fields (fields_at s (weekdays_of s.weekday) None))) local) first
    ∙ ap (λ b. at_most (nat_lt local seconds_in_all) (true && (field_has s.month date.month && field_has s.day date.day)) (cron_time s (local % 86_400)) || b) other
    ∙ one_field (nat_lt local seconds_in_all) (weekday_has s.weekday (weekday_of date)) (field_has s.month date.month) (field_has s.day date.day) (cron_time s (local % 86_400))

pub exprs_same : (s : Schedule) (local : ℕ) → IsSchedule s → exprs_match (exprs_of s).first (exprs_of s).other local ≡ cron_matches s local
unfolding exprs_of cron_matches cron_date
exprs_same s local is = exprs_by s local s.star is

result_runs : (text : List ℕ) (s : Schedule) (e : CronExprs) → IsLine text s → ◌≡◌ {A = Result CronExprs CronFault} (Ok (exprs_of s)) (Ok e) → RunsAs text e.first e.other
result_runs text s e line is =
    let same : exprs_of s ≡ e = cc in
    rw (← same) (record { schedule = s; line = line; same = λ local. exprs_same s local (sound text s line) })

pub ok_runs : (text : List ℕ) (e : CronExprs) → exprs_in text ≡ Ok e → RunsAs text e.first e.other
unfolding exprs_in
ok_runs text e at =
    let read = bind_ok (line_in text) (λ s. Ok (exprs_of s)) e at in
    result_runs text read.value e (line_found text read.value read.first) read.next

pub cron_runs : (r : Result declared_exprs.CronExprs CronFault) (text : List ℕ) → LineGivesUnlessNoMemory shown_exprs r (exprs_in text) → IfOk r (λ e. RunsAs text e.first e.other)
cron_runs (Ok e) text gives = ok_runs text (shown_exprs e) gives
cron_runs (Err fault) text gives = tt

rejected_by : (text : List ℕ) (s : Schedule) (fault : CronFault) → exprs_in text ≡ Err fault → IsLine text s → ⊥
unfolding exprs_in
rejected_by text s fault at line =
    let ok : (line_in text >>= λ t. Ok (exprs_of t)) ≡ Ok (exprs_of s) = ap (λ r. r >>= λ t. Ok (exprs_of t)) (line_only text s line) in
    cc

pub cron_rejected : (r : Result declared_exprs.CronExprs CronFault) (text : List ℕ) → LineGivesUnlessNoMemory shown_exprs r (exprs_in text) → IfErr r (λ fault. (fault ≡ NoMemory → ⊥) → (s : Schedule) → IsLine text s → ⊥)
cron_rejected (Ok e) text gives = tt
cron_rejected (Err fault) text gives = λ memory s line. rejected_by text s fault (gives memory) line
