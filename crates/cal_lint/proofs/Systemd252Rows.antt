-- Examples of what systemd 252 rejects, checked by computation. The script tests/systemd_252.py compares such
-- expressions with systemd-analyze. The fields of an expression matter only if days are counted from the month's end,
-- as in the rows `days_from_end` and `days_within`. All other rows use the fields of `daily`, whatever their text is.
use Rattle.std.proofs.Common.{◌≡◌, ℕ, List, true, false, ◌++◌, ◌∷◌, [], codes, refl, Option, None, Some}
use Rattle.cal_bytes.specs.rules.Separators.{words}
use Rattle.cal_civil.specs.rules.Weekday.{name_of}
use Rattle.cal_spec.specs.rules.Fields.{Fields}
use Rattle.cal_spec.specs.rules.NormalForm.{point}
use Rattle.cal_spec.specs.rules.WeekdayNames.{day_named, days_of}
use Rattle.cal_lint.specs.rules.Systemd252.{first_rejection, late_among}
use Rattle.cal_lint.specs.declared.older_systemd.Rejection.{Rejection}
use Rattle.cal_lint.specs.declared.older_systemd.Rejection.TheVariants.{Tab, Blanks, PastSunday, OneSecond, SecondStep, Offset, ZoneName}

daily : Fields
daily = record {
  weekdays = true ∷ true ∷ true ∷ true ∷ true ∷ true ∷ true ∷ [];
  year = None;
  month = None;
  day = None;
  hour = Some (point 0 ∷ []);
  minute = Some (point 0 ∷ []);
  second = Some (point 0 ∷ []);
  from_end = false;
  zone = None;
}

abbrev rejected : List ℕ → Option Rejection
rejected text = first_rejection text daily

shorthand : rejected (codes "daily") ≡ None
unfolding daily words day_named days_of name_of
shorthand = refl

tab : rejected (codes "Mon" ++ 9 ∷ codes "12:00") ≡ Some Tab
unfolding daily
tab = refl

blanks : rejected (codes "12:00  UTC") ≡ Some Blanks
unfolding daily words day_named name_of
blanks = refl

blank_at_the_end : rejected (codes "daily ") ≡ Some Blanks
unfolding daily words day_named name_of
blank_at_the_end = refl

skipped_blanks : rejected (codes "Mon  2024-1-1  UTC") ≡ None
unfolding daily words day_named days_of name_of
skipped_blanks = refl

past_sunday : rejected (codes "Wed,Sun-Tue 12:00") ≡ Some PastSunday
unfolding daily words day_named days_of name_of
past_sunday = refl

within_a_week : rejected (codes "Mon..Sun,Wed-Wed") ≡ None
unfolding daily words day_named days_of name_of
within_a_week = refl

name_of_a_zone : rejected (codes "12:00 Sun-Mon") ≡ None
unfolding daily words day_named days_of name_of
name_of_a_zone = refl

one_second : rejected (codes "*:*:1,05..5") ≡ Some OneSecond
unfolding daily words day_named days_of name_of
one_second = refl

one_minute : rejected (codes "*:5..5:5..5/1") ≡ None
unfolding daily words day_named days_of name_of
one_minute = refl

second_step : rejected (codes "*:*:0..59/2148") ≡ Some SecondStep
unfolding daily words day_named days_of name_of
second_step = refl

minute_step : rejected (codes "*:0..59/9999:0..59/2147") ≡ None
unfolding daily words day_named days_of name_of
minute_step = refl

offset : rejected (codes "daily +02:00") ≡ Some Offset
unfolding daily words day_named days_of name_of
offset = refl

zone_name : rejected (codes "12:00 Europe//Berlin") ≡ Some ZoneName
unfolding daily words day_named days_of name_of
zone_name = refl

days_from_end : late_among (Some (point 17 ∷ record { start = 19; end = Some 26; step = None } ∷ [])) ≡ true
days_from_end = refl

days_within : late_among (Some (point 17 ∷ record { start = 19; end = Some 25; step = None } ∷ point 22 ∷ [])) ≡ false
days_within = refl
