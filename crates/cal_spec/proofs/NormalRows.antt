-- Examples of the normal form and its text, checked by computation.
use Rattle.std.proofs.Common.{◌≡◌, ℕ, true, false, [], ◌∷◌, Option, None, Some, refl, codes}
use Rattle.std.specs.Fmt.{digits}
use Rattle.cal_civil.specs.rules.Weekday.{name_of}
use Rattle.cal_spec.specs.rules.ZoneSuffix.{of_name}
use Rattle.cal_spec.specs.declared.field.Part.{Part}
use Rattle.cal_spec.specs.rules.ExprText.{expr_text, fields_text, row_text, parts_text, part_text, number_text}
use Rattle.cal_spec.specs.rules.Fields.{Fields}
use Rattle.cal_spec.specs.computed.NormalParts.{normal_fields, normal_parts, normal_second, reduced}
use Rattle.cal_spec.specs.rules.NormalForm.{part_cmp, point}
use Rattle.cal_spec.specs.rules.WeekdayRuns.{weekdays_text, runs_text, run_text}

range : ℕ → ℕ → Option ℕ → Part
range a b step = record { start = a; end = Some b; step = step }

repeated : ℕ → ℕ → Part
repeated a r = record { start = a; end = None; step = Some r }

-- `20..39/5` becomes `20..35/5`
range_ends : normal_parts (range 20 39 (Some 5) ∷ []) ≡ range 20 35 (Some 5) ∷ []
unfolding normal_parts reduced part_cmp range
range_ends = refl

-- `5..10/6,5..5` becomes `5`
points : normal_parts (range 5 10 (Some 6) ∷ range 5 5 None ∷ []) ≡ point 5 ∷ []
unfolding normal_parts reduced part_cmp range
points = refl

-- in the seconds, `0/1,0/1` becomes `*`
every_second : normal_second (Some (repeated 0 1 ∷ repeated 0 1 ∷ [])) ≡ None
unfolding normal_second normal_parts reduced part_cmp repeated
every_second = refl

monday_and_friday : Fields
monday_and_friday = record {
  weekdays = true ∷ false ∷ false ∷ false ∷ true ∷ false ∷ false ∷ [];
  year = Some (point 2012 ∷ []);
  month = Some (repeated 1 2 ∷ []);
  day = Some (point 3 ∷ point 1 ∷ []);
  hour = None;
  minute = Some (point 30 ∷ []);
  second = Some (point 45 ∷ []);
  from_end = false;
  zone = None;
}

normal_forms : expr_text (normal_fields monday_and_friday) ≡ codes "Mon,Fri 2012-01/2-01,03 *:30:45"
unfolding monday_and_friday repeated expr_text fields_text row_text parts_text part_text number_text digits normal_fields normal_second normal_parts reduced part_cmp weekdays_text runs_text run_text name_of
normal_forms = refl

from_the_end : Fields
from_the_end = record {
  weekdays = true ∷ true ∷ true ∷ true ∷ false ∷ true ∷ true ∷ [];
  year = Some (range 1993 2000 (Some 1) ∷ []);
  month = None;
  day = Some (repeated 7 1 ∷ []);
  hour = Some (point 0 ∷ []);
  minute = Some (point 0 ∷ []);
  second = Some (range 20 40 None ∷ []);
  from_end = true;
  zone = Some (of_name (codes "UTC"));
}

from_the_end_text : expr_text (normal_fields from_the_end) ≡ codes "Mon..Thu,Sat,Sun 1993..2000-*~07/1 00:00:20..40 UTC"
unfolding from_the_end range repeated expr_text fields_text row_text parts_text part_text number_text digits normal_fields normal_second normal_parts reduced part_cmp weekdays_text runs_text run_text name_of
from_the_end_text = refl
