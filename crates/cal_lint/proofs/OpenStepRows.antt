-- Examples of steps without an end that systemd 252 computes wrongly, checked by computation. The script
-- tests/open_steps.py compares such expressions with systemd-analyze.
use Rattle.std.proofs.Common.{◌≡◌, ℕ, List, true, false, ◌∷◌, [], refl, Option, None, Some}
use Rattle.cal_spec.specs.rules.Members.{sets_of, part_has}
use Rattle.cal_spec.specs.rules.NormalForm.{point}
use Rattle.cal_spec.specs.declared.field.Part.{Part}
use Rattle.cal_spec.specs.declared.field.Field.TheVariants.{Month, Day, Hour, Minute}
use Rattle.cal_lint.specs.rules.OpenSteps.{flaw_of}
use Rattle.cal_lint.specs.declared.open_steps.OpenStepFlaw.{OpenStepFlaw}
use Rattle.cal_lint.specs.declared.open_steps.OpenStepFlaw.TheVariants.{LosesElapses, FailsAtClockChanges, FailsAtMidnightChanges}

step : ℕ → ℕ → Option (List Part)
step start by = Some (record { start = start; end = None; step = Some by } ∷ [])

zero : Option (List Part)
zero = Some (point 0 ∷ [])

-- the flaw of an expression in the machine's zone with these months, days, hours and minutes, at second 0
flaw : Option (List Part) → Option (List Part) → Option (List Part) → Option (List Part) → Option OpenStepFlaw
flaw month day hour minute = flaw_of (record {
  weekdays = true ∷ true ∷ true ∷ true ∷ true ∷ true ∷ true ∷ [];
  year = None;
  month = month;
  day = day;
  hour = hour;
  minute = minute;
  second = Some (point 0 ∷ []);
  from_end = false;
  zone = None;
})

-- systemd 252 loses elapses of `*:0/7`, `0/5:00` and `*-*-1/8`
minutes : flaw None None None (step 0 7) ≡ Some (LosesElapses Minute)
unfolding flaw step flaw_of sets_of part_has
minutes = refl

hours : flaw None None (step 0 5) zero ≡ Some (LosesElapses Hour)
unfolding flaw step zero flaw_of sets_of part_has
hours = refl

days : flaw None (step 1 8) zero zero ≡ Some (LosesElapses Day)
unfolding flaw step zero flaw_of sets_of part_has
days = refl

-- `*:0/15` is computed correctly, and so is `*:7/4`, which reaches minute 59
whole_hours : flaw None None None (step 0 15) ≡ None
unfolding flaw step flaw_of sets_of part_has
whole_hours = refl

to_the_last_minute : flaw None None None (step 7 4) ≡ None
unfolding flaw step flaw_of sets_of part_has
to_the_last_minute = refl

-- `10:0/7` isn't affected, since it matches neither hour 23 nor hour 0
one_hour : flaw None None (Some (point 10 ∷ [])) (step 0 7) ≡ None
unfolding flaw step flaw_of sets_of part_has
one_hour = refl

-- for `2/12:00`, `0/6:00` and `*-4/6-01`, systemd 252 fails around clock changes
clock_changes : flaw None None (step 2 12) zero ≡ Some (FailsAtClockChanges Hour)
unfolding flaw step zero flaw_of sets_of part_has
clock_changes = refl

midnight : flaw None None (step 0 6) zero ≡ Some FailsAtMidnightChanges
unfolding flaw step zero flaw_of sets_of part_has
midnight = refl

half_years : flaw (step 4 6) (Some (point 1 ∷ [])) zero zero ≡ Some (FailsAtClockChanges Month)
unfolding flaw step zero flaw_of sets_of part_has
half_years = refl
