-- What messages say about steps without an end that systemd 252 computes wrongly (systemd.time(7), Calendar Events).
use Rattle.std.specs.Prelude.{ℕ, List, codes}
use Rattle.cal_lint.specs.declared.open_steps.OpenStepFlaw.{OpenStepFlaw}
use Rattle.cal_lint.specs.declared.open_steps.OpenStepFlaw.TheVariants.{LosesElapses, FailsAtClockChanges, FailsAtMidnightChanges}
use Rattle.cal_spec.specs.declared.field.Field.{Field}
use Rattle.cal_spec.specs.declared.field.Field.TheVariants.{Year, Month, Day, Hour, Minute, Second}

-- the words about elapses that are lost because a step of this field has no end; a step of a year or a month loses no
-- elapses, so the words for these two fields are never printed
abbrev pub loss_words : Field → List ℕ
loss_words Year = codes "systemd 252 loses elapses: give the step an end"
loss_words Month = codes "systemd 252 loses elapses: give the step an end"
loss_words Day = codes "systemd 252 loses elapses in January: give the step of the days an end, as in 1..31/8"
loss_words Hour = codes "systemd 252 loses elapses on the first day of a month: give the step of the hours an end, as in 0..23/5"
loss_words Minute = codes "systemd 252 loses elapses at the start of a day: give the step of the minutes an end, as in 0..59/7"
loss_words Second = codes "systemd 252 loses elapses at the start of an hour: give the step of the seconds an end, as in 0..59/7"

unfoldable pub flaw_words : OpenStepFlaw → List ℕ
flaw_words (LosesElapses field) = loss_words field
flaw_words (FailsAtClockChanges field) = codes "systemd 252 may fail before a clock change: give the step an end, such as 2..23/12 for hours"
flaw_words FailsAtMidnightChanges =
    codes "systemd 252 may fail where the clock is set forward at midnight: give the step an end, as in 0..23/6"
